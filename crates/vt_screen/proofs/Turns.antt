-- Names of slots that turn, and the rows that they name.
use Rattle.std.proofs.Common.{◌≡◌, ℕ, ◌+◌, ◌-◌, ◌<◌, ◌≤◌, length, refl, sym, ap, ◌∙◌, subst, arith}
use Rattle.std.proofs.lemmas.Bool.Decides.{nat_tests}
use Rattle.vt_screen.specs.Table.{table}
use Rattle.vt_screen.specs.declared.cell.Row.{Row}
use Rattle.vt_screen.specs.Cells.{blank_row, rows_by}
use Rattle.vt_screen.specs.Slots.{Held, OncePerSlot, first_order, slot_at, row_in, rows_of, line_below, line_above}
use Rattle.vt_screen.specs.Written.{lines_taken}
use Rattle.vt_screen.proofs.Rows.{blank_whole}
use Rattle.vt_screen.proofs.Index.{row_there}
use Rattle.vt_screen.proofs.Tables.{nth_keeps, length-table, nth-table, nth_next, table_ext}

-- each line takes the slot of another, and no two that of the same
pub record Turning (source : ℕ → ℕ) : Type 0 where
  pub low : (k : ℕ) → 1 ≤ k → k ≤ 24 → 1 ≤ source k
  pub high : (k : ℕ) → 1 ≤ k → k ≤ 24 → source k ≤ 24
  pub once : (j k : ℕ) → 1 ≤ j → j ≤ 24 → 1 ≤ k → k ≤ 24 → source j ≡ source k → j ≡ k

module _ (n top bottom : ℕ) (low : 1 ≤ top) (room : top + n ≤ bottom + 1) (apart : top ≤ bottom) (high : bottom ≤ 24) where
  pub turning_up : Turning (line_below n top bottom)
  turning_up = record {
    low = λ k klow khigh. grind (arith, nat_tests);
    high = λ k klow khigh. grind (arith, nat_tests);
    once = λ j k jlow jhigh klow khigh same. grind (arith, nat_tests);
  }

  -- down by n is up by all but n
  pub up_is_down : (k : ℕ) → line_below (bottom + 1 - top - n) top bottom k ≡ line_above n top bottom k
  up_is_down k = grind (arith, nat_tests)

module _ (source : ℕ → ℕ) (turning : Turning source) (held : Held) (once : OncePerSlot held) where
  abbrev pub turned : Held
  turned = record { order = table 24 (λ line. slot_at held.order (source line)); slots = held.slots }

  slot_turned : (k : ℕ) → 1 ≤ k → k ≤ 24 → slot_at turned.order k ≡ slot_at held.order (source k)
  slot_turned k low high = nth-table 0 24 (λ line. slot_at held.order (source line)) k low high

  pub rows_turned : rows_of turned ≡ lines_taken source (rows_of held)
  rows_turned = table_ext 24 _ _ (λ k low high.
      ap (row_in held.slots) (slot_turned k low high) ∙ sym (row_there held (source k) (turning.low k low high) (turning.high k low high)))

  pub once_turned : OncePerSlot turned
  once_turned = record {
    order = length-table 24 _;
    slots = once.slots;
    named = nth_keeps (λ p. p < 24) 0 24 _ (omega arith) (λ k low high. once.named (source k));
    once = λ line other llow lhigh olow ohigh same. turning.once line other llow lhigh olow ohigh
        (once.once (source line) (source other) (turning.low line llow lhigh) (turning.high line llow lhigh) (turning.low other olow ohigh) (turning.high other olow ohigh)
        (sym (slot_turned line llow lhigh) ∙ same ∙ slot_turned other olow ohigh));
    cells = once.cells;
  }

-- the names at first, with the same row in every slot
pub first_once : (row : Row) → length row.cells ≡ 132 → OncePerSlot (record { order = first_order; slots = table 24 (λ _. row) })
first_once row whole =
    let name : ℕ → ℕ = λ line. line - 1 in
    record {
      order = length-table 24 name;
      slots = length-table 24 (λ _. row);
      named = nth_keeps (λ p. p < 24) 0 24 name (omega arith) (λ k low high. omega arith);
      once = λ line other llow lhigh olow ohigh same.
          let a = nth-table 0 24 name line llow lhigh in
          let b = nth-table 0 24 name other olow ohigh in
          omega arith;
      cells = λ slot. cells_in row whole slot;
    }
  where
    cells_in : (row : Row) → length row.cells ≡ 132 → (slot : ℕ) → length (row_in (table 24 (λ _. row)) slot).cells ≡ 132
    cells_in row whole slot =
        subst (λ (r : Row). length r.cells ≡ 132) (nth_next blank_row (table 24 (λ _. row)) slot)
        (nth_keeps (λ r. length r.cells ≡ 132) blank_row 24 (λ _. row) blank_whole (λ k low high. whole) (slot + 1))

pub first_rows : rows_of (record { order = first_order; slots = rows_by (λ _. blank_row) }) ≡ rows_by (λ _. blank_row)
first_rows = table_ext 24 _ _ (λ k low high.
    let slot = slot_at first_order k in
    sym (nth_next blank_row (table 24 (λ _. blank_row)) slot) ∙ nth_keeps (λ r. r ≡ blank_row) blank_row 24 (λ _. blank_row) refl (λ j jlow jhigh. refl) (slot + 1))
