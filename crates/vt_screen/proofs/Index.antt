-- Rows behind an index: what a write to one slot does to the rows by line.
use Rattle.std.proofs.Common.{◌≡◌, ◌≢◌, ℕ, ◌-◌, ◌<◌, ◌≤◌, List, length, get_or, set, sym, ap, ap₂, inl, inr, ◌∙◌, subst, arith}
use Rattle.std.specs.Prelude.{if◌then◌else◌, ◌==◌}
use Rattle.std.proofs.lemmas.Bool.{cases_eq}
use Rattle.std.proofs.lemmas.Bool.Decides.{nat_tests}
use Rattle.std.proofs.lemmas.List.{length-set, get_or_default}
use Rattle.vt_screen.specs.declared.cell.Row.{Row}
use Rattle.vt_screen.specs.Cells.{blank_row, row_at}
use Rattle.vt_screen.specs.Slots.{Held, OncePerSlot, slot_at, row_in, rows_of}
use Rattle.vt_screen.specs.Puts.{with_row}
use Rattle.vt_screen.proofs.Tables.{nth-table, table_ext, get_or-set, nth_is}

-- the row of a line lies in the line's slot
pub row_there : (held : Held) (line : ℕ) → 1 ≤ line → line ≤ 24 → row_at (rows_of held) line ≡ row_in held.slots (slot_at held.order line)
row_there held line low high = nth-table blank_row 24 (λ k. row_in held.slots (slot_at held.order k)) line low high

-- the name of a line's slot, as the code reads it
pub slot_read : (order : List ℕ) (line : ℕ) → get_or order (line - 1) 0 ≡ slot_at order line
slot_read order line = sym (nth_is 0 order line)

module _ (held : Held) (once : OncePerSlot held) where
  -- the slot of a line holds another row
  abbrev pub replaced : ℕ → Row → Held
  replaced line row = record { order = held.order; slots = set held.slots (slot_at held.order line) row }

  -- what lies in the slot of line k then
  pub one_row_at : (line : ℕ) (row : Row) (k : ℕ) → 1 ≤ line → line ≤ 24 → 1 ≤ k → k ≤ 24
      → row_in (replaced line row).slots (slot_at held.order k) ≡ (if k == line then row else row_at (rows_of held) k)
  one_row_at line row k low high klow khigh =
      let slot = slot_at held.order line in
      let there = row_there held k klow khigh in
      let new = get_or-set blank_row held.slots slot row (slot_at held.order k) (omega (arith, once.named line, once.slots)) in
      elim (cases_eq k line) [
        | inl same ↦
            let e : slot_at held.order k ≡ slot = ap (slot_at held.order) same in
            grind (arith, nat_tests)
        | inr other ↦
            let e : slot_at held.order k ≢ slot = λ f. other (once.once k line klow khigh low high f) in
            grind (arith, nat_tests)
      ]

  pub one_row : (line : ℕ) (row : Row) → 1 ≤ line → line ≤ 24 → rows_of (replaced line row) ≡ with_row line row (rows_of held)
  one_row line row low high = table_ext 24 _ _ (λ k klow khigh. one_row_at line row k low high klow khigh)

  pub replaced_once : (line : ℕ) (row : Row) → length row.cells ≡ 132 → OncePerSlot (replaced line row)
  replaced_once line row whole = record {
    order = once.order;
    slots = length-set held.slots (slot_at held.order line) row ∙ once.slots;
    named = once.named;
    once = once.once;
    cells = λ slot.
        let new = get_or-set blank_row held.slots (slot_at held.order line) row slot (omega (arith, once.named line, once.slots)) in
        let old = once.cells slot in
        elim (cases_eq slot (slot_at held.order line)) [ inl same ↦ grind (arith, nat_tests) | inr other ↦ grind (arith, nat_tests) ];
  }

-- The same as a body leaves it: the fields held, as the value old that contracts see.
module _ (held old : Held) (once : OncePerSlot held) (seen : held ≡ old) (line : ℕ) (low : 1 ≤ line) (high : line ≤ 24) where
  pub slot_below : get_or held.order (line - 1) 0 < 24
  slot_below = omega (arith, slot_read held.order line, once.named line)

  pub row_read : (d : Row) → get_or held.slots (get_or held.order (line - 1) 0) d ≡ row_at (rows_of old) line
  row_read d =
      ap (λ (p : ℕ). get_or held.slots p d) (slot_read held.order line)
      ∙ get_or_default held.slots (slot_at held.order line) d blank_row (omega (arith, once.named line, once.slots))
      ∙ sym (row_there held line low high)
      ∙ ap (λ (h : Held). row_at (rows_of h) line) seen

  pub read_whole : (d : Row) → length (get_or held.slots (get_or held.order (line - 1) 0) d).cells ≡ 132
  read_whole d =
      ap (λ (r : Row). length r.cells) (ap (λ (p : ℕ). get_or held.slots p d) (slot_read held.order line)
      ∙ get_or_default held.slots (slot_at held.order line) d blank_row (omega (arith, once.named line, once.slots)))
      ∙ once.cells (slot_at held.order line)

  pub row_changed : (op : Row → Row) (d new : Row) → new ≡ op (get_or held.slots (get_or held.order (line - 1) 0) d)
      → rows_of (record { order = held.order; slots = set held.slots (get_or held.order (line - 1) 0) new })
      ≡ with_row line (op (row_at (rows_of old) line)) (rows_of old)
  row_changed op d new is_new =
      ap (λ (p : ℕ). rows_of (record { order = held.order; slots = set held.slots p new })) (slot_read held.order line)
      ∙ one_row held once line new low high
      ∙ ap (λ (h : Held). with_row line new (rows_of h)) seen
      ∙ ap (λ (r : Row). with_row line r (rows_of old)) (is_new ∙ ap op (row_read d))

  pub changed_once : (new : Row) → length new.cells ≡ 132
      → OncePerSlot (record { order = held.order; slots = set held.slots (get_or held.order (line - 1) 0) new })
  changed_once new whole =
      subst (λ (p : ℕ). OncePerSlot (record { order = held.order; slots = set held.slots p new })) (sym (slot_read held.order line)) (replaced_once held once line new whole)

  pub slots_changed : (op : Row → Row) (d new : Row) → new ≡ op (get_or held.slots (get_or held.order (line - 1) 0) d)
      → set held.slots (get_or held.order (line - 1) 0) new ≡ set old.slots (slot_at old.order line) (op (row_at (rows_of old) line))
  slots_changed op d new is_new =
      ap₂ (λ (p : ℕ) (r : Row). set held.slots p r) (slot_read held.order line) (is_new ∙ ap op (row_read d))
      ∙ ap (λ (h : Held). set h.slots (slot_at h.order line) (op (row_at (rows_of old) line))) seen
