-- Slots that are filled line by line, and become blank.
use Rattle.std.proofs.Common.{◌≡◌, ℕ, zero, suc, ◌+◌, ◌-◌, ◌<◌, ◌≤◌, Bool, true, false, List, length, set, refl, sym, ap, ap₂, inl, inr, ◌∙◌, subst, arith}
use Rattle.std.specs.Prelude.{if◌then◌else◌, ◌==◌, fold, nat_le}
use Rattle.std.specs.List.{range_with_len}
use Rattle.std.proofs.lemmas.Bool.{cases_lt}
use Rattle.std.proofs.lemmas.List.{set_past}
use Rattle.vt_screen.specs.declared.cell.Cell.{Cell}
use Rattle.vt_screen.specs.declared.cell.Row.{Row}
use Rattle.vt_screen.specs.Cells.{blank, blank_row, cell_at, row_at}
use Rattle.vt_screen.specs.Lines.{filled_to}
use Rattle.vt_screen.specs.Picture.{SoundRow, columns}
use Rattle.vt_screen.specs.Slots.{Held, slot_at, row_in, rows_of, slots_blanked}
use Rattle.vt_screen.specs.Table.{table}
use Rattle.vt_screen.specs.Written.{slots_filled}
use Rattle.vt_screen.proofs.Index.{row_there}
use Rattle.vt_screen.proofs.SoundRows.{all_blank, blank_at, blank_either, cleared}
use Rattle.vt_screen.proofs.Tables.{get_or-set, nth-table}

-- a walk over one line more
walked : {A : Type 0} (f : A → ℕ → A) (n first : ℕ) (a : A)
    → fold f a (range_with_len first (suc n)) ≡ f (fold f a (range_with_len first n)) (first + n)
walked f zero first a = ap (f a) (omega arith)
walked f (suc n) first a = walked f n (first + 1) (f a first) ∙ ap (f (fold f (f a first) (range_with_len (first + 1) n))) (omega arith)

-- no slot is filled yet, and one more
pub filled_none : (cell : Cell) (to first : ℕ) (order : List ℕ) (slots : List Row) → slots ≡ slots_filled cell to first (first - first) order slots
unfolding slots_filled
filled_none cell to first order slots =
    let none : 0 ≡ first - first = omega arith in
    ap (λ (n : ℕ). slots_filled cell to first n order slots) none

pub filled_next : (cell : Cell) (to first line : ℕ) (held was : Held) (now : List Row) → 1 ≤ first → first ≤ line → line ≤ 24 → was.order ≡ held.order
    → was.slots ≡ slots_filled cell to first (line - first) held.order held.slots
    → now ≡ set was.slots (slot_at was.order line) (filled_to cell to (row_at (rows_of was) line))
    → now ≡ slots_filled cell to first (line + 1 - first) held.order held.slots
unfolding slots_filled
filled_next cell to first line held was now low from high order slots new =
    let step : List Row → ℕ → List Row = λ rows k. set rows (slot_at held.order k) (filled_to cell to (row_in rows (slot_at held.order k))) in
    let here : line ≡ first + (line - first) = omega arith in
    let more : suc (line - first) ≡ line + 1 - first = omega arith in
    new ∙ ap (λ (r : Row). set was.slots (slot_at was.order line) (filled_to cell to r)) (row_there was line (omega arith) high)
    ∙ ap₂ (λ (names : List ℕ) (rows : List Row). set rows (slot_at names line) (filled_to cell to (row_in rows (slot_at names line)))) order slots
    ∙ ap (step (fold step held.slots (range_with_len first (line - first)))) here
    ∙ sym (walked step (line - first) first held.slots)
    ∙ ap (λ (n : ℕ). fold step held.slots (range_with_len first n)) more

module _ (wide : Bool) where
  clears_blank : filled_to blank (columns wide) blank_row ≡ blank_row
  clears_blank = all_blank _ (λ k low high. blank_either (nat_le k (columns wide)) (cell_at blank_row k) (blank_at k))

  clears_either : (b : Bool) (row : Row) → filled_to blank (columns wide) row ≡ blank_row
      → filled_to blank (columns wide) (if b then blank_row else row) ≡ blank_row
  clears_either true row clears = clears_blank
  clears_either false row clears = clears

  -- in the slot of each line lies a row that becomes blank as it is filled
  abbrev Clear : List ℕ → List Row → Type 0
  Clear order slots = (line : ℕ) → 1 ≤ line → line ≤ 24 → filled_to blank (columns wide) (row_in slots (slot_at order line)) ≡ blank_row

  clear_still : (order : List ℕ) (slots : List Row) (slot : ℕ) → Clear order slots → Clear order (set slots slot blank_row)
  clear_still order slots slot clear line low high =
      elim (cases_lt slot (length slots)) [
        | inl there ↦
            subst (λ (r : Row). filled_to blank (columns wide) r ≡ blank_row) (sym (get_or-set blank_row slots slot blank_row (slot_at order line) there))
            (clears_either (slot_at order line == slot) (row_in slots (slot_at order line)) (clear line low high))
        | inr past ↦ subst (Clear order) (sym (set_past slots slot blank_row past)) clear line low high
      ]

  are_blanked : (n first : ℕ) (order : List ℕ) (slots : List Row) → Clear order slots → 1 ≤ first → first + n ≤ 25
      → slots_filled blank (columns wide) first n order slots ≡ slots_blanked first n order slots
  unfolding slots_filled slots_blanked
  are_blanked zero first order slots clear low high = refl
  are_blanked (suc n) first order slots clear low high =
      let slot = slot_at order first in
      ap (λ (r : Row). slots_filled blank (columns wide) (first + 1) n order (set slots slot r)) (clear first low (omega arith))
      ∙ are_blanked n (first + 1) order (set slots slot blank_row) (clear_still order slots slot clear) (omega arith) (omega arith)

-- the same slots by other lines
blanked_by : (n first from : ℕ) (names order : List ℕ) (slots : List Row)
    → ((i : ℕ) → i < n → slot_at names (first + i) ≡ slot_at order (from + i))
    → slots_blanked first n names slots ≡ slots_blanked from n order slots
unfolding slots_blanked
blanked_by zero first from names order slots same = refl
blanked_by (suc n) first from names order slots same =
    let first_is : first ≡ first + 0 = omega arith in
    let from_is : from + 0 ≡ from = omega arith in
    let here : slot_at names first ≡ slot_at order from = ap (slot_at names) first_is ∙ same 0 (omega arith) ∙ ap (slot_at order) from_is in
    ap (λ (slot : ℕ). slots_blanked (first + 1) n names (set slots slot blank_row)) here
    ∙ blanked_by n (first + 1) (from + 1) names order (set slots (slot_at order from) blank_row) (λ i below.
    let first_next : first + 1 + i ≡ first + (i + 1) = omega arith in
    let from_next : from + (i + 1) ≡ from + 1 + i = omega arith in
    ap (slot_at names) first_next ∙ same (i + 1) (omega arith) ∙ ap (slot_at order) from_next)

-- names that turned, and a fill of the lines that came free
pub record Filled (wide : Bool) (held : Held) (source : ℕ → ℕ) (first from n : ℕ) : Type 0 where
  pub sound : (line : ℕ) → SoundRow wide (row_at (rows_of held) line)
  pub source_low : (k : ℕ) → 1 ≤ k → k ≤ 24 → 1 ≤ source k
  pub source_high : (k : ℕ) → 1 ≤ k → k ≤ 24 → source k ≤ 24
  pub low : 1 ≤ first
  pub high : first + n ≤ 25
  pub came : (i : ℕ) → i < n → source (first + i) ≡ from + i

-- blank the slots of the lines that left
pub slots_freed : (wide : Bool) (held turned : Held) (source : ℕ → ℕ) (first from n to count : ℕ) (cell : Cell) (now : List Row)
    → Filled wide held source first from n
    → turned.order ≡ table 24 (λ k. slot_at held.order (source k)) → turned.slots ≡ held.slots
    → cell ≡ blank → to ≡ columns wide → count ≡ n → now ≡ slots_filled cell to first count turned.order turned.slots
    → now ≡ slots_blanked from n held.order held.slots
slots_freed wide held turned source first from n to count cell now filled names slots is_blank is_wide is_count new =
    let name : (k : ℕ) → 1 ≤ k → k ≤ 24 → slot_at turned.order k ≡ slot_at held.order (source k) = λ k low high.
    ap (λ (order : List ℕ). slot_at order k) names ∙ nth-table 0 24 (λ j. slot_at held.order (source j)) k low high in
    new
    ∙ ap₂ (λ (e : Cell) (column : ℕ). slots_filled e column first count turned.order turned.slots) is_blank is_wide
    ∙ ap₂ (λ (k : ℕ) (rows : List Row). slots_filled blank (columns wide) first k turned.order rows) is_count slots
    ∙ are_blanked wide n first turned.order held.slots (λ line low high.
    let at = source line in
    let at_low = filled.source_low line low high in
    let at_high = filled.source_high line low high in
    ap (λ (slot : ℕ). filled_to blank (columns wide) (row_in held.slots slot)) (name line low high)
    ∙ ap (filled_to blank (columns wide)) (sym (row_there held at at_low at_high))
    ∙ cleared wide (row_at (rows_of held) at) (filled.sound at)) filled.low filled.high
    ∙ blanked_by n first from turned.order held.order held.slots (λ i below.
    let high = filled.high in
    name (first + i) (omega (arith, filled.low)) (omega arith) ∙ ap (slot_at held.order) (filled.came i below))
