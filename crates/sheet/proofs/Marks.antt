-- Marks that join a character.
use Rattle.std.proofs.Common.{◌≡◌, ℕ, ◌+◌, ◌-◌, ◌≤◌, List, length, set, refl, sym, ap, inl, inr, ◌∙◌, arith}
use Rattle.std.specs.Prelude.{if◌then◌else◌, ◌==◌}
use Rattle.std.proofs.lemmas.Bool.{cases_eq, cases_lt}
use Rattle.std.proofs.lemmas.Bool.Decides.{nat_tests}
use Rattle.std.proofs.lemmas.List.{length-set}
use Rattle.sheet.specs.declared.rendition.Colour.TheVariants.{Default}
use Rattle.sheet.specs.Cells.{Cell, blank, cell_at, is_covered, is_wide, with_mark}
use Rattle.sheet.specs.Halves.{Whole}
use Rattle.sheet.specs.Edits.{character_column, mark_added}
use Rattle.sheet.proofs.Tables.{length-table, is_table, nth-set}
use Rattle.sheet.proofs.Rows.{cell_outside, past_the_first}
use Rattle.sheet.proofs.Shifts.{there}

-- a mark changes no width
pub marked_wide : (mark : ℕ) (cell : Cell) → is_wide (with_mark mark cell) ≡ is_wide cell
unfolding is_wide with_mark
marked_wide mark cell = refl

pub marked_covered : (mark : ℕ) (cell : Cell) → is_covered (with_mark mark cell) ≡ is_covered cell
unfolding is_covered with_mark
marked_covered mark cell = refl

module _ (at mark : ℕ) (row : List Cell) where
  abbrev step : ℕ → Cell
  step k = if k == character_column at row then with_mark mark (cell_at row k) else cell_at row k

  pub length_marked : length (mark_added at mark row) ≡ length row
  length_marked = length-table (length row) step

  -- every column keeps what it is
  wide_same : (k : ℕ) → is_wide (cell_at (mark_added at mark row) k) ≡ is_wide (cell_at row k)
  wide_same k =
      let here = there (length row) step k in
      let out = cell_outside row k in
      let same = marked_wide mark (cell_at row k) in
      elim (cases_lt (length row) k) [
        | inl past ↦ (let e = out (λ l. past) in grind (arith, nat_tests))
        | inr inside ↦ elim (cases_lt 0 k) [
          | inl low ↦ ap is_wide (here ∙ grind (arith, nat_tests)) ∙ chosen k
          | inr zero ↦ (let e = out (λ l. absurd (omega arith)) in grind (arith, nat_tests))
        ]
      ]
    where
      chosen : (k : ℕ) → is_wide (step k) ≡ is_wide (cell_at row k)
      chosen k = let same = marked_wide mark (cell_at row k) in
          elim (cases_eq k (character_column at row)) [ inl e ↦ grind (arith, nat_tests) | inr ne ↦ grind (arith, nat_tests) ]

  covered_same : (k : ℕ) → is_covered (cell_at (mark_added at mark row) k) ≡ is_covered (cell_at row k)
  covered_same k =
      let here = there (length row) step k in
      let out = cell_outside row k in
      elim (cases_lt (length row) k) [
        | inl past ↦ (let e = out (λ l. past) in grind (arith, nat_tests))
        | inr inside ↦ elim (cases_lt 0 k) [
          | inl low ↦ ap is_covered (here ∙ grind (arith, nat_tests)) ∙ chosen k
          | inr zero ↦ (let e = out (λ l. absurd (omega arith)) in grind (arith, nat_tests))
        ]
      ]
    where
      chosen : (k : ℕ) → is_covered (step k) ≡ is_covered (cell_at row k)
      chosen k = let same = marked_covered mark (cell_at row k) in
          elim (cases_eq k (character_column at row)) [ inl e ↦ grind (arith, nat_tests) | inr ne ↦ grind (arith, nat_tests) ]

  pub whole_marked : Whole row → Whole (mark_added at mark row)
  whole_marked whole k = covered_same (k + 1) ∙ whole k ∙ sym (wide_same k)

  -- what the body writes
  pub mark_written : (i : ℕ) (cell : Cell) → i ≡ character_column at row → 1 ≤ i → i ≤ length row → cell ≡ with_mark mark (cell_at row i)
      → set row (i - 1) cell ≡ mark_added at mark row
  mark_written i cell is low high is_cell =
      is_table (blank Default) (length row) _ _ (length-set row (i - 1) cell) (λ k klow khigh.
      let new = nth-set (blank Default) row (i - 1) cell k (omega arith) klow in
      elim (cases_eq k i) [
        | inl e ↦ (let f = ap (λ (j : ℕ). with_mark mark (cell_at row j)) e in grind (arith, nat_tests))
        | inr ne ↦ grind (arith, nat_tests)
      ])

-- the column of a character is one of the row's
pub character_low : (at : ℕ) (row : List Cell) → Whole row → 1 ≤ at → 1 ≤ character_column at row
character_low at row whole low = let two = past_the_first row at whole low in grind (arith, nat_tests)

pub character_high : (at : ℕ) (row : List Cell) → at ≤ length row → character_column at row ≤ length row
character_high at row high = grind (arith, nat_tests)
