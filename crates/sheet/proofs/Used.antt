-- How many of a row's first cells may be in use, after what is done in it.
use Rattle.std.proofs.Common.{◌≡◌, ℕ, ◌+◌, ◌-◌, ◌<◌, ◌≤◌, true, false, List, length, sym, ap, inl, inr, ◌∙◌, arith}
use Rattle.std.specs.Prelude.{if◌then◌else◌, ◌==◌, nat_le}
use Rattle.std.proofs.lemmas.Bool.{cases_lt}
use Rattle.std.proofs.lemmas.Bool.Decides.{nat_tests}
use Rattle.sheet.specs.declared.rendition.Colour.{Colour}
use Rattle.sheet.specs.declared.rendition.Colour.TheVariants.{Default}
use Rattle.sheet.specs.declared.rendition.Rendition.{Rendition}
use Rattle.sheet.specs.Cells.{Cell, blank, cell_at, is_covered, is_wide, with_mark}
use Rattle.sheet.specs.Edits.{character_column, deleted, erased, filled, inserted, mark_added, moved_right, put, taken_out, written}
use Rattle.sheet.specs.Halves.{Whole, mended, parted}
use Rattle.sheet.specs.Grid.{IsUsed}
use Rattle.sheet.specs.Packed.{unpacked}
use Rattle.sheet.proofs.Tables.{length-table, table_ext}
use Rattle.sheet.proofs.Rows.{blank_narrow, blank_open, filled_none, filled_there, length_erased, mended_there, mended_whole, written_there}
use Rattle.sheet.proofs.Shifts.{parted_there, parted_whole, there}
use Rattle.sheet.proofs.Marks.{length_marked}
use Rattle.sheet.proofs.Wholes.{length_deleted, length_inserted, length_put}

-- a blank cell is no half
blank_stays : (paper : Colour) (row : List Cell) (k : ℕ) → cell_at row k ≡ blank Default → cell_at (mended paper row) k ≡ blank Default
blank_stays paper row k is =
    let narrow : is_wide (cell_at row k) ≡ false = ap is_wide is ∙ blank_narrow Default in
    let uncovered : is_covered (cell_at row k) ≡ false = ap is_covered is ∙ blank_open Default in
    mended_there paper row k ∙ grind (arith, nat_tests)

module _ (row : List Cell) (used : ℕ) (is : IsUsed row used) where
  -- those of before and those of a wide character
  pub wide_used : (column character : ℕ) (rendition : Rendition) (most : ℕ) → 1 ≤ column → column + 1 ≤ length row
      → used ≤ most → column + 1 ≤ most → most ≤ length row → IsUsed (put column character true rendition row) most
  wide_used column character rendition most low room old new within = record {
    within = omega (arith, length_put column character true rendition row);
    tail = λ k past.
        let here = written_there column character rendition row low true k (omega arith) (λ e. room) in
        let was = is.tail k (omega arith) in
        blank_stays rendition.paper (written column character true rendition row) k (here ∙ grind (arith, nat_tests));
  }

  -- those of before and that of a mark
  pub mark_used : (column mark most : ℕ) → used ≤ most → column ≤ most → most ≤ length row → IsUsed (mark_added column mark row) most
  mark_used column mark most old new within = record {
    within = omega (arith, length_marked column mark row);
    tail = λ k past.
        let here = there (length row) (λ j. if j == character_column column row then with_mark mark (cell_at row j) else cell_at row j) k in
        let was = is.tail k (omega arith) in
        here ∙ grind (arith, nat_tests);
  }

  -- they move right, those that come in among them
  pub inserted_used : (n from : ℕ) (paper : Colour) (most : ℕ) → 1 ≤ from
      → (most < length row → used + n ≤ most) → (most < length row → from + n ≤ most + 1) → most ≤ length row
      → IsUsed (inserted n from paper row) most
  inserted_used n from paper most low old new within = record {
    within = omega (arith, length_inserted n from paper row);
    tail = λ k past.
        let here = there (length row) (λ j. if nat_le from j then (if nat_le (from + n) j then cell_at row (j - n) else blank paper) else cell_at row j) k in
        blank_stays paper (moved_right n from paper row) k
        (here ∙ elim (cases_lt (length row) k) [
          | inl out ↦ grind (arith, nat_tests)
          | inr inside ↦
              let was = is.tail (k - n) (omega (arith, old (omega arith))) in
              let more = new (omega arith) in
              grind (arith, nat_tests)
        ]);
  }

  module _ (paper : Colour) (is_blank : blank paper ≡ blank Default) where
    -- cells behind them that become blank stay as they are
    pub erased_short : (from to end : ℕ) → (end < to → used ≤ end) → end ≤ to → erased from end paper row ≡ erased from to paper row
    erased_short from to end beyond less =
        ap (mended paper) (table_ext (length row) _ _ (λ k low high.
        elim (cases_lt end k) [
          | inl past ↦ elim (cases_lt to k) [
            | inl out ↦ grind (arith, nat_tests)
            | inr within ↦ (let was = is.tail k (omega (arith, beyond (omega arith))) in grind (arith, nat_tests))
          ]
          | inr inside ↦ grind (arith, nat_tests)
        ]))

    pub erased_beyond : (from to : ℕ) → Whole row → used < from → from ≤ to → row ≡ erased from to paper row
    erased_beyond from to whole past apart =
        sym (ap (mended paper) (sym (filled_none row from (from - 1) (blank paper) (omega arith))) ∙ mended_whole paper row whole)
        ∙ erased_short from to (from - 1) (λ less. omega arith) (omega arith)

    -- those that become blank need no more, and none from the first of them on where they are the last
    pub erased_used : (from to most : ℕ) → 1 ≤ from → to ≤ length row → most ≤ used → (most < used → from ≤ most + 1) → (most < used → used ≤ to)
        → IsUsed (erased from to paper row) most
    erased_used from to most low high fewer start end = record {
      within = omega (arith, is.within, length_erased from to paper row);
      tail = λ k past.
          let here = filled_there row from to (blank paper) k low high in
          blank_stays paper (filled from to (blank paper) row) k
          (here ∙ elim (cases_lt used k) [
            | inl beyond ↦ (let was = is.tail k beyond in grind (arith, nat_tests))
            | inr within ↦ (let first = start (omega arith) in let last = end (omega arith) in grind (arith, nat_tests))
          ]);
    }

    parted_used : (border : ℕ) (part : List Cell) (k : ℕ) → Whole part → 1 ≤ border → cell_at part k ≡ blank Default
        → cell_at (parted border paper part) k ≡ blank Default
    parted_used border part k whole low was = parted_there border paper part whole low k ∙ grind (arith, nat_tests)

    -- they move left, and blank ones come in
    pub deleted_used : (n from : ℕ) → Whole row → 1 ≤ from → IsUsed (deleted n from paper row) used
    deleted_used n from whole low =
        let one = parted from paper row in
        let two = parted (from + n) paper one in
        let bare : (k : ℕ) → used < k → cell_at two k ≡ blank Default =
        λ k past. parted_used (from + n) one k (parted_whole from paper row whole low) (omega arith) (parted_used from row k whole low (is.tail k past)) in
        record {
          within = omega (arith, is.within, length_deleted n from paper row);
          tail = λ k past.
              let here = there (length two) (λ j. if nat_le from j then (if nat_le (j + n) (length two) then cell_at two (j + n) else blank paper) else cell_at two j) k in
              let still = bare k past in
              let moved = bare (k + n) (omega arith) in
              blank_stays paper (taken_out n from paper two) k (here ∙ grind (arith, nat_tests));
        }

-- those of a row that is laid out again
pub unpacked_used : (columns : ℕ) (kept : List Cell) (used : ℕ) → IsUsed kept used → length kept ≤ columns → IsUsed (unpacked columns kept) used
unpacked_used columns kept used is short = record {
  within = omega (arith, is.within, length-table columns (cell_at kept));
  tail = λ k past.
      let here = there columns (cell_at kept) k in
      let was = is.tail k past in
      here ∙ grind (arith, nat_tests);
}
