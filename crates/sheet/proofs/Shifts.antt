-- Cells that move within a row.
use Rattle.std.proofs.Common.{◌≡◌, ℕ, ◌+◌, ◌-◌, ◌≤◌, ◌≢◌, true, false, List, length, get_or, sym, ap, inl, inr, ◌∙◌, arith}
use Rattle.std.specs.Prelude.{if◌then◌else◌, ◌==◌, ◌&&◌, ◌||◌, nat_le}
use Rattle.std.specs.List.{CopiedTo, SameBelow}
use Rattle.std.proofs.lemmas.Bool.{cases_eq, cases_lt}
use Rattle.std.proofs.lemmas.Bool.Decides.{nat_tests}
use Rattle.sheet.specs.Cells.{Cell}
use Rattle.sheet.specs.declared.rendition.Colour.{Colour}
use Rattle.sheet.specs.declared.rendition.Colour.TheVariants.{Default}
use Rattle.sheet.specs.Table.{table}
use Rattle.sheet.specs.Cells.{blank, is_wide, is_covered, cell_at}
use Rattle.sheet.specs.Halves.{Whole, border_mended, parted}
use Rattle.sheet.specs.Edits.{filled, moved_right, inserted, taken_out}
use Rattle.sheet.proofs.Tables.{nth-table_any, nth_is, nth_past, nth_none, table_ext}
use Rattle.sheet.proofs.Rows.{Intact, blank_narrow, blank_open, cell_outside, three_mended, past_the_first, either}

-- what stands at any place of a table of cells
pub there : (n : ℕ) (f : ℕ → Cell) (k : ℕ) → cell_at (table n f) k ≡ (if nat_le 1 k && nat_le k n then f k else blank Default)
there n f k = nth-table_any (blank Default) n f k

module _ (row : List Cell) (n from : ℕ) (paper : Colour) (low : 1 ≤ from) (room : from + n ≤ length row + 1) where
  abbrev right : ℕ → Cell
  right k = if nat_le from k then (if nat_le (from + n) k then cell_at row (k - n) else blank paper) else cell_at row k

  abbrev left : ℕ → Cell
  left k = if nat_le from k then (if nat_le (k + n) (length row) then cell_at row (k + n) else blank paper) else cell_at row k

  module _ (after : List Cell) (cell : Cell) (len : length after ≡ length row) (is_blank : cell ≡ blank paper) where
    pub right_copied : CopiedTo row after (from - 1) (from - 1 + n) (length row - n - (from - 1)) → SameBelow row after (from - 1 + n)
        → filled from (from + n - 1) cell after ≡ moved_right n from paper row
    right_copied copied below =
        ap (λ (m : ℕ). table m (λ (k : ℕ). if nat_le from k && nat_le k (from + n - 1) then cell else cell_at after k)) len
        ∙ table_ext (length row) _ _ (λ k klow khigh.
        let here = nth_is (blank Default) after k klow in
        let was = nth_is (blank Default) row k klow in
        elim (cases_lt k from) [
          | inl before ↦ (let same = below (k - 1) (blank Default) (omega arith) in grind (arith, nat_tests))
          | inr past ↦ elim (cases_lt k (from + n)) [
            | inl within ↦ grind (arith, nat_tests)
            | inr moved ↦
                let came = copied (k - 1) (blank Default) (omega arith) (omega arith) in
                let source = nth_is (blank Default) row (k - n) (omega arith) in
                let same : get_or row (from - 1 + (k - 1 - (from - 1 + n))) (blank Default) ≡ get_or row (k - n - 1) (blank Default) = ap (λ (i : ℕ). get_or row i (blank Default)) (omega arith) in
                grind (arith, nat_tests)
          ]
        ])

    pub left_copied : CopiedTo row after (from + n - 1) (from - 1) (length row - (from + n - 1)) → SameBelow row after (from - 1)
        → filled (length row + 1 - n) (length row) cell after ≡ taken_out n from paper row
    left_copied copied below =
        ap (λ (m : ℕ). table m (λ (k : ℕ). if nat_le (length row + 1 - n) k && nat_le k (length row) then cell else cell_at after k)) len
        ∙ table_ext (length row) _ _ (λ k klow khigh.
        let here = nth_is (blank Default) after k klow in
        let was = nth_is (blank Default) row k klow in
        elim (cases_lt k from) [
          | inl before ↦ (let same = below (k - 1) (blank Default) (omega arith) in grind (arith, nat_tests))
          | inr past ↦ elim (cases_lt (length row) (k + n)) [
            | inl gone ↦ grind (arith, nat_tests)
            | inr moved ↦
                let came = copied (k - 1) (blank Default) (omega arith) (omega arith) in
                let source = nth_is (blank Default) row (k + n) (omega arith) in
                let same : get_or row (from + n - 1 + (k - 1 - (from - 1))) (blank Default) ≡ get_or row (k + n - 1) (blank Default) = ap (λ (i : ℕ). get_or row i (blank Default)) (omega arith) in
                grind (arith, nat_tests)
          ]
        ])

  module _ (whole : Whole row) where
    pub right_intact : (k : ℕ) → k + 1 ≢ from → k + 1 ≢ from + n → k + 1 ≢ length row + 1 → Intact (moved_right n from paper row) k
    right_intact k a b c =
        let here = there (length row) right k in
        let next = there (length row) right (k + 1) in
        let w = whole k in
        let v = whole (k - n) in
        let zero = nth_none (blank Default) row in
        let n1 = blank_narrow paper in
        let n2 = blank_open paper in
        let n3 = blank_narrow Default in
        let n4 = blank_open Default in
        elim (cases_lt (k + 1) from) [
          | inl before ↦ elim (cases_eq k 0) [
            | inl e ↦ (let f = ap (cell_at row) e in grind (arith, nat_tests))
            | inr ne ↦ grind (arith, nat_tests)
          ]
          | inr past ↦ elim (cases_lt k (from + n)) [
            | inl within ↦ grind (arith, nat_tests)
            | inr moved ↦ (let e : k + 1 - n ≡ k - n + 1 = omega arith in let f = ap (cell_at row) e in grind (arith, nat_tests))
          ]
        ]

    pub left_whole : is_covered (cell_at row from) ≡ false → is_covered (cell_at row (from + n)) ≡ false → Whole (taken_out n from paper row)
    left_whole start end k =
        let here = there (length row) left k in
        let next = there (length row) left (k + 1) in
        let w = whole k in
        let v = whole (k + n) in
        let zero = nth_none (blank Default) row in
        let n1 = blank_narrow paper in
        let n2 = blank_open paper in
        let n3 = blank_narrow Default in
        let n4 = blank_open Default in
        elim (cases_lt k from) [
          | inl before ↦ elim (cases_eq (k + 1) from) [
            | inl e ↦ (let f = ap (cell_at row) e in
                let g : k + 1 + n ≡ from + n = omega arith in
                let h = ap (cell_at row) g in
                elim (cases_eq k 0) [
                  | inl e0 ↦ (let f0 = ap (cell_at row) e0 in grind (arith, nat_tests))
                  | inr ne ↦ grind (arith, nat_tests)
                ])
            | inr ne ↦ elim (cases_eq k 0) [
              | inl e0 ↦ (let f0 = ap (cell_at row) e0 in grind (arith, nat_tests))
              | inr ne0 ↦ grind (arith, nat_tests)
            ]
          ]
          | inr past ↦
              let e : k + 1 + n ≡ k + n + 1 = omega arith in
              let f = ap (cell_at row) e in
              elim (cases_lt (length row) (k + n + 1)) [
                | inl gone ↦ (let o = nth_past (blank Default) row (k + n + 1) gone in grind (arith, nat_tests))
                | inr stays ↦ grind (arith, nat_tests)
              ]
        ]

    -- mending the borders of what came in
    pub right_inserted : border_mended (length row + 1) paper (border_mended (from + n) paper (border_mended from paper (moved_right n from paper row))) ≡ inserted n from paper row
    right_inserted = three_mended from (from + n) (length row + 1) paper (moved_right n from paper row) low (omega arith) (omega arith) right_intact

-- A border that is parted.
module _ (border : ℕ) (paper : Colour) (row : List Cell) (whole : Whole row) (low : 1 ≤ border) where
  abbrev parts : ℕ → Cell
  parts k = if is_covered (cell_at row border) && (k == border || k + 1 == border) then blank paper else cell_at row k

  within : is_covered (cell_at row border) ≡ true → border ≤ length row
  within cut = elim (cases_lt (length row) border) [
    | inl past ↦ (let o = nth_past (blank Default) row border past in let b = blank_open Default in absurd (grind (arith, nat_tests)))
    | inr high ↦ high
  ]

  pub parted_there : (k : ℕ) → cell_at (parted border paper row) k ≡ parts k
  parted_there k =
      let here = there (length row) parts k in
      let out = cell_outside row k in
      let two = past_the_first row border whole low in
      let high = within in
      elim (cases_lt (length row) k) [
        | inl past ↦ (let e = out (λ l. past) in grind (arith, nat_tests))
        | inr inside ↦ elim (cases_lt 0 k) [
          | inl klow ↦ grind (arith, nat_tests)
          | inr zero ↦ (let e = out (λ l. absurd (omega arith)) in grind (arith, nat_tests))
        ]
      ]

  pub parted_whole : Whole (parted border paper row)
  parted_whole k =
      ap is_covered (parted_there (k + 1)) ∙ here ∙ ap is_wide (sym (parted_there k))
    where
      here : is_covered (parts (k + 1)) ≡ is_wide (parts k)
      here =
          let w = whole k in
          let n1 = blank_narrow paper in
          let n2 = blank_open paper in
          let one = either (cell_at row k) in
          let two = either (cell_at row (k + 1)) in
          elim (cases_eq (k + 1) border) [
            | inl e ↦ (let f = ap (cell_at row) e in grind (arith, nat_tests))
            | inr ne ↦ elim (cases_eq k border) [
              | inl e ↦ (let f = ap (cell_at row) e in grind (arith, nat_tests))
              | inr away ↦ elim (cases_eq (k + 1 + 1) border) [
                | inl e ↦ (let f = ap (cell_at row) e in let v = whole (k + 1) in grind (arith, nat_tests))
                | inr far ↦ grind (arith, nat_tests)
              ]
            ]
          ]

  pub parted_still_open : (k : ℕ) → is_covered (cell_at row k) ≡ false → is_covered (cell_at (parted border paper row) k) ≡ false
  parted_still_open k uncovered = ap is_covered (parted_there k) ∙ (let n2 = blank_open paper in grind (arith, nat_tests))

  pub parted_open : is_covered (cell_at (parted border paper row) border) ≡ false
  parted_open = ap is_covered (parted_there border) ∙ (let n2 = blank_open paper in grind (arith, nat_tests))
