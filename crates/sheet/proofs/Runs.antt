-- Characters that are put one after another, and at once.
use Rattle.std.proofs.Common.{◌≡◌, ℕ, ◌+◌, ◌-◌, ◌<◌, ◌≤◌, ◌≢◌, Bool, false, List, [], ◌∷◌, length, max, get_or, set, drop, refl, sym, ap, inl, inr, ◌∙◌, subst, arith}
use Rattle.std.specs.Prelude.{if◌then◌else◌, ◌==◌, ◌&&◌, ◌||◌, not}
use Rattle.std.proofs.lemmas.Bool.{cases_eq, cases_lt}
use Rattle.std.proofs.lemmas.Bool.Decides.{nat_tests}
use Rattle.std.proofs.lemmas.List.{at_drop_all, at_drop_more}
use Rattle.sheet.specs.Cells.{Cell}
use Rattle.sheet.specs.declared.rendition.Colour.{Colour}
use Rattle.sheet.specs.declared.rendition.Rendition.{Rendition}
use Rattle.sheet.specs.Table.{table}
use Rattle.sheet.specs.Cells.{blank, covering, lettered, is_wide, is_covered, cell_at}
use Rattle.sheet.specs.Halves.{Whole, mended, border_mended}
use Rattle.sheet.specs.Edits.{written, put, run_written, run_put}
use Rattle.sheet.specs.Grid.{IsUsed}
use Rattle.sheet.proofs.Tables.{length-table, table_ext}
use Rattle.sheet.proofs.Rows.{Intact, at_mended, blank_narrow, still_blank, lettered_wide, lettered_open, narrow_written, still_narrow, written_there, narrow_put, two_mended, mended_same, mended_whole, whole_mended}

module _ (rendition : Rendition) where
  pub len_written : (column : ℕ) (cs : List ℕ) (row : List Cell) → length (run_written column cs rendition row) ≡ length row
  len_written column [] row = refl
  len_written column (c ∷ cs) row = len_written (column + 1) cs (written column c false rendition row) ∙ length-table (length row) _

  -- beside what was written nothing changed
  pub run_outside : (cs : List ℕ) (column : ℕ) (row : List Cell) (k : ℕ) → 1 ≤ column → column + length cs ≤ length row + 1 → (column ≤ k → column + length cs ≤ k)
      → cell_at (run_written column cs rendition row) k ≡ cell_at row k
  run_outside [] column row k low room out = refl
  run_outside (c ∷ cs) column row k low room out =
      let w = written column c false rendition row in
      let len : length w ≡ length row = length-table (length row) _ in
      run_outside cs (column + 1) w k (omega arith) (omega arith) (λ past. omega (arith, out (omega arith)))
      ∙ (let here = written_there column c rendition row low false k (omega arith) (λ e. cc) in
      let ne : k ≢ column = λ e. omega (arith, out (omega arith)) in
      grind (arith, nat_tests))

  -- each cell that was written is narrow
  pub run_inside : (cs : List ℕ) (column : ℕ) (row : List Cell) (k : ℕ) → 1 ≤ column → column + length cs ≤ length row + 1 → column ≤ k → k < column + length cs
      → (is_wide (cell_at (run_written column cs rendition row) k) ≡ false) × (is_covered (cell_at (run_written column cs rendition row) k) ≡ false)
  run_inside [] column row k low room from to = absurd (omega arith)
  run_inside (c ∷ cs) column row k low room from to =
      let w = written column c false rendition row in
      let len : length w ≡ length row = length-table (length row) _ in
      elim (cases_lt column k) [
        | inl past ↦ run_inside cs (column + 1) w k (omega arith) (omega arith) (omega arith) (omega arith)
        | inr here ↦
            let same = run_outside cs (column + 1) w k (omega arith) (omega arith) (λ past. absurd (omega arith)) in
            let is = written_there column c rendition row low false k (omega arith) (λ e. cc) in
            let narrow = lettered_wide c false rendition in
            let uncovered = lettered_open c false rendition in
            let e : k ≡ column = omega arith in
            (ap is_wide same ∙ grind (arith, nat_tests), ap is_covered same ∙ grind (arith, nat_tests))
      ]

  pub run_intact : (cs : List ℕ) (column : ℕ) (row : List Cell) (k : ℕ) → Whole row → 1 ≤ column → column + length cs ≤ length row + 1
      → k + 1 ≢ column → k + 1 ≢ column + length cs → Intact (run_written column cs rendition row) k
  run_intact cs column row k whole low room a b =
      elim (cases_lt (k + 1) column) [
        | inl before ↦ ap is_covered (outside (k + 1) (λ past. absurd (omega arith))) ∙ whole k ∙ sym (ap is_wide (outside k (λ past. absurd (omega arith))))
        | inr from ↦ elim (cases_lt k (column + length cs)) [
          | inl inside ↦ sym' (run_inside cs column row (k + 1) low room (omega arith) (omega arith)).1 (run_inside cs column row k low room (omega arith) inside).0
          | inr past ↦ ap is_covered (outside (k + 1) (λ p. omega arith)) ∙ whole k ∙ sym (ap is_wide (outside k (λ p. past)))
        ]
      ]
    where
      outside : (j : ℕ) → (column ≤ j → column + length cs ≤ j) → cell_at (run_written column cs rendition row) j ≡ cell_at row j
      outside j out = run_outside cs column row j low room out

      sym' : {x y : Bool} → x ≡ false → y ≡ false → x ≡ y
      sym' p q = p ∙ sym q

  -- mending a border and writing right of it may change places
  pub written_beside : (column at c : ℕ) (paper : Colour) (row : List Cell) → 1 ≤ at → at < column → column ≤ length row
      → written column c false rendition (border_mended at paper row) ≡ border_mended at paper (written column c false rendition row)
  written_beside column at c paper row low right high =
      let mended_row = border_mended at paper row in
      let w = written column c false rendition row in
      ap (λ (m : ℕ). table m (λ (k : ℕ). if k == column then lettered c false rendition else (if false && k == column + 1 then covering rendition else cell_at mended_row k))) (length-table (length row) _)
      ∙ table_ext (length row) _ _ (λ k klow khigh.
      let old = at_mended at paper row low k in
      let here = written_there column c rendition row (omega arith) false k high (λ e. cc) in
      let edge = written_there column c rendition row (omega arith) false at high (λ e. cc) in
      let before = written_there column c rendition row (omega arith) false (at - 1) high (λ e. cc) in
      grind (arith, nat_tests))
      ∙ sym (ap (λ (m : ℕ). table m (λ (k : ℕ).
      if (k + 1 == at && is_wide (cell_at w k) && not (is_covered (cell_at w at))) || (k == at && is_covered (cell_at w k) && not (is_wide (cell_at w (at - 1))))
      then blank paper else cell_at w k)) (length-table (length row) _))

  pub run_beside : (cs : List ℕ) (column at : ℕ) (paper : Colour) (row : List Cell) → 1 ≤ at → at < column → column + length cs ≤ length row + 1
      → run_written column cs rendition (border_mended at paper row) ≡ border_mended at paper (run_written column cs rendition row)
  run_beside [] column at paper row low right room = refl
  run_beside (c ∷ cs) column at paper row low right room =
      let len : length (written column c false rendition row) ≡ length row = length-table (length row) _ in
      ap (run_written (column + 1) cs rendition) (written_beside column at c paper row low right (omega arith))
      ∙ run_beside cs (column + 1) at paper (written column c false rendition row) low (omega arith) (omega arith)

  -- what is written over needs no mending
  pub written_over : (column c : ℕ) (paper : Colour) (row : List Cell) → 1 ≤ column → is_wide (cell_at row (column - 1)) ≡ false
      → written column c false rendition (border_mended column paper row) ≡ written column c false rendition row
  written_over column c paper row low narrow =
      let mended_row = border_mended column paper row in
      ap (λ (m : ℕ). table m (λ (k : ℕ). if k == column then lettered c false rendition else (if false && k == column + 1 then covering rendition else cell_at mended_row k))) (length-table (length row) _)
      ∙ table_ext (length row) _ _ (λ k klow khigh.
      let old = at_mended column paper row low k in
      elim (cases_eq (k + 1) column) [
        | inl e ↦ (let g : column - 1 ≡ k = omega arith in let f = ap (cell_at row) g in grind (arith, nat_tests))
        | inr ne ↦ grind (arith, nat_tests)
      ])

  -- a character that was put, and those that are written behind it
  behind : (cs : List ℕ) (column c : ℕ) (paper : Colour) (row : List Cell) → 1 ≤ column → column + 1 + length cs ≤ length row + 1
      → let w : List Cell = written column c false rendition row in
      mended paper (run_written (column + 1) cs rendition (border_mended (column + 1) paper (border_mended column paper w))) ≡ mended paper (run_written (column + 1) cs rendition w)
  behind [] column c paper row low room =
      let w = written column c false rendition row in
      mended_same (column + 1) paper (border_mended column paper w) (omega arith) ∙ mended_same column paper w low
  behind (d ∷ ds) column c paper row low room =
      let w = written column c false rendition row in
      let len : length w ≡ length row = length-table (length row) _ in
      let x = border_mended column paper w in
      let there = at_mended column paper w low column in
      let is = written_there column c rendition row low false column (omega arith) (λ e. cc) in
      let narrow = lettered_wide c false rendition in
      let n1 = blank_narrow paper in
      let e : column + 1 - 1 ≡ column = omega arith in
      let f = ap (cell_at x) e in
      let edge : is_wide (cell_at x (column + 1 - 1)) ≡ false = ap is_wide (f ∙ there) ∙ grind (arith, nat_tests) in
      ap (λ (r : List Cell). mended paper (run_written (column + 1 + 1) ds rendition r)) (written_over (column + 1) d paper x (omega arith) edge)
      ∙ ap (mended paper) (run_beside (d ∷ ds) (column + 1) column paper w low (omega arith) (omega arith))
      ∙ mended_same column paper (run_written (column + 1) (d ∷ ds) rendition w) low

  -- Characters that are written at once and then mended are put one after another.
  pub run_mended : (cs : List ℕ) (column : ℕ) (row : List Cell) → Whole row → 1 ≤ column → column + length cs ≤ length row + 1
      → mended rendition.paper (run_written column cs rendition row) ≡ run_put column cs rendition row
  run_mended [] column row whole low room = mended_whole rendition.paper row whole
  run_mended (c ∷ cs) column row whole low room =
      let w = written column c false rendition row in
      let p = put column c false rendition row in
      let len_w : length w ≡ length row = length-table (length row) _ in
      let len : length p ≡ length row = length-table (length w) _ ∙ len_w in
      sym (behind cs column c rendition.paper row low (omega arith))
      ∙ ap (λ (r : List Cell). mended rendition.paper (run_written (column + 1) cs rendition r)) (narrow_put column c rendition row low whole (omega arith))
      ∙ run_mended cs (column + 1) p (whole_mended rendition.paper w) (omega arith) (omega arith)

  -- as the body mends
  pub run_is_put : (cs : List ℕ) (column : ℕ) (row : List Cell) → Whole row → 1 ≤ column → column + length cs ≤ length row + 1
      → border_mended (column + length cs) rendition.paper (border_mended column rendition.paper (run_written column cs rendition row)) ≡ run_put column cs rendition row
  run_is_put cs column row whole low room =
      two_mended column (column + length cs) rendition.paper (run_written column cs rendition row) low (omega arith) (λ k a b. run_intact cs column row k whole low room a b)
      ∙ run_mended cs column row whole low room

  -- the cells in use are those of before and those of the run
  pub run_used : (cs : List ℕ) (column : ℕ) (row : List Cell) (used most : ℕ) → Whole row → IsUsed row used → 1 ≤ column → column + length cs ≤ length row + 1
      → used ≤ most → column + length cs ≤ most + 1 → most ≤ length row → IsUsed (run_put column cs rendition row) most
  run_used cs column row used most whole is low room a b within =
      let paper = rendition.paper in
      let w = run_written column cs rendition row in
      let x = border_mended column paper w in
      let put = run_is_put cs column row whole low room in
      let len : length (run_put column cs rendition row) ≡ length row
      = sym (ap length put) ∙ length-table (length x) _ ∙ length-table (length w) _ ∙ len_written column cs row in
      record {
        within = omega arith;
        tail = λ k past.
            sym (ap (λ (r : List Cell). cell_at r k) put)
            ∙ still_blank (column + length cs) paper x k (omega arith) (omega arith)
            (still_blank column paper w k low (omega arith) (run_outside cs column row k low room (λ _. omega arith) ∙ is.tail k (omega arith)));
      }

  -- the same of a row that they were put in, where the count of cells in use goes up to the last of them
  pub run_used_after : (cs : List ℕ) (column : ℕ) (row after : List Cell) (used most : ℕ) → Whole row → IsUsed row used → 1 ≤ column → column + length cs ≤ length row + 1
      → most ≡ max used (column + length cs - 1) → after ≡ run_put column cs rendition row → IsUsed after most
  run_used_after cs column row after used most whole is low room is_most is_after =
      subst (λ (cells : List Cell). IsUsed cells most) (sym is_after)
      (run_used cs column row used most whole is low room (omega (arith, is_most)) (omega (arith, is_most)) (omega (arith, is_most, is.within)))

  -- nothing is left to write
  pub run_done : (cs : List ℕ) (i column : ℕ) (row : List Cell) → length cs ≤ i → run_written column (drop i cs) rendition row ≡ row
  run_done cs i column row all = at_drop_all (λ rest. run_written column rest rendition row) cs i all

  -- one is written
  pub run_more : (cs : List ℕ) (column i : ℕ) (row : List Cell) → i < length cs
      → run_written (column + i) (drop i cs) rendition row
      ≡ run_written (column + (i + 1)) (drop (i + 1) cs) rendition (written (column + i) (get_or cs i 0) false rendition row)
  run_more cs column i row below =
      at_drop_more (λ gs. run_written (column + i) gs rendition row) cs i 0 below
      ∙ ap (λ (k : ℕ). run_written k (drop (i + 1) cs) rendition (written (column + i) (get_or cs i 0) false rendition row)) (omega arith)

  -- a loop's step: one is written, and what is left leads to the whole still
  pub run_step : (cs : List ℕ) (column i : ℕ) (row all : List Cell) (cell : Cell) → 1 ≤ column → column + length cs ≤ length row + 1 → i < length cs
      → cell ≡ lettered (get_or cs i 0) false rendition → run_written (column + i) (drop i cs) rendition row ≡ all
      → run_written (column + (i + 1)) (drop (i + 1) cs) rendition (set row (column - 1 + i) cell) ≡ all
  run_step cs column i row all cell low room below is left =
      let at : column - 1 + i ≡ column + i - 1 = omega arith in
      ap (run_written (column + (i + 1)) (drop (i + 1) cs) rendition)
      (ap (λ (k : ℕ). set row k cell) at ∙ narrow_written (column + i) (get_or cs i 0) rendition row (omega arith) cell is (omega arith))
      ∙ sym (run_more cs column i row below) ∙ left

  -- What a loop leaves that wrote all of them over a row, and its borders are mended then.
  module _ (cs : List ℕ) (column i : ℕ) (row now : List Cell) (low : 1 ≤ column) (room : column + length cs ≤ length row + 1) (done : length cs ≤ i)
      (left : run_written (column + i) (drop i cs) rendition now ≡ run_written column cs rendition row) where
    run_there : now ≡ run_written column cs rendition row
    run_there = sym (run_done cs i (column + i) now done) ∙ left

    pub run_open : 0 < length cs → is_covered (cell_at now column) ≡ false
    run_open some = ap (λ (r : List Cell). is_covered (cell_at r column)) run_there ∙ (run_inside cs column row column low room (omega arith) (omega arith)).1

    module _ (paper : Colour) (same : paper ≡ rendition.paper) (before : List Cell) (is_before : before ≡ border_mended column paper now) where
      run_before : before ≡ border_mended column rendition.paper (run_written column cs rendition row)
      run_before = is_before ∙ ap (λ (p : Colour). border_mended column p now) same ∙ ap (border_mended column rendition.paper) run_there

      pub run_narrow : 0 < length cs → is_wide (cell_at before (column + length cs - 1)) ≡ false
      run_narrow some =
          let last = column + length cs - 1 in
          ap (λ (r : List Cell). is_wide (cell_at r last)) run_before
          ∙ still_narrow column rendition.paper (run_written column cs rendition row) last low (run_inside cs column row last low room (omega arith) (omega arith)).0

      pub run_left : (after : List Cell) → Whole row → after ≡ border_mended (column + length cs) paper before → after ≡ run_put column cs rendition row
      run_left after whole is_after =
          is_after ∙ ap (λ (p : Colour). border_mended (column + length cs) p before) same ∙ ap (border_mended (column + length cs) rendition.paper) run_before
          ∙ run_is_put cs column row whole low room

  -- none is put where there is none
  pub run_none : (cs : List ℕ) (column : ℕ) (row : List Cell) → length cs ≡ 0 → row ≡ run_put column cs rendition row
  run_none cs column row none = sym (at_drop_all (λ (rest : List ℕ). run_put column rest rendition row) cs 0 (omega arith))
