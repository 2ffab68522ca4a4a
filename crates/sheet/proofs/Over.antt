-- Characters that are put over narrow ones: they stand in place of them, and all else stays.
use Rattle.std.proofs.Common.{◌≡◌, ℕ, suc, ◌+◌, ◌-◌, ◌<◌, ◌≤◌, ◌≢◌, false, List, [], ◌∷◌, length, map, set, refl, sym, ap, inl, inr, ◌∙◌, arith}
use Rattle.std.specs.Prelude.{if◌then◌else◌, ◌==◌, ◌&&◌}
use Rattle.std.proofs.Math.Seq.{sets}
use Rattle.std.proofs.lemmas.Bool.{cases_eq}
use Rattle.std.proofs.lemmas.Bool.Decides.{nat_tests}
use Rattle.std.proofs.lemmas.List.{length-set}
use Rattle.sheet.specs.declared.cell.Kind.TheVariants.{Narrow}
use Rattle.sheet.specs.declared.rendition.Rendition.{Rendition}
use Rattle.sheet.specs.Cells.{Cell, cell_at, is_covered, is_wide, lettered}
use Rattle.sheet.specs.Edits.{put, run_put, written}
use Rattle.sheet.specs.Halves.{Whole, mended}
use Rattle.sheet.proofs.Rows.{lettered_open, lettered_wide, mended_whole, narrow_written, written_there}

-- the cells of a row from one column to before another have one column each
abbrev pub AreNarrow : ℕ → ℕ → List Cell → Type 0
AreNarrow from to row = (k : ℕ) → from ≤ k → k < to → (cell_at row k).kind ≡ Narrow

narrow_open : (cell : Cell) → cell.kind ≡ Narrow → is_covered cell ≡ false
unfolding is_covered
narrow_open cell is = rw is refl

narrow_thin : (cell : Cell) → cell.kind ≡ Narrow → is_wide cell ≡ false
unfolding is_wide
narrow_thin cell is = rw is refl

module _ (rendition : Rendition) where
  -- a character over a narrow one cuts none
  still_whole : (column c : ℕ) (row : List Cell) → Whole row → 1 ≤ column → column ≤ length row → (cell_at row column).kind ≡ Narrow
      → Whole (written column c false rendition row)
  still_whole column c row whole low high narrow k =
      let w = written column c false rendition row in
      let here = written_there column c rendition row low false k high (λ e. cc) in
      let next = written_there column c rendition row low false (k + 1) high (λ e. cc) in
      let old = whole k in
      let thin = narrow_thin (cell_at row column) narrow in
      let bare = narrow_open (cell_at row column) narrow in
      let new_thin = lettered_wide c false rendition in
      let new_bare = lettered_open c false rendition in
      ap is_covered next
      ∙ elim (cases_eq k column) [
        | inl e ↦ (let f = ap (cell_at row) e in grind (arith, nat_tests))
        | inr ne ↦ elim (cases_eq (k + 1) column) [
          | inl e ↦ (let f = ap (cell_at row) e in grind (arith, nat_tests))
          | inr nu ↦ grind (arith, nat_tests)
        ]
      ]
      ∙ ap is_wide (sym here)

  put_over : (column c : ℕ) (row : List Cell) → Whole row → 1 ≤ column → column ≤ length row → (cell_at row column).kind ≡ Narrow
      → put column c false rendition row ≡ set row (column - 1) (lettered c false rendition)
  put_over column c row whole low high narrow =
      mended_whole rendition.paper (written column c false rendition row) (still_whole column c row whole low high narrow)
      ∙ sym (narrow_written column c rendition row low (lettered c false rendition) refl high)

  -- many of them
  pub run_over : (cs : List ℕ) (column : ℕ) (row : List Cell) → Whole row → 1 ≤ column → column + length cs ≤ length row + 1
      → AreNarrow column (column + length cs) row
      → run_put column cs rendition row ≡ sets row (column - 1) (map (λ c. lettered c false rendition) cs)
  run_over [] column row whole low room narrow = refl
  run_over (c ∷ cs) column row whole low room narrow =
      let high : column ≤ length row = omega arith in
      let here = narrow column (omega arith) (omega arith) in
      let w = written column c false rendition row in
      let new : put column c false rendition row ≡ w = mended_whole rendition.paper w (still_whole column c row whole low high here) in
      let set_is = put_over column c row whole low high here in
      let len : length (put column c false rendition row) ≡ length row = ap length set_is ∙ length-set row (column - 1) (lettered c false rendition) in
      let next : column + 1 - 1 ≡ suc (column - 1) = omega arith in
      run_over cs (column + 1) (put column c false rendition row)
      (λ k. ap (λ (r : List Cell). is_covered (cell_at r (k + 1))) new ∙ still_whole column c row whole low high here k ∙ sym (ap (λ (r : List Cell). is_wide (cell_at r k)) new))
      (omega arith) (omega arith)
      (λ k from to.
      let there = written_there column c rendition row low false k high (λ e. cc) in
      let apart : k ≢ column = λ e. omega arith in
      let same : cell_at w k ≡ cell_at row k = there ∙ grind (arith, nat_tests) in
      ap (λ (r : List Cell). (cell_at r k).kind) new ∙ ap (λ (x : Cell). x.kind) same ∙ narrow k (omega arith) (omega arith))
      ∙ ap (λ (r : List Cell). sets r (column + 1 - 1) (map (λ d. lettered d false rendition) cs)) set_is
      ∙ ap (λ n. sets (set row (column - 1) (lettered c false rendition)) n (map (λ d. lettered d false rendition) cs)) next
