-- Rows that moved up, and those that they went over.
use Rattle.std.proofs.Common.{◌≡◌, ℕ, ◌+◌, ◌-◌, ◌<◌, ◌≤◌, not, List, [], length, get_or, ap, sym, ◌∙◌, arith, rules}
use Rattle.std.specs.List.{RotatedLeft}
use Rattle.std.proofs.lemmas.List.{places}
use borrow.Rule.Slice.PartMut.{put_mid, mid_of}
use Rattle.sheet.specs.Cells.{Cell}
use Rattle.sheet.specs.Grid.{AreTold, origin_of, row_at}
use Rattle.xterm_print.specs.ChangeLines.{is_changed, same_row}
use Rattle.xterm_print.specs.Kept.{Follows}
use Rattle.xterm_print.proofs.KeptLemmas.{row_is, same_as, same_rows}

-- ---- what a row that moved was

module _ (before after : List (List Cell)) (origins : List ℕ) (told : AreTold before origins after) where
  -- the row of a line that moved up
  pub row_moved : (line shift : ℕ) → 1 ≤ line → origin_of origins line ≡ line + shift → row_at after line ≡ row_at before (line + shift)
  row_moved line shift low is = told line (omega (arith, is)) ∙ ap (row_at before) is

  module _ (kept : List (List Cell)) (width : ℕ) (line : ℕ) (follows : Follows width (row_at kept line) (row_at before line)) where
    -- it differs where the kept rows do
    pub moved_changed : (shift : ℕ) → 1 ≤ line → origin_of origins line ≡ line + shift → Follows width (row_at kept (line + shift)) (row_at before (line + shift))
        → is_changed before after line ≡ not (same_row (row_at kept line) (row_at kept (line + shift)))
    moved_changed shift low is there =
        let one = row_at kept line in
        let other = row_at kept (line + shift) in
        let was = row_at before (line + shift) in
        ap not (ap (same_row (row_at before line)) (row_moved line shift low is) ∙ sym (same_as one (row_at before line) was follows.same)
        ∙ same_rows.symm one was ∙ sym (same_as other was one there.same) ∙ same_rows.symm other one)

    -- any other differs where the kept row does
    pub other_changed : is_changed before after line ≡ not (same_row (row_at kept line) (row_at after line))
    other_changed = ap not (sym (same_as (row_at kept line) (row_at before line) (row_at after line) follows.same))

-- ---- rows that turn

module _ (rows part : List (List Cell)) (from to shift : ℕ) (low : 1 ≤ from) (apart : from ≤ to) (high : to + shift ≤ length rows + 1)
    (len : length part ≡ length (mid_of (from - 1) (to - 1 + shift - (from - 1)) rows))
    (rotated : RotatedLeft (mid_of (from - 1) (to - 1 + shift - (from - 1)) rows) part (length (mid_of (from - 1) (to - 1 + shift - (from - 1)) rows)) shift) where
  abbrev count : ℕ
  count = to - 1 + shift - (from - 1)

  abbrev mid : List (List Cell)
  mid = mid_of (from - 1) count rows

  abbrev pub turned : List (List Cell)
  turned = put_mid (from - 1) count rows part

  len_mid : length mid ≡ count
  len_mid = search (rules, places)

  pub turned_whole : length turned ≡ length rows
  turned_whole = search (rules, places)

  pub turned_before : (k : ℕ) → 1 ≤ k → k < from → row_at turned k ≡ row_at rows k
  turned_before k here below =
      let same : get_or turned (k - 1) [] ≡ get_or rows (k - 1) [] = grind (arith, places) in
      row_is turned k here ∙ same ∙ sym (row_is rows k here)

  pub turned_behind : (k : ℕ) → to + shift ≤ k → row_at turned k ≡ row_at rows k
  turned_behind k above =
      let same : get_or turned (k - 1) [] ≡ get_or rows (k - 1) [] = grind (arith, places) in
      row_is turned k (omega arith) ∙ same ∙ sym (row_is rows k (omega arith))

  -- those that move up
  pub turned_up : (k : ℕ) → from ≤ k → k < to → row_at turned k ≡ row_at rows (k + shift)
  turned_up k here below =
      let i = k - from in
      let one : get_or turned (k - 1) [] ≡ get_or part i [] = grind (arith, places) in
      let two = rotated.0 i [] (omega (arith, len_mid)) in
      let three : get_or mid (i + shift) [] ≡ get_or rows (k + shift - 1) [] = grind (arith, places) in
      row_is turned k (omega arith) ∙ one ∙ two ∙ three ∙ sym (row_is rows (k + shift) (omega arith))

  -- those that they go over
  pub turned_over : (k : ℕ) → to ≤ k → k < to + shift → row_at turned k ≡ row_at rows (k + from - to)
  turned_over k here below =
      let i = k - from in
      let one : get_or turned (k - 1) [] ≡ get_or part i [] = grind (arith, places) in
      let two = rotated.1 i [] (omega (arith, len_mid)) (omega (arith, len_mid)) in
      let three : get_or mid (i + shift - length mid) [] ≡ get_or rows (k + from - to - 1) [] = grind (arith, places, len_mid) in
      row_is turned k (omega arith) ∙ one ∙ two ∙ three ∙ sym (row_is rows (k + from - to) (omega arith))
