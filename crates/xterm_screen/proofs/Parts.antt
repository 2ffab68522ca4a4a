-- A part of a run: the picture of a screen whose cursor's line took it, from the cursor on.
use Rattle.std.proofs.Common.{◌≡◌, ℕ, ◌+◌, ◌≤◌, ◌<◌, Bool, false, List, length, take, sym, ap, ap₂, ◌∙◌, arith}
use Rattle.std.proofs.lemmas.List.{length-take-le}
use Rattle.sheet.specs.Cells.{Cell}
use Rattle.sheet.specs.Grid.{Grid}
use Rattle.sheet.specs.declared.rendition.Rendition.{Rendition}
use Rattle.xterm_screen.specs.declared.screen.Screen.TheInside.{Inside as Fields}
use Rattle.xterm_screen.specs.Picture.{Picture}
use Rattle.xterm_screen.specs.Puts.{run_shown, wrap_taken}
use Rattle.xterm_screen.specs.View.{IsScreen, picture_of}
use Rattle.xterm_screen.proofs.Runs.{run_within, run_to_end, run_wrapped, written_there}

module _ (s : Fields) (is : IsScreen s) (rendition : Rendition) (autowrap : Bool) (characters : List ℕ) (taken : ℕ) (all : taken ≤ length characters) (shown : Grid)
    (rows : shown.rows ≡ written_there (take taken characters) rendition (picture_of s)) where
  -- the last character stands at the last column
  pub end_shown : s.wrap ≡ false → 0 < taken → s.column + taken ≡ s.columns + 1
      → picture_of (record s { shown = shown; column = s.columns; wrap = autowrap }) ≡ run_shown (take taken characters) rendition autowrap false (picture_of s)
  end_shown unwrapped some fits =
      let p = picture_of s in
      let len = length-take-le taken characters all in
      ap (λ (r : List (List Cell)). record p { rows = r; column = p.columns; wrap = autowrap }) rows
      ∙ sym (run_to_end rendition autowrap (take taken characters) p unwrapped is.sound.line_low (omega (arith, is.sound.line_high, is.sound.rows)) (omega arith) (omega arith))

  -- it stands left of that
  pub within_shown : s.wrap ≡ false → s.column + taken ≤ s.columns
      → picture_of (record s { shown = shown; column = s.column + taken }) ≡ run_shown (take taken characters) rendition autowrap false (picture_of s)
  within_shown unwrapped fits =
      let p = picture_of s in
      let len = length-take-le taken characters all in
      ap₂ (λ (r : List (List Cell)) (k : ℕ). record p { rows = r; column = k }) rows (ap (λ (n : ℕ). p.column + n) (sym len))
      ∙ sym (run_within rendition autowrap (take taken characters) p unwrapped is.sound.line_low (omega (arith, is.sound.line_high, is.sound.rows)) (omega arith))

-- a part that was shown once the wrap was taken
pub part_wrapped : (rendition : Rendition) (autowrap inserting : Bool) (characters : List ℕ) (taken : ℕ) (p q now : Picture) → taken ≤ length characters → 0 < taken
    → inserting ≡ false → q ≡ wrap_taken rendition.paper p → now ≡ run_shown (take taken characters) rendition autowrap false q
    → now ≡ run_shown (take taken characters) rendition autowrap inserting p
part_wrapped rendition autowrap inserting characters taken p q now all some never is_taken is_shown =
    let len = length-take-le taken characters all in
    is_shown ∙ ap (run_shown (take taken characters) rendition autowrap false) is_taken ∙ run_wrapped rendition autowrap false (take taken characters) p (omega arith)
    ∙ ap (λ (b : Bool). run_shown (take taken characters) rendition autowrap b p) (sym never)
