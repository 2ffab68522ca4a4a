-- Private: bytes that take nothing of a text away: those of a sequence without its last one, and characters that go over the
-- blank rest of a row, where the text doesn't end in a space.
use Rattle.std.specs.Prelude.{◌≡◌, ◌≢◌, ℕ, ◌+◌, ◌-◌, ◌≤◌, false, List, [], length, slice_index_or}
use Rattle.vt_parser.specs.declared.commands.Mode.TheVariants.{Ansi}
use Rattle.vt_parser.specs.Fold.{Waits}
use Rattle.vt_screen.specs.Limits.{line_count}
use Rattle.vt_screen.specs.Picture.{Picture, cell, right_margin}
use Rattle.vt_term.specs.Term.{Term, mode_of}
use Rattle.screen_print.specs.ByLine.{AreKept, row_on}
use Rattle.screen_print.specs.Stills.{Still}

-- a text with a last character that isn't a space
pub record EndsInInk (text : List ℕ) : Type 0 where
  pub some : 1 ≤ length text
  pub last : slice_index_or text (length text - 1) 32 ≢ 32

-- from the cursor on the row is blank, and so many characters end before its right margin
pub record IsBlankFor (p : Picture) (count : ℕ) : Type 0 where
  pub wrap : p.wrap ≡ false
  pub room : p.column + count ≤ right_margin p p.line
  pub blank : (column : ℕ) → p.column ≤ column → column ≤ right_margin p p.line → (cell p p.line column).glyph ≡ 32

-- a term that puts so many graphic characters over such a rest
pub record IsFresh (x : Term) (count : ℕ) : Type 0 where
  pub ground : x.pending ≡ []
  pub over : x.console.modes.insert ≡ false
  pub rest : IsBlankFor x.console.picture count

-- a term in ANSI mode that none of these bytes gives a command, and that has a sequence pending behind each
pub record IsWaiting (x : Term) (bytes : List ℕ) : Type 0 where
  pub mode : mode_of x ≡ Ansi
  pub waits : Waits x.pending bytes

-- where a text stands on one screen it stands on another, with the same to the left
pub record Keeps (text : List ℕ) (one other : Still) : Type 0 where
  pub whole : length one.rows ≡ line_count
  pub whole_too : length other.rows ≡ line_count
  pub kept : (line : ℕ) → 1 ≤ line → line ≤ line_count → AreKept text one line other line (length (row_on one line) + 1)
