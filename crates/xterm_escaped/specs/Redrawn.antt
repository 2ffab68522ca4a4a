-- What the escaped print draws again.
use Rattle.std.specs.Prelude.{◌≡◌, ℕ, List, []}
use Rattle.xterm_term.specs.Size.{IsSize}
use Rattle.xterm_term.specs.Term.{Term, reset_term, play}
use Rattle.xterm_escaped.specs.EscapedText.{escaped_text}

-- the second term shows what the first one shows: cells, reversed flag, the cursor and whether it is shown; and nothing is
-- pending in it, and nothing was sent
pub record ShowsAgain (x again : Term) : Type 0 where
  pub rows : again.console.picture.rows ≡ x.console.picture.rows
  pub reversed : again.console.modes.reverse_screen ≡ x.console.modes.reverse_screen
  pub line : again.console.picture.line ≡ x.console.picture.line
  pub column : again.console.picture.column ≡ x.console.picture.column
  pub shown : again.console.modes.cursor_shown ≡ x.console.modes.cursor_shown
  pub sequence : again.sequence ≡ []
  pub character : again.character ≡ []
  pub reports : again.reports ≡ []

-- the escaped text of a term, played from the reset term of its size, shows it again
abbrev pub DrawsAgain : Term → Type 0
DrawsAgain x =
    ShowsAgain x (play (reset_term x.console.picture.columns x.console.picture.lines) (escaped_text x.console))

-- So it is of each term that bytes come to from a reset one.
abbrev pub EscapedPrintDrawsAgain : Type 0
EscapedPrintDrawsAgain =
    (columns lines : ℕ) (bytes : List ℕ) → IsSize columns lines → DrawsAgain (play (reset_term columns lines) bytes)
