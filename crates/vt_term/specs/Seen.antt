-- What a terminal's queries tell of a term.
use Rattle.std.specs.Prelude.{◌≡◌, ℕ, Bool, false, List, Some}
use Rattle.vt_parser.specs.declared.states.ParserState.{ParserState}
use Rattle.vt_parser.specs.View.{parser_view}
use Rattle.vt_screen.specs.declared.cell.Row.{Row}
use Rattle.vt_screen.specs.Cells.{row_at}
use Rattle.vt_screen.specs.Touched.{is_touched}
use Rattle.vt_term.specs.declared.console.Console.{Console as Fields}
use Rattle.vt_term.specs.Console.{Console, IsSafe, console_of}
use Rattle.vt_term.specs.Term.{Term, mode_of}

-- all of a term but the reports, with a parser's state in place of the pending bytes, and for each line whether it was
-- touched since that was last cleared
pub record Seen : Type 0 where
  pub console : Console
  pub state : ParserState
  pub touched : List Bool

-- a terminal shows a term: its queries tell what is seen of it
pub record Shows (seen : Seen) (x : Term) : Type 0 where
  pub console : x.console ≡ seen.console
  pub state : parser_view (mode_of x) x.pending ≡ Some seen.state

-- what every terminal keeps: it is safe, and shows some term
pub record IsTerminal (seen : Seen) : Type 0 where
  pub safe : IsSafe seen.console
  pub term : (x : Term) × Shows seen x

-- each line that wasn't touched has the row of before (ours)
abbrev pub Told : List Row → Seen → Type 0
Told before seen =
    (line : ℕ) → is_touched seen.touched line ≡ false → row_at seen.console.picture.rows line ≡ row_at before line

-- Private: what the fields of the code's terminal stand for
abbrev pub seen_of : Fields → ParserState → Seen
seen_of fields state = record { console = console_of fields; state = state; touched = fields.screen.touched }
