-- Private: how the code's terminal, and the parser beside it, follow a terminal of which the rows that leave are told.
use Rattle.std.specs.Prelude.{◌≡◌, ℕ, ◌+◌, ◌≤◌, true, false, Some}
use Rattle.screen_transcript.specs.declared.transcriber.Transcriber.{Transcriber}
use Rattle.screen_transcript.specs.Transcribed.{Transcribed}
use Rattle.vt_parser.specs.View.{parser_view}
use Rattle.vt_screen.specs.Picture.{Picture, right_margin}
use Rattle.vt_term.specs.Term.{mode_of}

-- it is what the term shows, the parser beside it shows what is pending, and it knows whether what comes next comes directly
-- behind home
pub record IsPlayed (now : Transcriber) (x : Transcribed) : Type 0 where
  pub console : x.term.console ≡ now.terminal
  pub state : parser_view (mode_of x.term) x.term.pending ≡ Some now.parser
  pub home : now.home ≡ x.home

-- at so many characters no wrap is taken but at the first
pub record HasRoom (p : Picture) (count : ℕ) : Type 0 where
  pub one : p.wrap ≡ true → count ≤ 1
  pub room : p.wrap ≡ false → p.column + count ≤ right_margin p p.line + 1
