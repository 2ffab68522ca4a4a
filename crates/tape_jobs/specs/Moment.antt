-- A screen and what a terminal sent, as texts.
use Rattle.std.specs.Prelude.{ℕ, min, ◌++◌, ◌∷◌, Bool, true, false, List, []}
use Rattle.hex.specs.Hex.{encode_lower}
use Rattle.screen_print.specs.EscapedText.{escaped_text}
use Rattle.screen_print.specs.PlainText.{plain_text}
use Rattle.screen_print.specs.Stills.{still_of}
use Rattle.screen_picture.specs.Picture.{picture_text}
use Rattle.screen_state.specs.Remade.{text_after}
use Rattle.tape_core.specs.Seconds.{last_moment}
use Rattle.tape_core.specs.Due.{due}
use Rattle.tape_core.specs.Tape.{Tape}
use Rattle.tape_seek.specs.Moments.{term_at}
use Rattle.tape_check.specs.declared.played.PlayedAs.{PlayedAs}
use Rattle.tape_check.specs.declared.played.PlayedAs.TheVariants.{Vt, Today}
use Rattle.tape_jobs.specs.Player.{played_of, sized, today_at}
use Rattle.command_line.specs.declared.player.Print.{Print}
use Rattle.command_line.specs.declared.player.Print.TheVariants.{Plain, Escaped, State}
use Rattle.tape_jobs.specs.declared.answers.Asked.{Asked}
use Rattle.tape_jobs.specs.declared.answers.Asked.TheVariants as asks
use Rattle.tape_jobs.specs.declared.answers.Question.{Question}
use Rattle.vt_term.specs.Console.{Console}
use Rattle.xterm_term.specs.Console.{Console as TodayConsole}
use Rattle.xterm_escaped.specs.EscapedText.{escaped_text as escaped_today}
use Rattle.xterm_picture.specs.Picture.{picture_text as picture_today}
use Rattle.xterm_picture.specs.Still.{still_of as still_today}
use Rattle.xterm_print.specs.PlainText.{plain_text as plain_today}
use Rattle.xterm_state.specs.Remade.{text_after as today_after}

-- a screen, as a text that draws it again or as plain text (ours)
unfoldable pub screen_text : Bool → Console → List ℕ
screen_text true s = escaped_text s
screen_text false s = plain_text s.picture

-- bytes as a line: in lower-case hexadecimal, with LF (ours)
abbrev pub hex_line : List ℕ → List ℕ
hex_line bytes = encode_lower bytes ++ 10 ∷ []

-- the screen at a moment, as its terminal prints it, and as a text that draws it again (ours)
unfoldable pub plain_at : PlayedAs → Tape → ℕ → List ℕ
plain_at (Vt profile) tape at = screen_text false (term_at profile tape at).console
plain_at (Today columns lines) tape at = plain_today (today_at (sized columns lines) tape at).console.picture

unfoldable pub escaped_at : PlayedAs → Tape → ℕ → List ℕ
escaped_at (Vt profile) tape at = screen_text true (term_at profile tape at).console
escaped_at (Today columns lines) tape at = escaped_today (today_at (sized columns lines) tape at).console

-- all that the terminal is at a moment, as a text that makes any terminal of its kind and size the same (ours)
unfoldable pub state_at : PlayedAs → Tape → ℕ → List ℕ
state_at (Vt profile) tape at = text_after profile (due tape.chunks at)
state_at (Today columns lines) tape at = today_after columns lines (due tape.chunks at)

-- as it is asked for (ours)
abbrev pub printed_at : Print → Tape → ℕ → List ℕ
printed_at (Plain player) tape at = plain_at (played_of player tape) tape at
printed_at (Escaped player) tape at = escaped_at (played_of player tape) tape at
printed_at (State player) tape at = state_at (played_of player tape) tape at

-- all that a terminal has sent by a moment (ours)
unfoldable pub sent_at : PlayedAs → Tape → ℕ → List ℕ
sent_at (Vt profile) tape at = hex_line (term_at profile tape at).reports
sent_at (Today columns lines) tape at = hex_line (today_at (sized columns lines) tape at).reports

-- a screen as a picture with the moment in its title, which is at most the last one (ours)
abbrev pub drawn_text : ℕ → Console → List ℕ
drawn_text at s = picture_text (min at last_moment) (still_of s)

-- the same of a terminal of today (ours)
abbrev pub drawn_today : ℕ → TodayConsole → List ℕ
drawn_today at s = picture_today (min at last_moment) (still_today s)

-- the screen at a moment, as its terminal is drawn (ours)
unfoldable pub drawn_at : PlayedAs → Tape → ℕ → List ℕ
drawn_at (Vt profile) tape at = drawn_text at (term_at profile tape at).console
drawn_at (Today columns lines) tape at = drawn_today at (today_at (sized columns lines) tape at).console

-- Private: what is asked at a moment, as a text (ours)
abbrev pub told_by : Asked → PlayedAs → Tape → ℕ → List ℕ
told_by asks.Screen played tape at = plain_at played tape at
told_by asks.Escaped played tape at = escaped_at played tape at
told_by asks.State played tape at = state_at played tape at
told_by asks.Picture played tape at = drawn_at played tape at
told_by asks.Reports played tape at = sent_at played tape at

-- Private: the answer to a question (ours)
abbrev pub told_at : PlayedAs → Tape → Question → List ℕ
told_at played tape question = told_by question.asked played tape question.at
