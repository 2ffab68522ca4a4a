-- The headline: what a seek shows, said of the recording that the session was opened with and the log of its edits.
use Rattle.std.specs.Prelude.{◌≡◌, ℕ, List}
use Rattle.tape_core.specs.Tape.{Tape}
use Rattle.tape_seek.specs.Edits.{edited_all}
use Rattle.tape_seek.specs.State.{StateOf}
use Rattle.xterm_term.specs.declared.measure.Size.{Size}
use Rattle.xterm_term.specs.Seen.{Seen, Shows}
use Rattle.xterm_term.specs.Term.{Term}
use Rattle.xterm_print.specs.Moments.{term_at, up_to}

-- a session over a terminal of today
abbrev pub State : Type 0
State = StateOf Size

-- the terminal shows the term, and the reports are all that the term has sent
pub record Tells (terminal : Seen) (reports : List ℕ) (term : Term) : Type 0 where
  pub shows : Shows terminal term
  pub sent : reports ≡ term.reports

-- Whatever recording becomes the session's by the edits of its log, the terminal and the reports are those that the
-- reset terminal comes to by all bytes of that recording, edited so, that are due by the moment.
abbrev pub TellsMoment : State → ℕ → Seen → List ℕ → Type 0
TellsMoment s moment terminal reports = (o : Tape) → s.recording ≡ edited_all o s.log
    → Tells terminal reports (term_at s.profile (edited_all o s.log) moment)

-- The same of the bytes of its first chunks.
abbrev pub TellsCount : State → ℕ → Seen → List ℕ → Type 0
TellsCount s count terminal reports = (o : Tape) → s.recording ≡ edited_all o s.log
    → Tells terminal reports (up_to s.profile (edited_all o s.log).chunks count)
