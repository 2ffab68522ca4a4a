-- What a terminal shows and has sent by a count of chunks and by a moment, for any terminal that plays.
use Rattle.std.specs.Prelude.{◌≡◌, ℕ, List}
use Rattle.plays.specs.declared.plays.Plays.{Ghosts}
use Rattle.tape_core.specs.Due.{due, first}
use Rattle.tape_core.specs.Tape.{Tape}
use Rattle.tape_seek.specs.Edits.{edited_all}
use Rattle.tape_seek.specs.State.{StateOf}

-- The terminal shows what the reset terminal of the profile comes to by these bytes, and the reports are all that it
-- sends by them.
pub record TellsBytes {T P K : Type 0} (p : Ghosts T P K) (profile : P) (terminal : T) (reports bytes : List ℕ)
    : Type 0 where
  pub shows : p.shows profile terminal bytes
  pub sent : reports ≡ p.sent profile bytes

-- Whatever recording becomes the session's by the edits of its log, it is so of all its bytes, edited so, that are due
-- by the moment.
abbrev pub TellsMomentBy : {T P K : Type 0} → Ghosts T P K → StateOf P → ℕ → T → List ℕ → Type 0
TellsMomentBy p s moment terminal reports = (o : Tape) → s.recording ≡ edited_all o s.log
    → TellsBytes p s.profile terminal reports (due (edited_all o s.log).chunks moment)

-- The same of the bytes of its first chunks.
abbrev pub TellsCountBy : {T P K : Type 0} → Ghosts T P K → StateOf P → ℕ → T → List ℕ → Type 0
TellsCountBy p s count terminal reports = (o : Tape) → s.recording ≡ edited_all o s.log
    → TellsBytes p s.profile terminal reports (first (edited_all o s.log).chunks count)
