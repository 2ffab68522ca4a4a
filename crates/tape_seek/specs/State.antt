-- A session as a plain value, and what each call makes of it.
use Rattle.std.specs.Prelude.{◌≡◌, ℕ, List, [], ◌∷◌, ◌++◌, Result, MatchResult}
use Rattle.tape_core.specs.Tape.{Tape}
use Rattle.vt_term.specs.declared.profile.Profile.{Profile}
use Rattle.tape_seek.specs.declared.edits.Edit.{Edit}
use Rattle.tape_seek.specs.Edits.{edited, edited_all}
use Rattle.tape_seek.specs.Marks.{Marks, first_marks, after_edit, after_seek, after_refused_seek}

-- which terminal plays, the recording as edited, the accepted edits in order, how many chunks lie between stored
-- terminals, and both marks
pub record StateOf (P : Type 0) : Type 0 where
  pub profile : P
  pub recording : Tape
  pub log : List Edit
  pub every : ℕ
  pub marks : Marks

-- that of a VT100's session
abbrev pub State : Type 0
State = StateOf Profile

-- how many chunks may lie between stored terminals: the fewest, and the most (ours)
abbrev pub least_every : ℕ
least_every = 1

abbrev pub most_every : ℕ
most_every = 1000000

-- a session that was just opened
abbrev pub opened : {P : Type 0} → P → Tape → ℕ → StateOf P
opened profile tape every = record { profile = profile; recording = tape; log = []; every = every; marks = first_marks }

-- an accepted edit
abbrev pub accepted : {P : Type 0} → Edit → StateOf P → StateOf P
accepted edit s = record {
  profile = s.profile;
  recording = edited s.recording edit;
  log = s.log ++ edit ∷ [];
  every = s.every;
  marks = after_edit s.every edit s.marks;
}

-- an answered seek
abbrev pub sought : {P : Type 0} → ℕ → StateOf P → StateOf P
sought count s = record s { marks = after_seek count s.marks }

-- a refused seek
abbrev pub seek_refused : {P : Type 0} → StateOf P → StateOf P
seek_refused s = record s { marks = after_refused_seek s.every s.marks }

-- what a seek leaves, by its answer
abbrev pub Leaves : {T E P : Type 0} → Result T E → ℕ → StateOf P → StateOf P → Type 0
Leaves result count old new = MatchResult result (λ _. new ≡ sought count old) (λ _. new ≡ seek_refused old)

-- Whatever recording the session was opened with: where the recording was that one edited by the log, it is so still.
abbrev pub KeepsHistory : {P : Type 0} → StateOf P → StateOf P → Type 0
KeepsHistory old new = (o : Tape) → old.recording ≡ edited_all o old.log → new.recording ≡ edited_all o new.log
