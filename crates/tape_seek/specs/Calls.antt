-- A list of calls of a session: what it leaves of frontier and head, and what its seeks feed, told from the calls and
-- from which were refused. Then what real calls did, step by step, in the words of their contracts.
use Rattle.std.specs.Prelude.{◌≡◌, ℕ, List, [], ◌∷◌, ◌++◌, fold}
use Rattle.tape_core.specs.Tape.{Tape}
use Rattle.tape_seek.specs.declared.edits.Edit.{Edit}
use Rattle.tape_seek.specs.Marks.{Marks, after_edit, after_refused_seek, after_seek, fed_by, first_marks}
use Rattle.tape_seek.specs.State.{StateOf, accepted, opened, seek_refused, sought}

-- What a session was asked, and whether it answered: an edit, a seek to a count of chunks.
pub data Call : Type 0 where
  Edited : Edit → Call
  EditRefused : Call
  Sought : ℕ → Call
  SeekRefused : Call

-- What one call leaves of frontier and head.
abbrev pub after_call : ℕ → Marks → Call → Marks
after_call every marks (Edited edit) = after_edit every edit marks
after_call every marks EditRefused = marks
after_call every marks (Sought count) = after_seek count marks
after_call every marks SeekRefused = after_refused_seek every marks

-- Frontier and head after these calls of a session that was just opened.
abbrev pub marks_after : ℕ → List Call → Marks
marks_after every calls = fold (after_call every) first_marks calls

-- How many chunks one call tells that it fed: an answered seek alone tells a number.
abbrev pub told_by : ℕ → Marks → Call → List ℕ
told_by every marks (Sought count) = fed_by every count marks ∷ []
told_by every marks _ = []

-- The numbers that these calls tell, from these marks on.
abbrev pub told_from : ℕ → Marks → List Call → List ℕ
told_from every marks [] = []
told_from every marks (call ∷ more) = told_by every marks call ++ told_from every (after_call every marks call) more

-- The numbers that these calls of a session tell that was just opened.
abbrev pub fed_after : ℕ → List Call → List ℕ
fed_after every calls = told_from every first_marks calls

-- A session that stores a terminal at every so many chunks has come to a state by these calls, and its answered
-- seeks have told that they fed so many chunks each. A step is what the contract of the call says.
pub data HasRun {P : Type 0} (every : ℕ) : List Call → List ℕ → StateOf P → Type 0 where
  Opened : (profile : P) (tape : Tape) (new : StateOf P)
      → new ≡ opened profile tape every → HasRun every [] [] new
  Accepted : (calls : List Call) (fed : List ℕ) (old new : StateOf P) (edit : Edit) → HasRun every calls fed old
      → new ≡ accepted edit old → HasRun every (calls ++ Edited edit ∷ []) fed new
  RefusedEdit : (calls : List Call) (fed : List ℕ) (old new : StateOf P) → HasRun every calls fed old
      → new ≡ old → HasRun every (calls ++ EditRefused ∷ []) fed new
  Answered : (calls : List Call) (fed : List ℕ) (old new : StateOf P) (count told : ℕ) → HasRun every calls fed old
      → new ≡ sought count old → told ≡ fed_by old.every count old.marks
      → HasRun every (calls ++ Sought count ∷ []) (fed ++ told ∷ []) new
  RefusedSeek : (calls : List Call) (fed : List ℕ) (old new : StateOf P) → HasRun every calls fed old
      → new ≡ seek_refused old → HasRun every (calls ++ SeekRefused ∷ []) fed new

-- Frontier and head are what the calls make of them, and the seeks fed what the calls tell.
pub record IsTold {P : Type 0} (every : ℕ) (calls : List Call) (fed : List ℕ) (s : StateOf P) : Type 0 where
  pub spaced : s.every ≡ every
  pub stands : s.marks ≡ marks_after every calls
  pub feeds : fed ≡ fed_after every calls
