-- Edits that are made of a session's recording one after another: all of them, or those before one that is refused (ours).
use Rattle.std.specs.Prelude.{◌≡◌, ◌⊎◌, ℕ, ◌<◌, List, [], ◌++◌, None, Some, Option, MatchOption, Result, MatchResult, length}
use Rattle.tape_core.specs.declared.chunk.Chunk.{Chunk}
use Rattle.tape_seek.specs.declared.edits.Edit.{Edit}
use Rattle.tape_seek.specs.declared.edits.EditFault.{EditFault}
use Rattle.tape_seek.specs.declared.edits.EditFault.TheVariants.{OutOfMemory}
use Rattle.tape_seek.specs.Edits.{edited_all}
use Rattle.tape_seek.specs.State.{KeepsHistory, StateOf}
use Rattle.tape_cut.specs.CutEdits.{first_fault}

-- The recording is edited by all of them, and none had a fault; it is still what its log makes of the one that the session
-- was opened with.
pub record AreMade {P : Type 0} (edits : List Edit) (old new : StateOf P) : Type 0 where
  pub recording : new.recording ≡ edited_all old.recording edits
  pub faultless : first_fault old.recording edits ≡ None
  pub history : KeepsHistory old new

-- One of them was refused, for its fault or for want of memory, and changed nothing: the recording is edited by those
-- before it.
pub record IsRefused {P : Type 0} (edits : List Edit) (old new : StateOf P) (fault : EditFault) : Type 0 where
  pub why : (fault ≡ OutOfMemory) ⊎ (first_fault old.recording edits ≡ Some fault)
  pub before : List Edit
  pub behind : List Edit
  pub cut : edits ≡ before ++ behind
  pub recording : new.recording ≡ edited_all old.recording before
  pub history : KeepsHistory old new

-- the one or the other
abbrev pub Making : {A P : Type 0} → Result A EditFault → List Edit → StateOf P → StateOf P → Type 0
Making result edits old new = MatchResult result (λ _. AreMade edits old new) (IsRefused edits old new)

-- Private: seeks alone were made
pub record OnlySought {P : Type 0} (old new : StateOf P) : Type 0 where
  pub profile : new.profile ≡ old.profile
  pub recording : new.recording ≡ old.recording
  pub log : new.log ≡ old.log

-- Private: when the first of the chunks that are left is due, if there is one
abbrev pub TellsNext : Option ℕ → List Chunk → ℕ → Type 0
TellsNext next left due = MatchOption next (left ≡ []) (λ moment. (moment ≡ due) × (0 < length left))
