-- How a walk over chunks ends early, and what it leaves of a session.
use Rattle.std.specs.Prelude.{◌≡◌, ℕ, ◌≤◌, ◌++◌, true, false, List, Option, None, Some}
use Rattle.tape_core.specs.Devices.{Gave, TookPart, has_failed}
use Rattle.tape_core.specs.Due.{due_count}
use Rattle.tape_core.specs.declared.chunk.Chunk.{Chunk}
use Rattle.tape_core.specs.declared.devices.Watched.{Watched}
use Rattle.tape_seek.specs.State.{StateOf}
use Rattle.chunk_walk.specs.declared.stop.WalkFault.{WalkFault}
use Rattle.chunk_walk.specs.declared.stop.WalkFault.TheVariants.{Write, Memory}

-- memory was refused behind a beginning of the text, which a writer that is sound was given (ours)
pub record StopsSound {T : Type 0} (contents : T → Option (List ℕ)) (old new : Watched T) (text : List ℕ) : Type 0 where
  pub sound : has_failed new ≡ false
  pub front : List ℕ
  pub rest : List ℕ
  pub cut : text ≡ front ++ rest
  pub gave : Gave contents old new front

-- a beginning of the text has gone out: the writer failed in it, or memory was refused and the writer is sound (ours)
abbrev pub StopsPrint : {T : Type 0} → (T → Option (List ℕ)) → Watched T → Watched T → List ℕ → WalkFault → Type 0
StopsPrint contents old new text Write = TookPart contents old new text true
StopsPrint contents old new text Memory = TookPart contents old new text false

-- seeks alone were made: profile, recording and log stay, and the frontier isn't lowered
pub record OnlySeeks {P : Type 0} (old new : StateOf P) : Type 0 where
  pub profile : new.profile ≡ old.profile
  pub recording : new.recording ≡ old.recording
  pub log : new.log ≡ old.log
  pub every : new.every ≡ old.every
  pub frontier : old.marks.frontier ≤ new.marks.frontier

-- the first chunk that is due after the moment, or chunk 0
abbrev pub first_asked : List Chunk → Option ℕ → ℕ
first_asked chunks None = 0
first_asked chunks (Some from) = due_count chunks from
