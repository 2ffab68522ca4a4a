-- How a print of chunks ends early.
use Rattle.std.specs.Prelude.{ℕ, true, false, List, Option}
use Rattle.tape_core.specs.Devices.{TookPart}
use Rattle.tape_core.specs.declared.devices.Watched.{Watched}
use Rattle.screen_print.specs.declared.walk.ChangesFault.{ChangesFault}
use Rattle.screen_print.specs.declared.walk.ChangesFault.TheVariants.{Write, Memory}

-- a beginning of the text has gone out: the writer failed in it, or memory was refused and the writer is sound (ours)
abbrev pub StopsWalk : {T : Type 0} → (T → Option (List ℕ)) → Watched T → Watched T → List ℕ → ChangesFault → Type 0
StopsWalk contents old new text Write = TookPart contents old new text true
StopsWalk contents old new text Memory = TookPart contents old new text false
