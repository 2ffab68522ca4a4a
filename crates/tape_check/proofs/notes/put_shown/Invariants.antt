use Rattle.std.proofs.Common.{[], ◌∷◌, take}
use Rattle.std.specs.List.{flat_map}
use Rattle.tape_core.specs.Devices.{Gave}
use Rattle.tape_check.specs.Header.{visible}
use Rattle.tape_check.proofs.notes.put_shown.Given as goal

-- the writer has taken the bytes so far
abbrev pub invariant-loop-byte : goal.invariant-loop-byte
invariant-loop-byte g l = Gave g.W.Write.contents l.fn.writer l.writer (flat_map (λ byte. visible byte ∷ []) (take l.byte-index l.text))
