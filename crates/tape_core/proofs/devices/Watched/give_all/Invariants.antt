use Rattle.std.proofs.Common.{take}
use Rattle.std.specs.List.{flat_map}
use Rattle.tape_core.specs.Devices.{Gave}
use Rattle.tape_core.proofs.devices.Watched.give_all.Given as goal

-- the writer was given the pieces so far
abbrev pub invariant-loop-bytes : goal.invariant-loop-bytes
invariant-loop-bytes g l = Gave g.W.Write.contents l.fn.self l.self (flat_map (λ piece. piece.now) (take l.bytes-index l.pieces))
