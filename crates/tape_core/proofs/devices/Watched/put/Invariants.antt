use Rattle.std.proofs.Common.{◌≡◌, false, length}
use Rattle.tape_core.specs.Devices.{is_flushed}
use Rattle.tape_core.proofs.DeviceLemmas.{PutBefore}
use Rattle.tape_core.proofs.devices.Watched.put.Given as goal

-- what has gone out is what stands before the rest, and none of it is known to be flushed
abbrev pub invariant-loop-rest : goal.invariant-loop-rest
invariant-loop-rest g l = PutBefore g.W.Write.contents l.fn.self l.self l.fn.bytes l.rest × (is_flushed l.self ≡ false)

abbrev pub decreases-loop-rest : goal.decreases-loop-rest
decreases-loop-rest g l = length l.rest
