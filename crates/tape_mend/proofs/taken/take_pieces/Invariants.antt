use Rattle.std.proofs.Common.{◌≡◌, ◌≤◌, [], drop, length}
use Rattle.tape_mend.specs.Taken.{taken}
use Rattle.tape_mend.proofs.taken.take_pieces.Given as goal

abbrev pub invariant-loop-rest : goal.invariant-loop-rest
invariant-loop-rest l = record {
  within : l.at ≤ length l.script.value.items;
  same : taken [] (drop l.start l.script.value.items) l.pieces ≡ taken l.chunks.items (drop l.at l.script.value.items) l.rest;
}

abbrev pub decreases-loop-rest : goal.decreases-loop-rest
decreases-loop-rest l = length l.rest
