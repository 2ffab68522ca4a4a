use Rattle.std.proofs.Common.{◌≡◌, length}
use Rattle.tape_mend.specs.Front.{format_of}
use Rattle.tape_mend.specs.Lines.{timing_lines}
use Rattle.tape_mend.proofs.front.format_of_timing.Given as goal

abbrev pub invariant-loop-rest : goal.invariant-loop-rest
invariant-loop-rest l = format_of (timing_lines l.timing) ≡ format_of (timing_lines l.rest)

abbrev pub decreases-loop-rest : goal.decreases-loop-rest
decreases-loop-rest l = length l.rest
