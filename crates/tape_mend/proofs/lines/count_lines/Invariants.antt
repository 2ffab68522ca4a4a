use Rattle.std.proofs.Common.{◌≡◌, ◌+◌, ◌≤◌, length}
use Rattle.tape_mend.specs.Lines.{timing_lines}
use Rattle.tape_mend.proofs.lines.count_lines.Given as goal

abbrev pub invariant-loop-rest : goal.invariant-loop-rest
invariant-loop-rest l = record {
  all : l.count + length (timing_lines l.rest) ≡ length (timing_lines l.timing);
  fits : l.count + length l.rest ≤ length l.timing;
}

abbrev pub decreases-loop-rest : goal.decreases-loop-rest
decreases-loop-rest l = length l.rest
