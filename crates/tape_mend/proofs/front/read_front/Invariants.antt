use Rattle.std.proofs.Common.{◌≡◌, ◌+◌, ◌≤◌, length}
use Rattle.tape_mend.specs.Front.{front, front_of}
use Rattle.tape_mend.specs.Lines.{timing_lines}
use Rattle.tape_mend.specs.Seen.{IsAsked, logs_of}
use Rattle.tape_mend.specs.Steps.{IsSound}
use Rattle.tape_mend.proofs.front.read_front.Given as goal

abbrev pub invariant-loop-logs : goal.invariant-loop-logs
invariant-loop-logs l = record {
  sound : IsSound l.behind;
  lines : l.behind.lines + length l.rest ≤ length l.timing;
  asked : IsAsked l.logs;
  same : front_of l.timing ≡ front l.format l.pieces.items l.behind (logs_of l.logs) (timing_lines l.rest);
}

abbrev pub decreases-loop-logs : goal.decreases-loop-logs
decreases-loop-logs l = length l.rest
