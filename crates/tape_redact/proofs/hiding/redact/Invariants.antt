use Rattle.std.proofs.Common.{◌+◌, ◌-◌, ◌≤◌, length, take}
use Rattle.tape_redact.specs.Ahead.{Tells}
use Rattle.tape_redact.specs.Redacted.{begins_at}
use Rattle.tape_redact.proofs.AheadLemmas.{IsAt}
use Rattle.tape_redact.proofs.hiding.redact.Given as goal

-- the bytes so far are the new ones, and of some places ahead it is known where the front of the text stands
abbrev pub invariant-loop-at : goal.invariant-loop-at
invariant-loop-at l = record {
  so_far : IsAt l.text l.fn.bytes l.bytes l.at l.left l.count;
  high : l.at ≤ l.ahead.end;
  few : l.ahead.end ≤ l.at + 64;
  within : l.ahead.end ≤ length l.fn.bytes;
  tells : Tells l.ahead.bits l.at l.ahead.end (begins_at (take 64 l.text) l.fn.bytes);
}

abbrev pub decreases-loop-at : goal.decreases-loop-at
decreases-loop-at l = length l.bytes - l.at
