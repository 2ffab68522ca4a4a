use Rattle.std.proofs.Common.{◌-◌, ◌<◌, ◌≤◌, length, take}
use Rattle.std.specs.Prelude.{fold}
use Rattle.tape_check.specs.Tally.{Tally, tallied}
use Rattle.tape_check.specs.Tallying.{IsAt}
use Rattle.tape_check.proofs.tally.Reader.take_others.Given as goal

-- the bytes so far were taken
abbrev pub invariant-loop-at : goal.invariant-loop-at
invariant-loop-at l = record {
  some : 0 < l.at;
  within : l.at ≤ length l.bytes;
  stands : (t : Tally) → IsAt l.fn.self t → IsAt l.self (fold tallied t (take l.at l.bytes));
}

abbrev pub decreases-loop-at : goal.decreases-loop-at
decreases-loop-at l = length l.bytes - l.at
