use Rattle.std.proofs.Common.{◌-◌, ◌≤◌, length, take}
use Rattle.vt_parser.specs.Machine.{moves_to}
use Rattle.vt_parser.specs.Reading.{IsCounted, collected, GoesOn}
use Rattle.vt_parser.proofs.control_sequence.collect.Given as goal

-- the bytes up to `at` led to what was collected
abbrev pub invariant-loop-at : goal.invariant-loop-at
invariant-loop-at l = record {
  counted : IsCounted l.text;
  from : l.from ≤ l.at;
  within : l.at ≤ length l.bytes;
  moved : GoesOn (take l.from l.bytes) (collected l.fn.text l.fn.params) (take l.at l.bytes) (moves_to (collected l.text l.params));
}

abbrev pub decreases-loop-at : goal.decreases-loop-at
decreases-loop-at l = length l.bytes - l.at
