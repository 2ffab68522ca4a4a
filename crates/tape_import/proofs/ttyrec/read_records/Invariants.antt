use Rattle.std.proofs.Common.{◌≡◌, ◌-◌, ◌≤◌, drop, length}
use Rattle.tape_import.specs.Ttyrec.{records, ttyrec_of}
use Rattle.tape_import.proofs.ttyrec.read_records.Given as goal

abbrev pub invariant-loop-at : goal.invariant-loop-at
invariant-loop-at l = record {
  within : l.at ≤ length l.file.value.items;
  few : l.read.count ≤ l.at;
  same : ttyrec_of (drop l.start l.file.value.items) ≡ records 0 l.read (drop l.at l.file.value.items);
}

abbrev pub decreases-loop-at : goal.decreases-loop-at
decreases-loop-at l = length l.file.value.items - l.at
