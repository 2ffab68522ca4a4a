use Rattle.std.proofs.Common.{◌-◌, ◌≤◌, [], take}
use Rattle.standings.specs.Less.{PairOff}
use Rattle.standings.proofs.alone.count_paired.Given as goal

-- those of the rows so far pair off
abbrev pub invariant-loop-count : goal.invariant-loop-count
invariant-loop-count l = record {
  few : l.count ≤ l.most;
  pairs : PairOff l.one (take l.count l.places) l.other (take l.count l.others) [] [];
}

abbrev pub decreases-loop-count : goal.decreases-loop-count
decreases-loop-count l = l.most - l.count
