use Rattle.std.proofs.Common.{◌-◌, ◌≤◌, [], take}
use Rattle.standings.specs.Less.{Agree, PairOff}
use Rattle.standings.specs.Rows.{row_below}
use Rattle.standings.proofs.alone.count_agreed.Given as goal

-- those so far pair off
abbrev pub invariant-loop-count : goal.invariant-loop-count
invariant-loop-count l = record {
  few : l.count ≤ l.most;
  agree : Agree (row_below l.one l.agreed.here).characters (row_below l.other l.agreed.there).characters l.agreed.count;
  pairs : PairOff l.one (take l.count l.places) l.other (take l.count l.others) [] [];
}

abbrev pub decreases-loop-count : goal.decreases-loop-count
decreases-loop-count l = l.most - l.count
