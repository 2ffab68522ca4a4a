use Rattle.std.proofs.Common.{◌-◌, ◌≤◌, length, take}
use Rattle.standings.specs.Lag.{Lags}
use Rattle.standings.specs.Less.{PairOff}
use Rattle.standings.proofs.alone.Alone.between.Given as goal

-- the rows so far pair off, but for those that stand alone
abbrev pub invariant-loop-there : goal.invariant-loop-there
invariant-loop-there l = record {
  within : l.at ≤ length l.places;
  there : l.there ≤ length l.others;
  pairs : Lags l.lag l.one l.other → PairOff l.one (take l.at l.places) l.other (take l.there l.others) l.alone.one.items l.alone.other.items;
}

abbrev pub decreases-loop-there : goal.decreases-loop-there
decreases-loop-there l = length l.others - l.there
