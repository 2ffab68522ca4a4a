use Rattle.std.proofs.Common.{◌≡◌, ◌-◌, ◌++◌, length, take}
use Rattle.std.specs.List.{range_with_len}
use Rattle.standings.proofs.row.number.Given as goal

-- those so far are numbered
abbrev pub invariant-loop-at : goal.invariant-loop-at
invariant-loop-at l = record {
  long : length l.columns ≡ length l.initial.columns;
  so_far : take l.at l.columns ≡ take l.from l.initial.columns ++ range_with_len l.column (l.at - l.from);
}
