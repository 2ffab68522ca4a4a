use Rattle.std.proofs.Common.{◌≡◌, take}
use Rattle.std.specs.Cmp.Lexicographic.{pointwise}
use Rattle.screen_rows.specs.SameRows.{same_cell}
use Rattle.screen_rows.proofs.same.same_first.Given as goal

-- the cells so far were compared
abbrev pub invariant-loop-at : goal.invariant-loop-at
invariant-loop-at g l = record {
  compared : l.same ≡ pointwise same_cell (take l.at l.one) (take l.at l.other);
}
