use Rattle.std.proofs.Common.{◌≡◌, ◌-◌, ◌≤◌, take}
use Rattle.screen_rows.specs.RowText.{characters}
use Rattle.screen_print.proofs.alike.same_blocks.Given as goal

-- the cells so far are read alike
abbrev pub invariant-loop-at : goal.invariant-loop-at
invariant-loop-at l = record {
  within : l.at ≤ l.least;
  same : take l.at (characters l.one) ≡ take l.at (characters l.other);
}

abbrev pub decreases-loop-at : goal.decreases-loop-at
decreases-loop-at l = l.least - l.at
