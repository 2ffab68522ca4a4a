use Rattle.std.proofs.Common.{◌≡◌}
use Rattle.text_find.proofs.room.fit.Given as goal

-- all stayed so far
abbrev pub invariant-loop-above : goal.invariant-loop-above
invariant-loop-above l = record {
  rows : l.still.rows.items ≡ l.fn.still.rows.items;
  places : l.still.places.items ≡ l.fn.still.places.items;
}
