use Rattle.std.proofs.Common.{ℕ, ◌+◌, ◌<◌, ◌≤◌}
use Rattle.standings.specs.Kept.{room_in}
use Rattle.standings.specs.Standing.{place_at}
use Rattle.standings.proofs.left.ends_before.Given as goal

-- it does at those behind so many, up to the last that was looked at
abbrev pub invariant-loop-at : goal.invariant-loop-at
invariant-loop-at l = record {
  within : l.at ≤ l.below;
  ends : (n : ℕ) → l.at ≤ n → n < l.below → (place_at l.still.places.items n).above ≤ l.above
      → (place_at l.still.places.items n).before + l.len ≤ room_in l.still.rows.items l.above l.before (place_at l.still.places.items n).above;
}

abbrev pub decreases-loop-at : goal.decreases-loop-at
decreases-loop-at l = l.at
