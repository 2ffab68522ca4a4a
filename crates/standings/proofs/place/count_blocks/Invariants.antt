use Rattle.std.proofs.Common.{◌<◌, ◌≤◌}
use Rattle.standings.specs.Standing.{place_at}
use Rattle.standings.proofs.place.count_blocks.Given as goal

-- the first of those that were passed doesn't
abbrev pub invariant-loop-count : goal.invariant-loop-count
invariant-loop-count l = record {
  within : l.count ≤ l.most;
  ends : l.count < l.most → l.above ≤ (place_at l.places l.count).above;
}

abbrev pub decreases-loop-count : goal.decreases-loop-count
decreases-loop-count l = l.count
