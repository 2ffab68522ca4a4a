use Rattle.std.proofs.Common.{ℕ, ◌<◌, ◌≤◌, List, arith, length}
use Rattle.standings.specs.Near.{IsOrdered}
use Rattle.standings.specs.Standing.{place_at}
use Rattle.standings.specs.declared.place.Place.{Place}
use Rattle.standings.proofs.place.count_up_to.Goals as goal

-- where the first that was passed stands in none above, neither do those behind it
behind : (places : List Place) (count most above : ℕ) → most ≤ length places → (count < most → above ≤ (place_at places count).above) → IsOrdered places
    → (k : ℕ) → count ≤ k → k < most → above ≤ (place_at places k).above
behind places count most above within ends ordered k low lt = omega (arith, ends (omega (arith, low, lt)), ordered count k low (omega (arith, lt, within)))

pub returns-after-loop-count-clause-late : goal.returns-after-loop-count-clause-late
returns-after-loop-count-clause-late c = behind c.args.places.now c.loop-count.count c.args.most c.args.above c.requires c.loop-count.invariant.ends

pub returns-else-places-count-clause-late : goal.returns-else-places-count-clause-late
returns-else-places-count-clause-late c = behind c.args.places.now c.loop-count.count c.args.most c.args.above c.requires c.loop-count.invariant.ends
