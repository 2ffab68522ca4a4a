use Rattle.std.proofs.Common.{◌≡◌, ℕ, ◌-◌, ◌<◌, ◌≤◌, false, length}
use Rattle.standings.specs.Less.{PairOff, may_pass}
use Rattle.standings.specs.Standing.{left_of, place_at}
use Rattle.standings.proofs.less.some_pass.Given as goal

-- none with a left part of the rows so far does
abbrev pub invariant-loop-at : goal.invariant-loop-at
invariant-loop-at l = record {
  within : l.at ≤ length l.alone.one.items;
  none : PairOff l.one.rows.items l.one.places.items l.other.rows.items l.other.places.items l.alone.one.items l.alone.other.items → (n m : ℕ) → n < length l.one.places.items → m < l.at
      → left_of l.one.rows.items (place_at l.one.places.items n) ≡ left_of l.one.rows.items (place_at l.alone.one.items m)
      → may_pass l.first.rows.items l.first.places.items l.one.rows.items l.one.places.items l.other.rows.items l.other.places.items n ≡ false;
}

abbrev pub decreases-loop-at : goal.decreases-loop-at
decreases-loop-at l = length l.alone.one.items - l.at
