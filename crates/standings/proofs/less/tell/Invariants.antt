use Rattle.std.proofs.Common.{◌≡◌, ℕ, ◌-◌, ◌<◌, ◌≤◌, ◌&&◌, false, length, slice_index_or, true}
use Rattle.standings.specs.Less.{PairOff, is_away}
use Rattle.standings.specs.Standing.{is_less, left_of, place_at}
use Rattle.standings.proofs.less.tell.Given as goal

-- those that are told of are less and stand so at no end, and of those with a left part of the rows so far it is told
abbrev pub invariant-loop-at : goal.invariant-loop-at
invariant-loop-at l = record {
  within : l.at ≤ length l.alone.one.items;
  len : length l.told.items ≡ length l.one.places.items;
  right : PairOff l.one.rows.items l.one.places.items l.other.rows.items l.other.places.items l.alone.one.items l.alone.other.items → (n : ℕ) → n < length l.one.places.items → slice_index_or l.told.items n false ≡ true
      → (is_away l.ends (left_of l.one.rows.items (place_at l.one.places.items n))
      && is_less l.one.rows.items l.one.places.items l.other.rows.items l.other.places.items n) ≡ true;
  whole : PairOff l.one.rows.items l.one.places.items l.other.rows.items l.other.places.items l.alone.one.items l.alone.other.items → (n m : ℕ) → n < length l.one.places.items → m < l.at
      → left_of l.one.rows.items (place_at l.one.places.items n) ≡ left_of l.one.rows.items (place_at l.alone.one.items m)
      → (is_away l.ends (left_of l.one.rows.items (place_at l.one.places.items n))
      && is_less l.one.rows.items l.one.places.items l.other.rows.items l.other.places.items n) ≡ true
      → slice_index_or l.told.items n false ≡ true;
}

abbrev pub decreases-loop-at : goal.decreases-loop-at
decreases-loop-at l = length l.alone.one.items - l.at
