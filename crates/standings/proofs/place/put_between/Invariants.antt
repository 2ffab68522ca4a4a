use Rattle.std.proofs.Common.{◌≡◌, ◌<◌, ◌-◌, ◌^◌, length, vec_capacity}
use Rattle.standings.specs.Room.{fitting}
use Rattle.standings.specs.Spans.{places_along}
use Rattle.standings.proofs.place.put_between.Given as goal

-- the places of the rows so far
abbrev pub invariant-loop-above : goal.invariant-loop-above
invariant-loop-above l = record {
  placed : l.places.items ≡ fitting (vec_capacity l.fn.places) l.fn.places.items (places_along l.text l.rows l.fn.start (l.above - l.fn.start));
  room : vec_capacity l.places ≡ vec_capacity l.fn.places;
  count : l.found < 2 ^ 64 - 1 → l.found ≡ length (places_along l.text l.rows l.fn.start (l.above - l.fn.start));
}
