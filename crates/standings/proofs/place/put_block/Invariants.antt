use Rattle.std.proofs.Common.{◌≡◌, ◌≤◌, ◌-◌, drop, length, vec_capacity}
use Rattle.standings.specs.Near.{places_part}
use Rattle.standings.specs.Room.{fitting}
use Rattle.standings.specs.Standing.{line_text}
use Rattle.standings.proofs.place.put_block.Given as goal

-- the characters so far were tried
abbrev pub invariant-loop-before : goal.invariant-loop-before
invariant-loop-before l = record {
  placed : l.places.items ≡ fitting (vec_capacity l.fn.places) l.fn.places.items (places_part l.text l.above (line_text (drop l.above l.rows)) l.start (l.before - l.start));
  room : vec_capacity l.places ≡ vec_capacity l.fn.places;
  count : l.found ≡ length (places_part l.text l.above (line_text (drop l.above l.rows)) l.start (l.before - l.start));
  few : l.found ≤ l.before - l.start;
}
