use Rattle.std.proofs.Common.{◌≡◌, ◌≤◌, ◌-◌, drop, length, vec_capacity}
use Rattle.standings.specs.Near.{places_part}
use Rattle.standings.specs.Room.{fitting}
use Rattle.standings.specs.Standing.{line_text}
use Rattle.standings.proofs.place.put_part.Given as goal

-- the characters so far were tried
abbrev pub invariant-loop-from : goal.invariant-loop-from
invariant-loop-from l = record {
  low : l.start ≤ l.from;
  high : l.from ≤ l.end;
  placed : l.places.items ≡ fitting (vec_capacity l.fn.places) l.fn.places.items (places_part l.text l.above (line_text (drop l.above l.rows)) l.start (l.from - l.start));
  room : vec_capacity l.places ≡ vec_capacity l.fn.places;
  count : l.found ≡ length (places_part l.text l.above (line_text (drop l.above l.rows)) l.start (l.from - l.start));
  few : l.found ≤ l.from - l.start;
}

abbrev pub decreases-loop-from : goal.decreases-loop-from
decreases-loop-from l = l.end - l.from
