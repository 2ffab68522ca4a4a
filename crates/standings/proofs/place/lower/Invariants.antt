use Rattle.std.proofs.Common.{◌≡◌, ◌++◌, drop, map, take}
use Rattle.standings.specs.Moved.{place_down}
use Rattle.standings.proofs.place.lower.Given as goal

-- those so far stand a row further down
abbrev pub invariant-loop-place : goal.invariant-loop-place
invariant-loop-place l = record {
  lowered : l.places ≡ map place_down (take l.place-index l.initial.places) ++ drop l.place-index l.initial.places;
}
