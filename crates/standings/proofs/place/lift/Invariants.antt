use Rattle.std.proofs.Common.{◌≡◌, ◌++◌, drop, map, take}
use Rattle.standings.specs.Moved.{place_up}
use Rattle.standings.proofs.place.lift.Given as goal

-- those so far stand a row further up
abbrev pub invariant-loop-place : goal.invariant-loop-place
invariant-loop-place l = record {
  lifted : l.places ≡ map place_up (take l.place-index l.initial.places) ++ drop l.place-index l.initial.places;
}
