use Rattle.std.proofs.Common.{◌≡◌, ◌≤◌, take}
use Rattle.standings.specs.Standing.{count_left}
use Rattle.standings.proofs.left.count_left.Given as goal

-- those so far were counted
abbrev pub invariant-loop-place : goal.invariant-loop-place
invariant-loop-place l = record {
  counted : l.count ≡ count_left l.rows (take l.place-index l.places) l.left;
  few : l.count ≤ l.place-index;
}
