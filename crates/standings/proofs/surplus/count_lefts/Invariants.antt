use Rattle.std.proofs.Common.{◌≡◌, ℕ, ◌+◌, List, length, nat_eq, take, true}
use Rattle.std.specs.List.{starts_with}
use Rattle.standings.specs.Less.{Agree, for_left}
use Rattle.standings.specs.Rows.{row_below}
use Rattle.standings.specs.Standing.{count_left}
use Rattle.standings.proofs.surplus.count_lefts.Given as goal

-- those so far were counted
abbrev pub invariant-loop-place : goal.invariant-loop-place
invariant-loop-place l = record {
  agree : Agree l.row (row_below l.rows l.agreed.above).characters l.agreed.count;
  room : length l.counts ≡ length l.row + 1;
  counted : (left : List ℕ) → starts_with nat_eq l.row left ≡ true → for_left l.counts left ≡ count_left l.rows (take l.place-index l.places) left;
}
