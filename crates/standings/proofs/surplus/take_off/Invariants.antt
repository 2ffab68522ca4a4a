use Rattle.std.proofs.Common.{◌≡◌, ℕ, ◌-◌, ◌*◌, ◌<◌, List, nat_eq, slice_index_or, take, true}
use Rattle.std.specs.List.{starts_with}
use Rattle.standings.specs.Less.{Agree, for_left}
use Rattle.standings.specs.Rows.{row_below}
use Rattle.standings.specs.Standing.{count_left}
use Rattle.standings.proofs.surplus.take_off.Given as goal

-- it was taken off for those so far
abbrev pub invariant-loop-place : goal.invariant-loop-place
invariant-loop-place l = record {
  agree : Agree l.row (row_below l.rows l.agreed.above).characters l.agreed.count;
  none : (k : ℕ) → k < l.least → slice_index_or l.counts k 0 ≡ 0;
  left : (left : List ℕ) → starts_with nat_eq l.row left ≡ true
      → for_left l.counts left ≡ for_left l.fn.counts left - l.each * count_left l.rows (take l.place-index l.places) left;
  spent : l.spent ≡ true → (k : ℕ) → slice_index_or l.counts k 0 ≡ 0;
}
