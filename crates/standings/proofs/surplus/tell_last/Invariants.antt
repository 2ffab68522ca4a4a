use Rattle.std.proofs.Common.{◌≡◌, ℕ, ◌-◌, ◌<◌, ◌≤◌, ◌&&◌, ◌||◌, List, drop, false, length, nat_eq, nat_le, slice_index_or, true}
use Rattle.std.specs.List.{starts_with}
use Rattle.standings.specs.Less.{Agree, for_left, is_last}
use Rattle.standings.specs.Rows.{row_below}
use Rattle.standings.specs.Standing.{count_left}
use Rattle.standings.proofs.surplus.tell_last.Given as goal

-- it was told of those behind so many
abbrev pub invariant-loop-at : goal.invariant-loop-at
invariant-loop-at l = record {
  within : l.at ≤ length l.still.places.items;
  agree : Agree l.row (row_below l.rows l.agreed.above).characters l.agreed.count;
  none : (k : ℕ) → k < l.least → slice_index_or l.surplus k 0 ≡ 0;
  left : (left : List ℕ) → starts_with nat_eq l.row left ≡ true
      → for_left l.surplus left ≡ for_left l.fn.surplus left - count_left l.rows (drop l.at l.still.places.items) left;
  told : (n : ℕ) → n < length l.still.places.items
      → slice_index_or l.told n false ≡ (slice_index_or l.fn.told n false || (nat_le l.at n && is_last l.row l.rows l.still.places.items l.fn.surplus n));
  spent : l.spent ≡ true → (k : ℕ) → slice_index_or l.surplus k 0 ≡ 0;
}

abbrev pub decreases-loop-at : goal.decreases-loop-at
decreases-loop-at l = l.at
