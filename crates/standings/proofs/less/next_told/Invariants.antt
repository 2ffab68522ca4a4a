use Rattle.std.proofs.Common.{◌≡◌, ℕ, ◌-◌, ◌<◌, ◌≤◌, false, length, slice_index_or}
use Rattle.standings.proofs.less.next_told.Given as goal

-- it is told of none of those that were passed
abbrev pub invariant-loop-at : goal.invariant-loop-at
invariant-loop-at l = record {
  low : l.from ≤ l.at;
  within : l.from ≤ length l.told → l.at ≤ length l.told;
  none : (n : ℕ) → l.from ≤ n → n < l.at → slice_index_or l.told n false ≡ false;
}

abbrev pub decreases-loop-at : goal.decreases-loop-at
decreases-loop-at l = length l.told - l.at
