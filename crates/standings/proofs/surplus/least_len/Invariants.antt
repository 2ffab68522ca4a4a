use Rattle.std.proofs.Common.{◌≡◌, ℕ, ◌-◌, ◌<◌, ◌≤◌, length, slice_index_or}
use Rattle.standings.proofs.surplus.least_len.Given as goal

-- those so far have none
abbrev pub invariant-loop-len : goal.invariant-loop-len
invariant-loop-len l = record {
  within : l.len ≤ length l.surplus;
  none : (k : ℕ) → k < l.len → slice_index_or l.surplus k 0 ≡ 0;
}

abbrev pub decreases-loop-len : goal.decreases-loop-len
decreases-loop-len l = length l.surplus - l.len
