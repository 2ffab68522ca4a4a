use Rattle.std.proofs.Common.{◌≡◌, ℕ, ◌<◌, false, length, slice_index_or, true}
use Rattle.standings.proofs.surplus.is_spent.Given as goal

-- none of those so far has one, or some has
abbrev pub invariant-loop-count : goal.invariant-loop-count
invariant-loop-count l = record {
  none : l.some ≡ false → (k : ℕ) → k < l.count-index → slice_index_or l.surplus k 0 ≡ 0;
  some : l.some ≡ true → (k : ℕ) × (k < length l.surplus) × (0 < slice_index_or l.surplus k 0);
}
