use Rattle.std.proofs.Common.{◌≡◌, ℕ, ◌<◌, ◌≤◌, false, slice_index_or, true}
use Rattle.standings.specs.Standing.{place_at}
use Rattle.standings.proofs.less.tell_behind.Given as goal

-- it is told of those so far, and of no others besides
abbrev pub invariant-loop-n : goal.invariant-loop-n
invariant-loop-n l = record {
  kept : (k : ℕ) → slice_index_or l.fn.told k false ≡ true → slice_index_or l.told k false ≡ true;
  told : (k : ℕ) → k < l.n → (place_at l.places k).above ≡ l.above → l.before ≤ (place_at l.places k).before → slice_index_or l.told k false ≡ true;
  only : (k : ℕ) → slice_index_or l.told k false ≡ true → slice_index_or l.fn.told k false ≡ false
      → ((place_at l.places k).above ≡ l.above) × (l.before ≤ (place_at l.places k).before);
}
