use Rattle.std.proofs.Common.{◌≡◌, ℕ, ◌<◌, length, slice_index_or, true}
use Rattle.standings.proofs.line.spell.Given as goal

-- those so far are each a byte
abbrev pub invariant-loop-at : goal.invariant-loop-at
invariant-loop-at l = record {
  count : length l.bytes ≡ length l.chars;
  small : l.all ≡ true → (k : ℕ) → k < l.at → slice_index_or l.chars k 0 < 128;
  same : l.all ≡ true → (k : ℕ) → k < l.at → slice_index_or l.bytes k 0 ≡ slice_index_or l.chars k 0;
}
