use Rattle.std.proofs.Common.{◌≡◌, ◌≢◌, ◌+◌, ◌<◌, ℕ, false, slice_index_or}
use Rattle.standings.proofs.place.has_pair.Given as goal

-- none of those so far is the first with the second behind it, if they weren't found
abbrev pub invariant-loop-before : goal.invariant-loop-before
invariant-loop-before l =
    l.found ≡ false → (k : ℕ) → k < l.before → slice_index_or l.characters k 0 ≡ l.first → slice_index_or l.characters (k + 1) 0 ≢ l.second
