use Rattle.std.proofs.Common.{◌≡◌, ◌≢◌, ◌<◌, ℕ, false, slice_index_or}
use Rattle.standings.proofs.place.has.Given as goal

-- it is none of those so far, if it wasn't found
abbrev pub invariant-loop-character : goal.invariant-loop-character
invariant-loop-character l = l.found ≡ false → (before : ℕ) → before < l.character-index → slice_index_or l.characters before 0 ≢ l.wanted
