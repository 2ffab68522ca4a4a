use Rattle.std.proofs.Common.{◌≡◌, ℕ, ◌<◌, slice_index_or, true}
use Rattle.standings.proofs.line.are_spaces.Given as goal

-- those so far are
abbrev pub invariant-loop-character : goal.invariant-loop-character
invariant-loop-character l = l.all ≡ true → (k : ℕ) → k < l.character-index → slice_index_or l.chars k 0 ≡ 32
