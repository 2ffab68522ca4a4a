use Rattle.std.proofs.Common.{◌≡◌, ℕ, ◌<◌, false, slice_index_or}
use Rattle.standings.proofs.less.some_told.Given as goal

-- none of those so far, if none was found
abbrev pub invariant-loop-one : goal.invariant-loop-one
invariant-loop-one l = l.some ≡ false → (n : ℕ) → n < l.one-index → slice_index_or l.told n false ≡ false
