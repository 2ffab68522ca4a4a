-- Lists that are told by number. Elements are counted from 1, as lines and columns are.
use Rattle.std.specs.Prelude.{ℕ, zero, suc, List, map, slice_index_or}
use Rattle.std.specs.List.{range_with_len}

-- the list of n elements of which number k is f k (ours)
unfoldable pub table : {X : Type 0} → ℕ → (ℕ → X) → List X
table n f = map f (range_with_len 1 n)

-- element number k of the list, or d where there is none: at 0 too (ours)
unfoldable pub nth : {X : Type 0} → X → List X → ℕ → X
nth d xs zero = d
nth d xs (suc k) = slice_index_or xs k d
