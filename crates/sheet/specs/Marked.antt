-- Private: which of a list of marks are true.
use Rattle.std.specs.Prelude.{◌≡◌, ℕ, ◌+◌, ◌-◌, ◌<◌, ◌≤◌, ◌==◌, Bool, not, true, false, List, length, slice_index_or}
use Rattle.sheet.specs.Table.{table}
use Rattle.sheet.specs.Grid.{is_touched, origin_of}

-- from one on this is the first true mark, or how many there are where none is
pub record IsNext (marks : List Bool) (from next : ℕ) : Type 0 where
  pub low : from ≤ next
  pub high : next ≤ length marks
  pub between : (k : ℕ) → from ≤ k → k < next → slice_index_or marks k true ≡ false
  pub found : next < length marks → slice_index_or marks next true ≡ true

-- for each line whether it was touched
abbrev pub marks_of : List ℕ → List Bool
marks_of origins = table (length origins) (λ line. is_touched origins line)

-- the same for some lines, the first of this number
abbrev pub marks_from : ℕ → List ℕ → List Bool
marks_from first origins = table (length origins) (λ k. not (origin_of origins k == first + k - 1))
