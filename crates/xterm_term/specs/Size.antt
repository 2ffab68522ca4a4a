-- The size of a screen (ours).
use Rattle.std.specs.Prelude.{ℕ, ◌≤◌}

-- 2 to 1,000 columns and 1 to 500 lines
pub record IsSize (columns lines : ℕ) : Type 0 where
  pub columns_low : 2 ≤ columns
  pub columns_high : columns ≤ 1000
  pub lines_low : 1 ≤ lines
  pub lines_high : lines ≤ 500
