-- Private: lines that cover those in which rows differ.
use Rattle.std.specs.Prelude.{◌≡◌, ℕ, ◌+◌, ◌<◌, ◌≤◌, ◌==◌, false, List}
use Rattle.std.specs.List.{All, list_any}
use Rattle.vt_screen.specs.declared.cell.Row.{Row}
use Rattle.vt_screen.specs.Cells.{row_at}
use Rattle.vt_screen.specs.Limits.{line_count}

-- lines outside which rows are the same
pub record Cover (lines : List ℕ) (before after : List Row) : Type 0 where
  pub within : All (λ line. (1 ≤ line) × (line < line_count + 1)) lines
  pub others :
      (line : ℕ) → 1 ≤ line → line ≤ line_count → list_any (λ k. k == line) lines ≡ false → row_at before line ≡ row_at after line

-- so it is whatever the rows are
abbrev pub CoverAll : List ℕ → Type 0
CoverAll lines = (before after : List Row) → Cover lines before after
