-- Which lines were touched since that was last cleared, and what this tells of their rows.
use Rattle.std.specs.Prelude.{◌≡◌, ℕ, Bool, true, false, List, nat_le, nat_lt, ◌==◌, ◌&&◌, ◌||◌, if◌then◌else◌}
use Rattle.vt_screen.specs.declared.cell.Row.{Row}
use Rattle.vt_screen.specs.Table.{table, nth}
use Rattle.vt_screen.specs.Cells.{row_at}
use Rattle.vt_screen.specs.Slots.{ScreenState}
use Rattle.vt_screen.specs.Limits.{line_count}

-- a line was touched; lines outside the screen count as touched (ours)
abbrev pub is_touched : List Bool → ℕ → Bool
is_touched touched line = (line == 0) || nth true touched line

-- all lines are touched (ours)
abbrev pub all_touched : List Bool
all_touched = table line_count (λ _. true)

-- Private: the lines from one to before another are touched
abbrev pub touched_from : ℕ → ℕ → List Bool → List Bool
touched_from first last touched = table line_count (λ line.
    if nat_le first line && nat_lt line last then true else is_touched touched line)

-- each line that wasn't touched has the row of before (ours)
abbrev pub Told : List Row → ScreenState → Type 0
Told before s = (line : ℕ) → is_touched s.touched line ≡ false → row_at s.picture.rows line ≡ row_at before line

-- what was told of a screen is told of what an operation makes of it (ours)
abbrev pub KeepsTold : ScreenState → ScreenState → Type 0
KeepsTold s t = (before : List Row) → Told before s → Told before t
