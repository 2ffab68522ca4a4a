-- Private: rows that stand on another screen some lines further up or down.
use Rattle.std.specs.Prelude.{◌≡◌, ℕ, ◌+◌, ◌-◌, ◌<◌, ◌≤◌}
use Rattle.vt_screen.specs.Cells.{row_at}
use Rattle.vt_screen.specs.Limits.{line_count}
use Rattle.screen_print.specs.declared.moved.Moved.{Moved}
use Rattle.screen_print.specs.declared.moved.Rise.{Rise}
use Rattle.screen_print.specs.Stills.{Still}

-- the first so many rows of a screen stood so many lines further down on an earlier one
pub record IsRise (rise : Rise) (earlier later : Still) : Type 0 where
  pub room : rise.far + rise.count ≤ line_count
  pub rows : (line : ℕ) → 1 ≤ line → line ≤ rise.count → row_at later.rows line ≡ row_at earlier.rows (line + rise.far)

-- the rows of these lines of a screen stand on another one, so many lines further down or up
pub record IsMoved (moved : Moved) (one other : Still) : Type 0 where
  pub low : moved.up < moved.from + moved.down
  pub high : moved.end + moved.down ≤ line_count + 1 + moved.up
  pub down : moved.down ≤ line_count
  pub last : moved.end ≤ line_count + 1
  pub rows : (line : ℕ) → moved.from ≤ line → line < moved.end → row_at one.rows line ≡ row_at other.rows (line + moved.down - moved.up)

-- so it is whatever the screens show
abbrev pub AreAnyLines : Moved → Type 0
AreAnyLines moved = (one other : Still) → IsMoved moved one other

-- where rows moved so, it is so with the earlier screen and the later one ..
abbrev pub TellsWent : Rise → Moved → Type 0
TellsWent rise moved = (earlier later : Still) → IsRise rise earlier later → IsMoved moved earlier later

-- .. or the other way round
abbrev pub TellsCame : Rise → Moved → Type 0
TellsCame rise moved = (earlier later : Still) → IsRise rise earlier later → IsMoved moved later earlier

-- where there are such lines behind a line, it's one of them, and stands on the other screen from a line on
abbrev pub LeadsOn : Moved → ℕ → ℕ → Type 0
LeadsOn moved line next = line < moved.end → (moved.from ≤ line) × (next + moved.up ≤ line + moved.down)
