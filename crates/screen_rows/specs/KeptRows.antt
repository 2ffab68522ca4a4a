-- Private: rows that are kept of a screen by the slots in which they lie.
use Rattle.std.specs.Prelude.{◌≡◌, ℕ, ◌≤◌, Bool, List}
use Rattle.vt_screen.specs.declared.cell.Row.{Row}
use Rattle.vt_screen.specs.Cells.{row_at}
use Rattle.vt_screen.specs.Limits.{line_count}
use Rattle.vt_screen.specs.Slots.{ScreenState, row_in, slot_at}
use Rattle.vt_screen.specs.Table.{nth}

-- rows by line, for each line its slot, and whether the screen has 132 columns
pub record Kept : Type 0 where
  pub wide : Bool
  pub rows : List Row
  pub order : List ℕ

-- the lines have the slots that they have on a screen
abbrev pub HasOrder : Kept → ScreenState → Type 0
HasOrder kept s = (line : ℕ) → 1 ≤ line → line ≤ line_count → slot_at kept.order line ≡ slot_at s.order line

-- the row of a line of a screen is that of another line, or of the same, and lies where that lay; 0 tells nothing
pub record IsFrom (kept : Kept) (s : ScreenState) (line source : ℕ) : Type 0 where
  pub high : source ≤ line_count
  pub slot : 1 ≤ source → slot_at kept.order source ≡ slot_at s.order line
  pub row : 1 ≤ source → row_at kept.rows source ≡ row_at s.picture.rows line

-- the same of each line
abbrev pub AreSources : Kept → ScreenState → List ℕ → Type 0
AreSources kept s sources = (line : ℕ) → 1 ≤ line → line ≤ line_count → IsFrom kept s line (nth 0 sources line)

-- where a line's row is that of another one, it lies in its slot
abbrev pub HasSources : List Row → ScreenState → List ℕ → Type 0
HasSources slots s sources =
    (line : ℕ) → 1 ≤ line → line ≤ line_count → 1 ≤ nth 0 sources line
    → row_in slots (slot_at s.order line) ≡ row_at s.picture.rows line
