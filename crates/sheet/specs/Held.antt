-- Private: where rows lie. Rows are in slots, and each line names its slot, from 0.
use Rattle.std.specs.Prelude.{◌≡◌, ℕ, ◌+◌, ◌-◌, ◌<◌, ◌≤◌, ◌⊎◌, List, [], length, slice_index_or, nat_le, nat_lt, ◌&&◌, if◌then◌else◌}
use Rattle.sheet.specs.Cells.{Cell}
use Rattle.sheet.specs.Table.{table, nth}
use Rattle.sheet.specs.Halves.{Whole}
use Rattle.sheet.specs.Grid.{Grid, row_of}

-- the fields of a sheet
pub record Held : Type 0 where
  pub columns : ℕ
  pub order : List ℕ
  pub slots : List (List Cell)
  pub origins : List ℕ

-- the slot of a line
abbrev pub slot_at : List ℕ → ℕ → ℕ
slot_at order line = nth 0 order line

-- the row in a slot
abbrev pub row_in : List (List Cell) → ℕ → List Cell
row_in slots slot = slice_index_or slots slot []

-- the rows by line
abbrev pub rows_of : Held → List (List Cell)
rows_of h = table (length h.order) (λ line. row_in h.slots (slot_at h.order line))

-- what users see
abbrev pub grid_of : Held → Grid
grid_of h = record { columns = h.columns; lines = length h.order; rows = rows_of h; origins = h.origins }

-- each line has a slot of its own
pub record Once (order : List ℕ) : Type 0 where
  pub named : (line : ℕ) → slot_at order line < length order
  pub apart : (line other : ℕ) → 1 ≤ line → line ≤ length order → 1 ≤ other → other ≤ length order
      → slot_at order line ≡ slot_at order other → line ≡ other

-- each slot is named once, and each holds a whole row
pub record Sound (h : Held) : Type 0 where
  pub columns_low : 2 ≤ h.columns
  pub columns_high : h.columns ≤ 1000
  pub lines_low : 1 ≤ length h.order
  pub lines_high : length h.order ≤ 500
  pub slots : length h.slots ≡ length h.order
  pub origins : length h.origins ≡ length h.order
  pub once : Once h.order
  pub cells : (slot : ℕ) → slot < length h.order → length (row_in h.slots slot) ≡ h.columns
  pub whole : (slot : ℕ) → slot < length h.order → Whole (row_in h.slots slot)

-- the line whose slot a line takes as the names turn up by n from the top to the bottom: the one n
-- below it, and for the last n lines the first n in turn
abbrev pub line_below : ℕ → ℕ → ℕ → ℕ → ℕ
line_below n top bottom line =
    if nat_le top line && nat_le line bottom
    then (if nat_le (line + n) bottom then line + n else (top + line + n) - (bottom + 1))
    else line

-- the names turned
abbrev pub turned_up : ℕ → ℕ → ℕ → List ℕ → List ℕ
turned_up n top bottom order = table (length order) (λ line. slot_at order (line_below n top bottom line))

-- the rows of the lines from one to before another have this cell alone, and the others stay
abbrev pub LinesFilled : ℕ → ℕ → Cell → List ℕ → List (List Cell) → List (List Cell) → Type 0
LinesFilled first last cell order old new = (line : ℕ) → 1 ≤ line → line ≤ length order →
    row_in new (slot_at order line)
    ≡ (if nat_le first line && nat_lt line last
    then row_of (length (row_in old (slot_at order line))) cell
    else row_in old (slot_at order line))

-- each slot stays or has this cell alone
abbrev pub SlotsStayOrFill : Cell → List (List Cell) → List (List Cell) → Type 0
SlotsStayOrFill cell old new = (slot : ℕ) →
    (row_in new slot ≡ row_in old slot) ⊎ (row_in new slot ≡ row_of (length (row_in old slot)) cell)
