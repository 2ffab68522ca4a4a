-- Where rows lie: 24 slots, and for each line the name of its slot, from 0 to 23. All of it is the
-- project's own (ours): no crate above sees it.
use Rattle.std.specs.Prelude.{◌≡◌, ℕ, ◌+◌, ◌-◌, ◌<◌, ◌≤◌, Bool, List, [], ◌∷◌, fold, length, nat_le, min, slice_index_or, slice_set, ◌==◌, ◌&&◌, if◌then◌else◌}
use Rattle.std.specs.List.{range_with_len}
use Rattle.vt_screen.specs.declared.cell.Row.{Row}
use Rattle.vt_screen.specs.Table.{table, nth}
use Rattle.vt_screen.specs.Cells.{blank_row, rows_by}
use Rattle.vt_screen.specs.Attributes.{Attributes}
use Rattle.vt_screen.specs.Picture.{Picture}
use Rattle.vt_screen.specs.Puts.{shown}
use Rattle.vt_screen.specs.Scrolls.{is_in_region}
use Rattle.vt_screen.specs.Limits.{line_count, wide_columns}

-- the names of the slots by line, and what lies in each slot
pub record Held : Type 0 where
  pub order : List ℕ
  pub slots : List Row

-- a screen: its picture, where its rows lie, and for each line whether it was touched since that was last cleared
pub record ScreenState : Type 0 where
  pub picture : Picture
  pub order : List ℕ
  pub slots : List Row
  pub touched : List Bool

-- the slot of a line
abbrev pub slot_at : List ℕ → ℕ → ℕ
slot_at order line = nth 0 order line

-- the row in a slot
abbrev pub row_in : List Row → ℕ → Row
row_in slots slot = slice_index_or slots slot blank_row

-- Private: the rows by line
abbrev pub rows_of : Held → List Row
rows_of held = rows_by (λ line. row_in held.slots (slot_at held.order line))

-- each slot is named once, and each holds 132 cells
pub record OncePerSlot (held : Held) : Type 0 where
  pub order : length held.order ≡ line_count
  pub slots : length held.slots ≡ line_count
  pub named : (line : ℕ) → slot_at held.order line < line_count
  pub once : (line other : ℕ) → 1 ≤ line → line ≤ line_count → 1 ≤ other → other ≤ line_count →
      slot_at held.order line ≡ slot_at held.order other → line ≡ other
  pub cells : (slot : ℕ) → length (row_in held.slots slot).cells ≡ wide_columns

-- line r lies in slot r - 1
abbrev pub first_order : List ℕ
first_order = table line_count (λ line. line - 1)

-- the line whose slot a line takes as the names turn up by n from the top to the bottom: the one n
-- below it, and for the last n lines the first n in turn
abbrev pub line_below : ℕ → ℕ → ℕ → ℕ → ℕ
line_below n top bottom line =
    if nat_le top line && nat_le line bottom
    then (if nat_le (line + n) bottom then line + n else (top + line + n) - (bottom + 1))
    else line

-- the mirror image
abbrev pub line_above : ℕ → ℕ → ℕ → ℕ → ℕ
line_above n top bottom line =
    if nat_le top line && nat_le line bottom
    then (if nat_le (top + n) line then line - n else (bottom + 1 + line) - (top + n))
    else line

abbrev pub turned_up : ℕ → ℕ → ℕ → List ℕ → List ℕ
turned_up n top bottom order = table line_count (λ line. slot_at order (line_below n top bottom line))

abbrev pub turned_down : ℕ → ℕ → ℕ → List ℕ → List ℕ
turned_down n top bottom order = table line_count (λ line. slot_at order (line_above n top bottom line))

-- index turns the names at the bottom margin, and blanks the slot of the line that leaves
abbrev pub order_indexed : Picture → List ℕ → List ℕ
order_indexed p order = if p.line == p.bottom then turned_up 1 p.top p.bottom order else order

abbrev pub slots_indexed : Picture → List ℕ → List Row → List Row
slots_indexed p order slots =
    if p.line == p.bottom then slice_set slots (slot_at order p.top) blank_row else slots

-- reverse index turns them at the top margin
abbrev pub order_reverse_indexed : Picture → List ℕ → List ℕ
order_reverse_indexed p order = if p.line == p.top then turned_down 1 p.top p.bottom order else order

abbrev pub slots_reverse_indexed : Picture → List ℕ → List Row → List Row
slots_reverse_indexed p order slots =
    if p.line == p.top then slice_set slots (slot_at order p.bottom) blank_row else slots

-- lines that are deleted or inserted turn the names from the cursor's line to the bottom margin, by at
-- most their number
abbrev pub order_lines_deleted : ℕ → Picture → List ℕ → List ℕ
order_lines_deleted n p order =
    if is_in_region p then turned_up (min n (p.bottom + 1 - p.line)) p.line p.bottom order else order

abbrev pub order_lines_inserted : ℕ → Picture → List ℕ → List ℕ
order_lines_inserted n p order =
    if is_in_region p then turned_down (min n (p.bottom + 1 - p.line)) p.line p.bottom order else order

-- the slots of n lines from one on become blank, and the others stay
unfoldable pub slots_blanked : ℕ → ℕ → List ℕ → List Row → List Row
slots_blanked first n order slots =
    fold (λ rows line. slice_set rows (slot_at order line) blank_row) slots (range_with_len first n)

-- of lines that are deleted the slots come free, and no other is written
abbrev pub slots_lines_deleted : ℕ → Picture → List ℕ → List Row → List Row
slots_lines_deleted n p order slots =
    if is_in_region p then slots_blanked p.line (min n (p.bottom + 1 - p.line)) order slots else slots

-- lines that are inserted push as many lines out at the bottom margin, and take their slots
abbrev pub slots_lines_inserted : ℕ → Picture → List ℕ → List Row → List Row
slots_lines_inserted n p order slots =
    let count = min n (p.bottom + 1 - p.line) in
    if is_in_region p then slots_blanked (p.bottom + 1 - count) count order slots else slots

-- a pending wrap turns the names as index does
abbrev pub order_wrap_taken : Picture → List ℕ → List ℕ
order_wrap_taken p order = if p.wrap then order_indexed p order else order

-- characters that are shown one after another turn them at each wrap that is taken
abbrev pub order_run_shown : List ℕ → Attributes → Bool → Picture → List ℕ → List ℕ
order_run_shown [] rendition autowrap p order = order
order_run_shown (glyph ∷ glyphs) rendition autowrap p order =
    order_run_shown glyphs rendition autowrap (shown glyph rendition autowrap p) (order_wrap_taken p order)
