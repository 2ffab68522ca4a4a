-- Private: what the fields of kept rows stand for.
use Rattle.std.specs.Prelude.{◌≡◌, ℕ, ◌<◌, ◌≤◌, length}
use Rattle.screen_rows.specs.declared.kept.KeptRows.TheInside.{Inside as Fields}
use Rattle.vt_screen.specs.Cells.{row_at, rows_by}
use Rattle.vt_screen.specs.Limits.{line_count}
use Rattle.vt_screen.specs.Picture.{SoundRow}
use Rattle.vt_screen.specs.Slots.{row_in, slot_at}
use Rattle.screen_rows.specs.KeptRows.{Kept}

abbrev pub kept_in : Fields → Kept
kept_in k = record {
  wide = k.wide;
  rows = rows_by (λ line. row_in k.slots (slot_at k.order line));
  order = k.order;
}

-- each line has a slot, and each row is blank right of the right margin
pub record AreKept (k : Fields) : Type 0 where
  pub slots : length k.slots ≡ line_count
  pub named : (line : ℕ) → 1 ≤ line → line ≤ line_count → slot_at k.order line < line_count
  pub row : (line : ℕ) → SoundRow k.wide (row_at (kept_in k).rows line)
