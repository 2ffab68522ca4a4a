-- Private: a packed screen, and the picture that it stands for (ours).
use Rattle.std.specs.Prelude.{◌≡◌, ℕ, ◌+◌, ◌*◌, ◌-◌, ◌<◌, ◌≤◌, List, length, nat_le, if◌then◌else◌}
use Rattle.vt_screen.specs.declared.cell.Cell.{Cell}
use Rattle.vt_screen.specs.declared.cell.Row.{Row}
use Rattle.vt_screen.specs.declared.cell.Size.TheVariants.{Single}
use Rattle.vt_screen.specs.declared.screen.packed.PackedScreen.TheInside.{Inside as Fields}
use Rattle.vt_screen.specs.declared.screen.packed.Part.{Part}
use Rattle.vt_screen.specs.Table.{nth}
use Rattle.vt_screen.specs.Cells.{blank, cell_at, row_at, row_by, rows_by}
use Rattle.vt_screen.specs.Limits.{line_count, wide_columns}
use Rattle.vt_screen.specs.Picture.{Picture, Sound}

-- the row of a part: its cells among those of all lines, and blank ones behind them
abbrev pub unpacked : List Cell → Part → Row
unpacked cells part = row_by part.size (λ column.
    if nat_le column part.len then nth blank cells (part.from + column) else blank)

-- the part of a line
abbrev pub part_at : List Part → ℕ → Part
part_at parts line = nth (record { size = Single; from = 0; len = 0 }) parts line

-- the picture of which a packed screen was made
abbrev pub packed_picture : Fields → Picture
packed_picture s = record {
  wide = s.wide;
  rows = rows_by (λ line. unpacked s.cells.items (part_at s.parts line));
  line = s.line;
  column = s.column;
  wrap = s.wrap;
  top = s.top;
  bottom = s.bottom;
  tabs = s.tabs;
}

-- a part's cells lie among those of all lines
pub record IsPart (cells : List Cell) (part : Part) : Type 0 where
  pub within : part.from + part.len ≤ length cells
  pub short : part.len ≤ wide_columns

-- what every packed screen keeps
pub record IsPacked (s : Fields) : Type 0 where
  pub sound : Sound (packed_picture s)
  pub parts : length s.parts ≡ line_count
  pub part : (line : ℕ) → 1 ≤ line → line ≤ line_count → IsPart s.cells.items (part_at s.parts line)

-- a row's cells behind so many first ones are blank
pub record IsUsed (row : Row) (len : ℕ) : Type 0 where
  pub within : len ≤ wide_columns
  pub tail : (column : ℕ) → len < column → cell_at row column ≡ blank

-- the same of each line before this one
pub record AreUsed (rows : List Row) (lens : List ℕ) (before : ℕ) : Type 0 where
  pub all : length lens ≡ line_count
  pub line : (line : ℕ) → 1 ≤ line → line < before → IsUsed (row_at rows line) (nth 0 lens line)

-- the lines before this one are packed
pub record ArePacked (rows : List Row) (cells : List Cell) (parts : List Part) (before : ℕ) : Type 0 where
  pub all : length parts ≡ line_count
  pub few : length cells ≤ (before - 1) * wide_columns
  pub part : (line : ℕ) → 1 ≤ line → line < before → IsPart cells (part_at parts line)
  pub row : (line : ℕ) → 1 ≤ line → line < before → unpacked cells (part_at parts line) ≡ row_at rows line
