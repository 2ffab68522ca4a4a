-- The grounds of a screen: a path for each group of neighbours whose ground is painted alike, and isn't the screen's
-- (ours).
use Rattle.std.specs.Prelude.{ℕ, ◌-◌, ◌*◌, Bool, not, List, ◌++◌, codes, decimal, length, ◌==◌, ◌||◌}
use Rattle.std.specs.List.{flat_map, range_with_len}
use Rattle.sheet.specs.Cells.{Cell}
use Rattle.sheet.specs.Grid.{row_at}
use Rattle.xterm_rows.specs.Groups.{group_end, starts}
use Rattle.xterm_rows.specs.Ink.{inked}
use Rattle.xterm_rows.specs.Runs.{owner}
use Rattle.xterm_picture.specs.Attributes.{fill_text, text_where}
use Rattle.xterm_picture.specs.Colours.{ground_paint, same_paint}
use Rattle.xterm_picture.specs.declared.colours.Paint.{Paint}
use Rattle.xterm_picture.specs.declared.colours.Paint.TheVariants.{Back}

-- what is written of each line in turn
abbrev pub by_line : (ℕ → List ℕ) → ℕ → List ℕ
by_line text lines = flat_map text (range_with_len 1 lines)

-- how many units down a line begins
abbrev pub down : ℕ → ℕ
down line = 20 * (line - 1)

-- the ground of the character at a place
unfoldable pub ground_at : List Cell → ℕ → Paint
ground_at cells at = ground_paint (owner cells at).rendition

-- a group begins at the first cell, and where the ground changes
unfoldable pub begins_ground : List Cell → ℕ → Bool
begins_ground cells at = (at == 0) || not (same_paint (ground_at cells (at - 1)) (ground_at cells at))

-- so many cells behind so many others, so many units down
unfoldable pub square_text : Paint → ℕ → ℕ → ℕ → List ℕ
square_text paint top before many =
    codes "<path" ++ fill_text paint ++ codes " d=\"M" ++ decimal (10 * before) ++ codes " " ++ decimal top
    ++ codes "h" ++ decimal (10 * many) ++ codes "v20h-" ++ decimal (10 * many) ++ codes "z\"/>"

-- their ground, unless it is the screen's
unfoldable pub patch_text : Paint → ℕ → ℕ → ℕ → List ℕ
patch_text paint top before many = text_where (not (same_paint paint Back)) (square_text paint top before many)

-- the ground of the group that begins at a place
abbrev pub ground_text : List Cell → ℕ → ℕ → List ℕ
ground_text cells line at =
    patch_text (ground_at cells at) (down line) at (group_end (begins_ground cells) at (length cells) - at)

-- the grounds of cells on a line
unfoldable pub cell_grounds : List Cell → ℕ → List ℕ
cell_grounds cells line = flat_map (ground_text cells line) (starts (begins_ground cells) 0 (length cells))

-- the grounds of a row
unfoldable pub row_grounds : List (List Cell) → ℕ → List ℕ
row_grounds rows line = cell_grounds (inked (row_at rows line)) line

-- the grounds of all rows, one group
unfoldable pub grounds_text : List (List Cell) → List ℕ
grounds_text rows = codes "<g>" ++ by_line (row_grounds rows) (length rows) ++ codes "</g>\n"
