-- The main and the alternate sheet (xterm, private modes 47, 1047 and 1049).
use Rattle.std.specs.Prelude.{List, true, false, if◌then◌else◌}
use Rattle.sheet.specs.declared.rendition.Colour.{Colour}
use Rattle.sheet.specs.Cells.{Cell}
use Rattle.sheet.specs.Grid.{blank_rows}
use Rattle.xterm_screen.specs.Picture.{Picture}

-- from the main sheet: the alternate one is shown, blank in the paper of the current rendition; cursor, wrap,
-- margins and tab stops stay (xterm)
abbrev pub alternate_shown : Colour → Picture → Picture
alternate_shown paper p =
    if p.alternate
    then p
    else record p { rows = blank_rows p.columns p.lines paper; other = p.rows; alternate = true }

-- the main sheet is shown as it was left (xterm)
abbrev pub main_shown : Picture → Picture
main_shown p = if p.alternate then record p { rows = p.other; other = p.rows; alternate = false } else p

-- the rows of the main sheet, whichever is shown (ours)
abbrev pub main_rows : Picture → List (List Cell)
main_rows p = if p.alternate then p.other else p.rows
