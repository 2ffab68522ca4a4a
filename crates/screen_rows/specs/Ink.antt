-- Cells that aren't blank.
use Rattle.std.specs.Prelude.{◌-◌, Bool, List, length, take, ◌==◌, ◌&&◌}
use Rattle.std.specs.List.{suffix_len}
use Rattle.vt_screen.specs.declared.cell.Cell.{Cell}
use Rattle.vt_screen.specs.Attributes.{Attributes, plain, byte_of}

-- the same attributes, told by their bytes
abbrev pub same_rendition : Attributes → Attributes → Bool
same_rendition one other = byte_of one == byte_of other

-- a space without rendition; the blank of the special graphics is another
abbrev pub is_blank : Cell → Bool
is_blank cell = (cell.glyph == 32) && same_rendition cell.rendition plain

-- cells to the last one that isn't blank
abbrev pub inked : List Cell → List Cell
inked cells = take (length cells - suffix_len is_blank cells) cells
