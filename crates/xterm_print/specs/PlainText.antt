-- The plain print: what stands on the sheet that is shown, as text without renditions (ours).
use Rattle.std.specs.Prelude.{ℕ, List}
use Rattle.std.specs.List.{flat_map}
use Rattle.xterm_screen.specs.Picture.{Picture}
use Rattle.xterm_rows.specs.RowText.{printed_line}

-- the lines in turn
unfoldable pub plain_text : Picture → List ℕ
plain_text p = flat_map printed_line p.rows
