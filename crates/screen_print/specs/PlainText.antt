-- The plain print: what stands on the screen, as text without renditions (ours).
use Rattle.std.specs.Prelude.{ℕ, List}
use Rattle.std.specs.List.{flat_map}
use Rattle.vt_screen.specs.Picture.{Picture}
use Rattle.screen_rows.specs.RowText.{printed_line}

-- the lines in turn, of which a screen has 24
unfoldable pub plain_text : Picture → List ℕ
plain_text p = flat_map (printed_line p.wide) p.rows
