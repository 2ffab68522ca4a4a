-- The cursor: two rings, one of the ground and one of ink, so that it shows on any cell (ours).
use Rattle.std.specs.Prelude.{ℕ, ◌+◌, ◌-◌, ◌*◌, Bool, List, [], ◌∷◌, ◌++◌, codes, decimal}
use Rattle.vt_screen.specs.declared.cell.Row.{Row}
use Rattle.vt_screen.specs.Cells.{row_at}
use Rattle.screen_picture.specs.Framed.{framed}
use Rattle.screen_picture.specs.Letters.{back_of}

-- how many units stand left of a column
abbrev pub left_of : ℕ → ℕ
left_of column = 10 * (column - 1)

-- the rings at a column
abbrev pub rings_text : Bool → ℕ → List ℕ
rings_text reversed column =
    codes "<path class=\"" ++ back_of reversed ∷ [] ++ codes "\" d=\"M" ++ decimal (left_of column)
    ++ codes " 0h10v20h-10zm1 1v18h8v-18z\"/><path d=\"M" ++ decimal (left_of column + 1)
    ++ codes " 1h8v18h-8zm1 1v16h6v-16z\"/>"

-- the rings at a line and a column
unfoldable pub cursor_text : Bool → List Row → ℕ → ℕ → List ℕ
cursor_text reversed rows line column = framed (row_at rows line).size line (rings_text reversed column)
