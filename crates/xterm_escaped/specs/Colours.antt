-- The colours that stand on a terminal (ours).
use Rattle.std.specs.Prelude.{ℕ, ◌^◌, ◌<◌, List}
use Rattle.sheet.specs.Cells.{cell_at}
use Rattle.sheet.specs.Grid.{row_at}
use Rattle.sheet.specs.declared.rendition.Rendition.{Rendition}
use Rattle.xterm_rows.specs.Ink.{colour_number}
use Rattle.xterm_term.specs.Term.{play, reset_term}

-- the ink and the ground are default, numbers of the palette, or told by three bytes: so they have numbers below 2^25
pub record IsColoured (rendition : Rendition) : Type 0 where
  pub ink : colour_number rendition.ink < 2 ^ 25
  pub paper : colour_number rendition.paper < 2 ^ 25

-- so it is of each cell of each term that bytes come to from a reset one
abbrev pub ColoursAreBytes : Type 0
ColoursAreBytes = (columns lines : ℕ) (bytes : List ℕ) (line column : ℕ)
    → IsColoured (cell_at (row_at (play (reset_term columns lines) bytes).console.picture.rows line) column).rendition
