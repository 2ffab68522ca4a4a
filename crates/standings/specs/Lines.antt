-- Private: what the lines of a moment share.
use Rattle.std.specs.Prelude.{◌≡◌, ℕ, ◌+◌, List, [], ◌∷◌, ◌++◌, encode_utf8, true}
use Rattle.std.specs.Fmt.{decimal}
use Rattle.std.specs.List.{flat_map}
use Rattle.tape_core.specs.Written.{seconds_form}
use Rattle.standings.specs.Found.{unspaced}
use Rattle.standings.specs.Rows.{Row, row_below}
use Rattle.standings.specs.declared.line.Lines.{Lines}
use Rattle.standings.specs.declared.line.Moment.{Moment}

-- a row in UTF-8, without the spaces at its end
abbrev pub row_spelled : List Row → ℕ → List ℕ
row_spelled rows above = flat_map encode_utf8 (unspaced (row_below rows above).characters)

-- what stands between the sign and the column in the lines of a row
abbrev pub front_spelled : Moment → ℕ → List ℕ
front_spelled moment above = (32 ∷ []) ++ decimal moment.index ++ (32 ∷ []) ++ seconds_form moment.due ++ (32 ∷ []) ++ decimal (above + 1) ++ (32 ∷ [])

-- they may be written: nothing is held back, and the row that is known is one of these
pub record AreReady (lines : Lines) (rows : List Row) : Type 0 where
  pub due : lines.due ≡ seconds_form lines.moment.due
  pub held : lines.held.items ≡ []
  pub front : lines.known ≡ true → lines.front.items ≡ front_spelled lines.moment lines.above
  pub text : lines.known ≡ true → lines.text.items ≡ row_spelled rows lines.above
