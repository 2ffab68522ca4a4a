-- Private: what the fields of numbered rows stand for.
use Rattle.screen_rows.specs.KeptRows.{Kept}
use Rattle.screen_page.specs.declared.numbered.NumberedRows.TheInside.{Inside as Fields}
use Rattle.screen_page.specs.Numbered.{AreFirsts, AreNumbers}

abbrev pub kept_of : Fields → Kept
kept_of r = r.kept

-- the numbers are those of the rows, and the buckets those of the numbers
pub record AreNumbered (r : Fields) : Type 0 where
  pub numbers : AreNumbers r.kept.rows r.numbers
  pub firsts : AreFirsts r.numbers r.firsts
