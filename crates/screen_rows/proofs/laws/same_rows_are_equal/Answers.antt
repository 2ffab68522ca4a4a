use Rattle.screen_rows.proofs.SameLemmas.{same_row_decides}
use Rattle.screen_rows.proofs.laws.same_rows_are_equal.Goals as goal

pub returns : goal.returns
returns c = same_row_decides
