-- Runs.
use Rattle.std.proofs.Common.{◌≡◌, true, List, refl}
use Rattle.sheet.specs.Cells.{Cell}
use Rattle.xterm_rows.specs.Runs.{begins}

-- one begins at the first cell
pub first_begins : (cells : List Cell) → begins cells 0 ≡ true
unfolding begins
first_begins cells = refl
