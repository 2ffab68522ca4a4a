use Rattle.std.proofs.Common.{◌≡◌, ℕ, ◌<◌, false, nat_eq}
use Rattle.std.specs.List.{starts_with}
use Rattle.standings.specs.Rows.{row_below}
use Rattle.standings.proofs.surplus.some_begins.Given as goal

-- none of those so far does
abbrev pub invariant-loop-row : goal.invariant-loop-row
invariant-loop-row l = (above : ℕ) → above < l.row-index → starts_with nat_eq (row_below l.rows above).characters l.front ≡ false
