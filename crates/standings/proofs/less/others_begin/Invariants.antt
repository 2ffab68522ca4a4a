use Rattle.std.proofs.Common.{◌≡◌, ℕ, ◌<◌, false, nat_eq}
use Rattle.std.specs.List.{starts_with}
use Rattle.standings.specs.Rows.{row_below}
use Rattle.standings.proofs.less.others_begin.Given as goal

-- none of those so far does
abbrev pub invariant-loop-at : goal.invariant-loop-at
invariant-loop-at l = (k : ℕ) → k < l.at → (k ≡ l.above → ⊥) → starts_with nat_eq (row_below l.rows k).characters l.front ≡ false
