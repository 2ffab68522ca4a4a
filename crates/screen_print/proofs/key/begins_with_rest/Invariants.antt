use Rattle.std.proofs.Common.{◌≡◌, ℕ, ◌<◌, ◌≤◌, drop, false, nat_eq}
use Rattle.std.specs.List.{starts_with}
use Rattle.screen_rows.specs.RowText.{characters}
use Rattle.screen_print.proofs.key.begins_with_rest.Given as goal

-- the row begins with none so far
abbrev pub invariant-loop-at : goal.invariant-loop-at
invariant-loop-at l = (n : ℕ) → 1 ≤ n → n < l.at → starts_with nat_eq (characters l.cells) (drop n l.chars) ≡ false
