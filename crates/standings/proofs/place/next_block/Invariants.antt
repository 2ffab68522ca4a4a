use Rattle.std.proofs.Common.{◌≡◌, ℕ, ◌<◌, ◌≤◌, ◌-◌, ◌++◌, List, drop, false, length, nat_eq}
use Rattle.std.specs.List.{starts_with}
use Rattle.standings.proofs.place.next_block.Given as goal

-- the text begins at none of those that were passed
abbrev pub invariant-loop-at : goal.invariant-loop-at
invariant-loop-at l = record {
  low : l.from ≤ l.at;
  within : l.at ≤ length l.characters;
  passed : (before : ℕ) → l.from ≤ before → before < l.at → (rest : List ℕ) → starts_with nat_eq (drop before l.characters ++ rest) l.text ≡ false;
}

abbrev pub decreases-loop-at : goal.decreases-loop-at
decreases-loop-at l = length l.characters - l.at
