use Rattle.std.proofs.Common.{ℕ, ◌+◌, ◌-◌, ◌<◌, ◌≤◌, All, length, take}
use Rattle.screen_print.specs.ByLine.{IsApart, row_on}
use Rattle.screen_print.proofs.by_line.reach.Given as goal

-- outside these columns the left part is apart from the places so far
abbrev pub invariant-loop-place : goal.invariant-loop-place
invariant-loop-place l = record {
  first : 1 ≤ l.first;
  near : l.first ≤ length (row_on l.still l.line) + 1;
  last : l.last ≤ length (row_on l.still l.line);
  before : (column : ℕ) → 1 ≤ column → column < l.first → column ≤ length (row_on l.still l.line)
      → All (IsApart l.still (take (column - 1) (row_on l.still l.line))) (take l.place-index l.lost);
  behind : (column : ℕ) → l.last < column → column ≤ length (row_on l.still l.line)
      → All (IsApart l.still (take (column - 1) (row_on l.still l.line))) (take l.place-index l.lost);
}
