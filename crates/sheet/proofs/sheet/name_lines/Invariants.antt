use Rattle.std.proofs.Common.{◌≡◌, ℕ, ◌≤◌, length}
use Rattle.sheet.specs.Grid.{origin_of}
use Rattle.sheet.proofs.sheet.name_lines.Given as goal

-- the lines so far have their own rows
abbrev pub invariant-loop-i : goal.invariant-loop-i
invariant-loop-i l = record {
  count : length l.origins ≡ length l.fn.origins;
  done : (line : ℕ) → 1 ≤ line → line ≤ l.i → origin_of l.origins line ≡ line;
}
