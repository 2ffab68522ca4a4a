use Rattle.std.proofs.Common.{◌≡◌, ◌<◌, ℕ, get_or, length, true}
use Rattle.sheet.specs.Numbers.{bit}
use Rattle.sheet.proofs.sheet.marked.numbers_of.Given as goal

-- the numbers of those so far
abbrev pub invariant-loop-i : goal.invariant-loop-i
invariant-loop-i l = record {
  long : length l.numbers ≡ 16;
  each : (k : ℕ) → k < l.i → get_or l.numbers k 0 ≡ bit (get_or l.marks k true);
}
