use Rattle.std.proofs.Common.{◌≡◌, ◌+◌, ◌<◌, ℕ, get_or, length, not, true}
use Rattle.std.specs.Prelude.{◌==◌}
use Rattle.sheet.proofs.sheet.marked.block_marks.Given as goal

-- the marks of those so far
abbrev pub invariant-loop-i : goal.invariant-loop-i
invariant-loop-i l = record {
  long : length l.marks ≡ 16;
  each : (k : ℕ) → k < l.i → get_or l.marks k true ≡ not (get_or l.origins k 0 == l.first + k);
}
