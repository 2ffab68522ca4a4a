use Rattle.std.proofs.Common.{◌≡◌, ℕ, ◌<◌, ◌≤◌, drop}
use Rattle.vt_screen.specs.Cells.{row_at}
use Rattle.screen_print.proofs.StillLemmas.{IsIn}
use Rattle.screen_print.proofs.lost.first_differing.Given as goal

-- each line from this one to the first that came is the same, or comes
abbrev pub invariant-loop-changed : goal.invariant-loop-changed
invariant-loop-changed l = record {
  within : l.end ≤ 25;
  same : (k : ℕ) → l.line ≤ k → k ≤ 24 → IsIn (drop l.changed-index l.pair.lines.now) k (k < l.end → row_at l.pair.one.now.rows k ≡ row_at l.pair.other.now.rows k);
}
