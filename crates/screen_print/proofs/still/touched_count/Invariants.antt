use Rattle.std.proofs.Common.{◌≡◌, ℕ, ◌+◌, ◌<◌, ◌≤◌, false}
use Rattle.vt_screen.specs.Touched.{is_touched}
use Rattle.screen_print.proofs.still.touched_count.Given as goal

-- none above this line is touched, where none was counted
abbrev pub invariant-loop-line : goal.invariant-loop-line
invariant-loop-line l = record {
  few : l.count + 1 ≤ l.line;
  none : l.count ≡ 0 → (k : ℕ) → 1 ≤ k → k < l.line → is_touched l.screen.touched k ≡ false;
}
