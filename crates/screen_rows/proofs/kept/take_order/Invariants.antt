use Rattle.std.proofs.Common.{◌≡◌, ℕ, ◌<◌, ◌≤◌, length}
use Rattle.vt_screen.specs.Slots.{slot_at}
use Rattle.screen_rows.proofs.kept.take_order.Given as goal

-- the lines so far have their slots
abbrev pub invariant-loop-line : goal.invariant-loop-line
invariant-loop-line l = record {
  whole : length l.order ≡ 24;
  long : length l.lines ≡ 24;
  named : (k : ℕ) → 1 ≤ k → k < l.line → slot_at l.order k ≡ slot_at l.screen.order k;
  within : (k : ℕ) → 1 ≤ k → k < l.line → slot_at l.order k < 24;
}
