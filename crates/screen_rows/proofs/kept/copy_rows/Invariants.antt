use Rattle.std.proofs.Common.{◌≡◌, ℕ, ◌<◌, ◌≤◌, length}
use Rattle.vt_screen.specs.Cells.{row_at}
use Rattle.vt_screen.specs.Slots.{row_in, slot_at}
use Rattle.vt_screen.specs.Table.{nth}
use Rattle.screen_rows.proofs.kept.copy_rows.Given as goal

-- the rows of the lines so far lie in their slots, and those of the others that are known do
abbrev pub invariant-loop-line : goal.invariant-loop-line
invariant-loop-line l = record {
  whole : length l.slots ≡ 24;
  copied : (k : ℕ) → 1 ≤ k → k < l.line → row_in l.slots (slot_at l.screen.order k) ≡ row_at l.screen.picture.rows k;
  known : (k : ℕ) → 1 ≤ k → k ≤ 24 → 1 ≤ nth 0 l.sources k → row_in l.slots (slot_at l.screen.order k) ≡ row_at l.screen.picture.rows k;
}
