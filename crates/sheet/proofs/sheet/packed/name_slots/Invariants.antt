use Rattle.std.proofs.Common.{◌≡◌, ℕ, ◌-◌, ◌≤◌, length}
use Rattle.sheet.specs.Held.{slot_at}
use Rattle.sheet.proofs.sheet.packed.name_slots.Given as goal

-- the lines before this one name their slots
abbrev pub invariant-loop-i : goal.invariant-loop-i
invariant-loop-i l = record {
  count : length l.order ≡ length l.fn.order;
  done : (line : ℕ) → 1 ≤ line → line ≤ l.i → slot_at l.order line ≡ line - 1;
}
