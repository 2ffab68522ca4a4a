use Rattle.std.proofs.Common.{◌≡◌, ℕ, ◌<◌, ◌≤◌, length}
use Rattle.sheet.specs.Held.{row_in}
use Rattle.sheet.proofs.sheet.copy_slots.Given as goal

-- the slots before this one are copied
abbrev pub invariant-loop-i : goal.invariant-loop-i
invariant-loop-i l = record {
  count : length l.slots ≡ length l.fn.slots;
  done : (slot : ℕ) → slot < l.i → row_in l.slots slot ≡ row_in l.others slot;
  left : (slot : ℕ) → l.i ≤ slot → row_in l.slots slot ≡ row_in l.fn.slots slot;
}
