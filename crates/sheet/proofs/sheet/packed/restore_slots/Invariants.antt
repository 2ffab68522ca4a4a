use Rattle.std.proofs.Common.{◌≡◌, ℕ, ◌<◌, ◌≤◌, length}
use Rattle.sheet.specs.Held.{row_in}
use Rattle.sheet.specs.Packed.{unpacked}
use Rattle.sheet.proofs.sheet.packed.restore_slots.Given as goal

-- the slots before this one are laid out
abbrev pub invariant-loop-i : goal.invariant-loop-i
invariant-loop-i l = record {
  count : length l.slots ≡ length l.fn.slots;
  done : (slot : ℕ) → slot < l.i → row_in l.slots slot ≡ unpacked (length (row_in l.fn.slots slot)) (row_in l.kept slot);
  left : (slot : ℕ) → l.i ≤ slot → row_in l.slots slot ≡ row_in l.fn.slots slot;
}
