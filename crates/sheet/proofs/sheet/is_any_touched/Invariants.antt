use Rattle.std.proofs.Common.{◌≡◌, ◌≤◌, ℕ, false}
use Rattle.sheet.specs.Grid.{is_touched}
use Rattle.sheet.proofs.sheet.is_any_touched.Given as goal

-- none of those so far was touched, if none was found
abbrev pub invariant-loop-i : goal.invariant-loop-i
invariant-loop-i l = l.any ≡ false → (line : ℕ) → 1 ≤ line → line ≤ l.i → is_touched l.origins line ≡ false
