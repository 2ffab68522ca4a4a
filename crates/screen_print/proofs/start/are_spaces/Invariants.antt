use Rattle.std.proofs.Common.{◌≡◌, ◌<◌, ℕ, false, get_or}
use Rattle.vt_screen.specs.Cells.{blank}
use Rattle.screen_print.proofs.start.are_spaces.Given as goal

-- the cells so far show a space, where no other was found
abbrev pub invariant-loop-at : goal.invariant-loop-at
invariant-loop-at l = l.any ≡ false → (k : ℕ) → k < l.at → (get_or l.cells k blank).glyph ≡ 32
