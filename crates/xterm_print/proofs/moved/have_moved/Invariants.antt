use Rattle.std.proofs.Common.{◌≡◌, ℕ, ◌+◌, ◌<◌, ◌≤◌, false}
use Rattle.sheet.specs.Grid.{origin_of}
use Rattle.xterm_print.proofs.moved.have_moved.Given as goal

-- those so far moved up by as many lines, if none stayed
abbrev pub invariant-loop-i : goal.invariant-loop-i
invariant-loop-i l = l.stayed ≡ false → (k : ℕ) → l.fn.from ≤ k → k < l.fn.from + l.i → origin_of l.fn.screen.origins k ≡ k + l.fn.shift
