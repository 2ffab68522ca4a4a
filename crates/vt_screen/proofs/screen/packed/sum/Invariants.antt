use Rattle.std.proofs.Common.{◌*◌, ◌≤◌}
use Rattle.vt_screen.proofs.screen.packed.sum.Given as goal

abbrev pub invariant-loop-used : goal.invariant-loop-used
invariant-loop-used l = l.sum ≤ l.used-index * 255
