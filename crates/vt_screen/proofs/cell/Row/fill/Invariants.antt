use Rattle.std.proofs.Common.{◌≡◌}
use Rattle.vt_screen.specs.Written.{filled}
use Rattle.vt_screen.proofs.cell.Row.fill.Given as goal

-- the cells so far
--
abbrev pub invariant-loop-i : goal.invariant-loop-i
invariant-loop-i l = (l.self ≡ filled l.from l.i l.fn.cell l.fn.self)
