use Rattle.std.proofs.Common.{◌≡◌}
use Rattle.vt_screen.specs.Touched.{touched_from}
use Rattle.vt_screen.proofs.touched.touch_each.Given as goal

-- the lines before this one are touched
abbrev pub invariant-loop-line : goal.invariant-loop-line
invariant-loop-line l = l.touched ≡ touched_from l.first l.line l.fn.touched
