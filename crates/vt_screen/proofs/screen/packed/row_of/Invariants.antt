use Rattle.std.proofs.Common.{◌≡◌}
use Rattle.vt_screen.specs.Packed.{unpacked}
use Rattle.vt_screen.proofs.screen.packed.row_of.Given as goal

-- the cells so far
abbrev pub invariant-loop-i : goal.invariant-loop-i
invariant-loop-i l = (l.row ≡ unpacked l.cells (record l.fn.part { len = l.i }))
