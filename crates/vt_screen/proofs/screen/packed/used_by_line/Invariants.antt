use Rattle.vt_screen.specs.Packed.{AreUsed}
use Rattle.vt_screen.specs.Slots.{rows_of}
use Rattle.vt_screen.proofs.screen.packed.used_by_line.Given as goal

-- the lines before this one are counted
abbrev pub invariant-loop-line : goal.invariant-loop-line
invariant-loop-line l = AreUsed (rows_of l.grid) l.all l.line
