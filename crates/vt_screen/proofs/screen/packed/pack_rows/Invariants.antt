use Rattle.vt_screen.specs.Packed.{ArePacked}
use Rattle.vt_screen.specs.Slots.{rows_of}
use Rattle.vt_screen.proofs.screen.packed.pack_rows.Given as goal

-- the lines before this one are packed
abbrev pub invariant-loop-line : goal.invariant-loop-line
invariant-loop-line l = ArePacked (rows_of l.grid) l.cells.items l.parts l.line
