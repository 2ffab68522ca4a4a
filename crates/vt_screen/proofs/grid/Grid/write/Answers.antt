use Rattle.std.proofs.Common.{ap, length, arith, ◌∙◌}
use Rattle.vt_screen.specs.declared.cell.Row.{Row}
use Rattle.vt_screen.specs.Puts.{with_cell}
use Rattle.vt_screen.proofs.Tables.{length-table}
use Rattle.vt_screen.proofs.Index.{slot_below, read_whole, row_changed, changed_once}
use Rattle.vt_screen.proofs.grid.Grid.write.Goals as goal

pub listed : goal.listed
listed c = omega (arith, slot_below _ _ c.self.invariant c.self.view_is c.args.line c.requires.line_low c.requires.line_high, c.self.invariant.slots)

pub bounds-self-inside-slot : goal.bounds-self-inside-slot
bounds-self-inside-slot c = slot_below _ _ c.self.invariant c.self.view_is c.args.line c.requires.line_low c.requires.line_high

pub write-requires-clause-whole : goal.write-requires-clause-whole
write-requires-clause-whole c = read_whole _ _ c.self.invariant c.self.view_is c.args.line c.requires.line_low c.requires.line_high _

pub invariant_of-self : goal.invariant_of-self
invariant_of-self c =
    changed_once _ _ c.self.invariant c.self.view_is c.args.line c.requires.line_low c.requires.line_high _ (ap (λ (r : Row). length r.cells) c.write.ensures ∙ length-table 132 _)

pub returns-clause-rows : goal.returns-clause-rows
returns-clause-rows c =
    row_changed _ _ c.self.invariant c.self.view_is c.args.line c.requires.line_low c.requires.line_high (with_cell c.args.column c.args.cell) _ _ c.write.ensures
