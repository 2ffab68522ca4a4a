use Rattle.std.proofs.Common.{◌∙◌, ap, length, arith}
use Rattle.vt_screen.specs.declared.cell.Row.{Row}
use Rattle.vt_screen.specs.Lines.{filled_to}
use Rattle.vt_screen.proofs.Tables.{length-table}
use Rattle.vt_screen.proofs.Index.{slot_below, read_whole, row_changed, changed_once, slots_changed}
use Rattle.vt_screen.proofs.grid.Grid.fill_line.Goals as goal

pub listed : goal.listed
listed c = omega (arith, slot_below _ _ c.self.invariant c.self.view_is c.args.line c.requires.line_low c.requires.line_high, c.self.invariant.slots)

pub bounds-self-inside-slot : goal.bounds-self-inside-slot
bounds-self-inside-slot c = slot_below _ _ c.self.invariant c.self.view_is c.args.line c.requires.line_low c.requires.line_high

pub fill_to-requires-clause-whole : goal.fill_to-requires-clause-whole
fill_to-requires-clause-whole c = read_whole _ _ c.self.invariant c.self.view_is c.args.line c.requires.line_low c.requires.line_high _

pub invariant_of-self : goal.invariant_of-self
invariant_of-self c =
    changed_once _ _ c.self.invariant c.self.view_is c.args.line c.requires.line_low c.requires.line_high _ (ap (λ (r : Row). length r.cells) c.fill_to.ensures ∙ length-table 132 _)

pub returns-clause-rows : goal.returns-clause-rows
returns-clause-rows c =
    row_changed _ _ c.self.invariant c.self.view_is c.args.line c.requires.line_low c.requires.line_high (filled_to c.args.cell c.args.to) _ _ c.fill_to.ensures

pub returns-clause-slots : goal.returns-clause-slots
returns-clause-slots c =
    slots_changed _ _ c.self.invariant c.self.view_is c.args.line c.requires.line_low c.requires.line_high (filled_to c.args.cell c.args.to) _ _ c.fill_to.ensures
