use Rattle.std.proofs.Common.{refl, arith}
use Rattle.vt_screen.proofs.Index.{slot_below, row_changed, changed_once}
use Rattle.vt_screen.proofs.grid.Grid.set_row.Goals as goal

pub listed : goal.listed
listed c = omega (arith, slot_below _ _ c.self.invariant c.self.view_is c.args.line c.requires.line_low c.requires.line_high, c.self.invariant.slots)

pub bounds-self-inside-slot : goal.bounds-self-inside-slot
bounds-self-inside-slot c = slot_below _ _ c.self.invariant c.self.view_is c.args.line c.requires.line_low c.requires.line_high

pub invariant_of-self : goal.invariant_of-self
invariant_of-self c =
    changed_once _ _ c.self.invariant c.self.view_is c.args.line c.requires.line_low c.requires.line_high c.args.row c.requires.whole

pub returns-clause-rows : goal.returns-clause-rows
returns-clause-rows c =
    row_changed _ _ c.self.invariant c.self.view_is c.args.line c.requires.line_low c.requires.line_high (λ _. c.args.row) c.args.row c.args.row refl
