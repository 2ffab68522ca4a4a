use Rattle.std.proofs.Common.{arith}
use Rattle.vt_screen.specs.Written.{written}
use Rattle.vt_screen.proofs.Index.{slot_below, read_whole, row_changed, changed_once}
use Rattle.vt_screen.proofs.grid.Grid.write_run.Goals as goal

pub listed : goal.listed
listed c = omega (arith, slot_below _ _ c.self.invariant c.self.view_is c.args.line c.requires.line_low c.requires.line_high, c.self.invariant.slots)

pub bounds-self-inside-slot : goal.bounds-self-inside-slot
bounds-self-inside-slot c = slot_below _ _ c.self.invariant c.self.view_is c.args.line c.requires.line_low c.requires.line_high

pub write_run-requires-clause-whole : goal.write_run-requires-clause-whole
write_run-requires-clause-whole c = read_whole _ _ c.self.invariant c.self.view_is c.args.line c.requires.line_low c.requires.line_high _

pub invariant_of-self : goal.invariant_of-self
invariant_of-self c =
    changed_once _ _ c.self.invariant c.self.view_is c.args.line c.requires.line_low c.requires.line_high _ c.write_run.ensures.whole

pub returns-clause-rows : goal.returns-clause-rows
returns-clause-rows c =
    row_changed _ _ c.self.invariant c.self.view_is c.args.line c.requires.line_low c.requires.line_high (written c.args.column c.args.glyphs.now c.args.rendition) _ _ c.write_run.ensures.written
