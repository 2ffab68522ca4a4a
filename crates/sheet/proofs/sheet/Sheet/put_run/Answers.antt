use Rattle.std.proofs.Common.{arith}
use Rattle.sheet.specs.View.{held_of}
use Rattle.sheet.proofs.Index.{inside, slot_below, row_whole, row_length, row_columns, rows_run, sound_run, told_changed}
use Rattle.sheet.proofs.sheet.Sheet.put_run.Goals as goal

pub index-requires : goal.index-requires
index-requires c = omega (arith, inside (held_of c.self.inside) _ c.self.invariant c.self.view_is c.args.line c.requires.line_low c.requires.line_high, c.self.inside.order.ok.0)

pub index_mut-row-requires : goal.index_mut-row-requires
index_mut-row-requires c = omega (arith, slot_below (held_of c.self.inside) _ c.self.invariant c.self.view_is c.args.line c.requires.line_low c.requires.line_high _ c.index.ensures, c.self.inside.slots.ok.0)

pub index_mut-requires : goal.index_mut-requires
index_mut-requires c = omega (arith, inside (held_of c.self.inside) _ c.self.invariant c.self.view_is c.args.line c.requires.line_low c.requires.line_high, c.self.invariant.origins, c.self.inside.origins.ok.0)

pub put_run-requires-clause-whole : goal.put_run-requires-clause-whole
put_run-requires-clause-whole c = row_whole (held_of c.self.inside) _ c.self.invariant c.self.view_is c.args.line c.requires.line_low c.requires.line_high _ c.index.ensures _ c.index_mut-row.ensures.value

pub put_run-requires-clause-high : goal.put_run-requires-clause-high
put_run-requires-clause-high c = omega (arith, row_columns (held_of c.self.inside) _ c.self.invariant c.self.view_is c.args.line c.requires.line_low c.requires.line_high _ c.index.ensures _ c.index_mut-row.ensures.value, row_length (held_of c.self.inside) _ c.self.invariant c.self.view_is c.args.line c.requires.line_low c.requires.line_high _ c.index.ensures _ c.index_mut-row.ensures.value, c.self.invariant.columns_high)

pub invariant_of-self : goal.invariant_of-self
invariant_of-self c = sound_run (held_of c.self.inside) _ c.self.invariant c.self.view_is c.args.line c.requires.line_low c.requires.line_high _ c.index.ensures _ c.index_mut-row.ensures.value
    c.args.rendition c.args.characters.now c.args.column c.put_run.new.self c.put_run.ensures

pub returns-clause-rows : goal.returns-clause-rows
returns-clause-rows c = rows_run (held_of c.self.inside) _ c.self.invariant c.self.view_is c.args.line c.requires.line_low c.requires.line_high _ c.index.ensures _ c.index_mut-row.ensures.value
    c.args.rendition c.args.characters.now c.args.column c.put_run.new.self c.put_run.ensures

pub returns-clause-told : goal.returns-clause-told
returns-clause-told c = told_changed (held_of c.self.inside) _ c.self.invariant c.self.view_is c.args.line c.requires.line_low c.requires.line_high _ c.index.ensures c.put_run.new.self
