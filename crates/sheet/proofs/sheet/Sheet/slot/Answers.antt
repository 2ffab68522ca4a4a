use Rattle.std.proofs.Common.{arith}
use Rattle.sheet.specs.View.{held_of}
use Rattle.sheet.proofs.Index.{inside, slot_below, row_read, row_whole, row_columns}
use Rattle.sheet.proofs.sheet.Sheet.slot.Goals as goal

pub index-requires : goal.index-requires
index-requires c = omega (arith, inside (held_of c.self.inside) _ c.self.invariant c.self.view_is c.args.line c.requires.low c.requires.high, c.self.inside.order.ok.0)

pub index-requires-2 : goal.index-requires-2
index-requires-2 c = omega (arith, slot_below (held_of c.self.inside) _ c.self.invariant c.self.view_is c.args.line c.requires.low c.requires.high _ c.index.ensures, c.self.inside.slots.ok.0)

pub returns : goal.returns
returns c = record {
  value = row_read (held_of c.self.inside) _ c.self.invariant c.self.view_is c.args.line c.requires.low c.requires.high _ c.index.ensures _ c.index-2.ensures;
  columns = row_columns (held_of c.self.inside) _ c.self.invariant c.self.view_is c.args.line c.requires.low c.requires.high _ c.index.ensures _ c.index-2.ensures;
  whole = row_whole (held_of c.self.inside) _ c.self.invariant c.self.view_is c.args.line c.requires.low c.requires.high _ c.index.ensures _ c.index-2.ensures;
}
