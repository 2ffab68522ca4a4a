use Rattle.sheet.proofs.Numbers.{cells_pen, cells_pen_is}
use Rattle.sheet.proofs.cell.Cell.pen.Goals as goal

pub invariant_of-result : goal.invariant_of-result
invariant_of-result c = cells_pen c.self.inside.text c.self.inside.style c.args.self c.self.invariant c.self.view_is

pub returns : goal.returns
returns c = cells_pen_is c.self.inside.text c.self.inside.style c.args.self c.self.invariant c.self.view_is
