use Rattle.sheet.proofs.Numbers.{papers_pen, plain_is}
use Rattle.sheet.proofs.pen.Pen.plain_on.Goals as goal

pub invariant_of-result : goal.invariant_of-result
invariant_of-result c = papers_pen c.paper.inside.style c.args.paper c.paper.invariant c.paper.view_is

pub returns : goal.returns
returns c = plain_is c.paper.inside.style c.args.paper c.paper.invariant c.paper.view_is
