use Rattle.std.proofs.Common.{refl}
use Rattle.sheet.proofs.Numbers.{made_pen, pen_is}
use Rattle.sheet.proofs.pen.Pen.of.Goals as goal

pub invariant_of-result : goal.invariant_of-result
invariant_of-result c =
    made_pen _ c.attributes-bits.result c.number-paper.result c.number-ink.result c.args.rendition refl
    c.attributes-bits.ensures c.number-paper.ensures.below c.number-ink.ensures.below c.number-ink.ensures.again c.number-paper.ensures.again

pub returns : goal.returns
returns c =
    pen_is _ c.attributes-bits.result c.number-paper.result c.number-ink.result c.args.rendition refl
    c.attributes-bits.ensures c.number-paper.ensures.below c.number-ink.ensures.below c.number-ink.ensures.again c.number-paper.ensures.again
