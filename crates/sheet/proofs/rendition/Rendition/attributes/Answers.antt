use Rattle.std.proofs.Common.{arith}
use Rattle.sheet.specs.Numbers.{attribute_number}
use Rattle.sheet.proofs.rendition.Rendition.attributes.Goals as goal

pub returns : goal.returns
unfolding attribute_number
returns c =
    omega (arith, c.one_if.ensures.value, c.one_if-2.ensures.value, c.one_if-3.ensures.value, c.one_if-4.ensures.value, c.one_if-5.ensures.value, c.one_if-6.ensures.value, c.one_if-7.ensures.value, c.one_if-8.ensures.value)
