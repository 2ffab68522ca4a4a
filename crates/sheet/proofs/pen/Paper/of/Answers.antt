use Rattle.std.proofs.Common.{◌*◌, ◌/◌, ◌≡◌, ap, arith, ◌∙◌}
use Rattle.sheet.specs.Numbers.{colour_of, paper_of}
use Rattle.sheet.proofs.pen.Paper.of.Goals as goal

pub returns : goal.returns
unfolding paper_of
returns c =
    let back : c.number.result * 33554432 / 33554432 ≡ c.number.result = omega arith in
    ap colour_of back ∙ c.number.ensures.again
