use Rattle.std.proofs.Common.{arith}
use Rattle.screen_print.proofs.lost.block_at.Goals as goal

pub returns-then-line-next-clause-moved : goal.returns-then-line-next-clause-moved
returns-then-line-next-clause-moved c = c.none.ensures.lines c.args.pair.now.one.now c.args.pair.now.other.now

pub returns-then-line-next-clause-leads : goal.returns-then-line-next-clause-leads
returns-then-line-next-clause-leads c = λ some. absurd (omega (arith, some, c.none.ensures.none))
