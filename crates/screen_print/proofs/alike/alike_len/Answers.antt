use Rattle.std.proofs.Common.{arith}
use Rattle.screen_print.proofs.ByLineLemmas.{longer_differs, longer_ends}
use Rattle.screen_print.proofs.QuietLemmas.{alike_more}
use Rattle.screen_print.proofs.alike.alike_len.Goals as goal

pub returns-then-not-read_alike-clause-most : goal.returns-then-not-read_alike-clause-most
returns-then-not-read_alike-clause-most c = λ k low high same.
    longer_differs c.args.one.now c.args.other.now c.loop-at.at k c.index-one-at.result c.index-other-at.result (omega arith) (omega arith)
    (c.read_alike.ensures.no c.if-not-read_alike.true) low same

pub returns-clause-most : goal.returns-clause-most
returns-clause-most c = λ k low high same. longer_ends c.args.one.now c.args.other.now k (omega arith) high same

pub loop-at-preserved : goal.loop-at-preserved
loop-at-preserved c =
    alike_more c.args.one.now c.args.other.now c.loop-at.at c.index-one-at.result c.index-other-at.result (omega arith) (omega arith)
    (c.read_alike.ensures.yes c.if-not-read_alike.false) c.loop-at.invariant
