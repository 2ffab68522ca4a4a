use Rattle.std.proofs.Common.{arith, sym, ◌∙◌}
use Rattle.xterm_print.proofs.SameLemmas.{rows_differ}
use Rattle.xterm_print.proofs.same.place_from.Goals as goal

pub returns-then-not-same_cell-clause-differ : goal.returns-then-not-same_cell-clause-differ
returns-then-not-same_cell-clause-differ c = λ _.
    rows_differ c.args.one.now c.args.other.now c.loop-at.at c.index-one-at.result c.index-other-at.result c.requires.long
    (omega (arith, c.loop-at-test.true, c.requires.within)) c.index-one-at.is c.index-other-at.is (sym c.same_cell.ensures.same ∙ c.if-not-same_cell.true)
