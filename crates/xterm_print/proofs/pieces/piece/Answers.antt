use Rattle.std.proofs.Common.{arith}
use Rattle.xterm_print.proofs.PieceLemmas.{none_before_one, unshown_between}
use Rattle.xterm_print.proofs.pieces.piece.Goals as goal

pub returns-then-unshown-gt0-clause-between : goal.returns-then-unshown-gt0-clause-between
returns-then-unshown-gt0-clause-between c = λ text x shows.
    unshown_between x text c.args.bytes.now c.unshown-unshown.result _ (omega (arith, c.min.ensures)) (c.unshown-unshown.ensures.shows x shows)

pub returns-clause-between : goal.returns-clause-between
returns-clause-between c = λ text x shows. none_before_one x text c.args.bytes.now
