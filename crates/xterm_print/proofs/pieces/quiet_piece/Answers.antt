use Rattle.std.proofs.Common.{arith}
use Rattle.xterm_print.proofs.PieceLemmas.{unshown_quiet}
use Rattle.xterm_print.proofs.pieces.quiet_piece.Goals as goal

pub returns-then-unshown-gt0-clause-quiet : goal.returns-then-unshown-gt0-clause-quiet
returns-then-unshown-gt0-clause-quiet c = λ text x shows.
    unshown_quiet x text c.args.bytes.now c.unshown-unshown.result _ (omega (arith, c.min.ensures)) (c.unshown-unshown.ensures.shows x shows)
