use Rattle.std.proofs.Common.{◌≡◌, arith}
use Rattle.std.proofs.lemmas.Bool.Decides.{nat_tests}
use Rattle.xterm_term.proofs.Moving.{reverse_moves}
use Rattle.xterm_term.proofs.terminal.Terminal.reverse_moves.Goals as goal

pub returns-clause-moves : goal.returns-clause-moves
returns-clause-moves c = λ x shows.
    let place = c.in_ok-line.field-0 in
    let tested = c.if-line-top.false in
    let at : place.line ≡ place.top = grind (arith, nat_tests, tested) in
    reverse_moves c.laws_below.ensures c.args.self.now x place.line place.top place.bottom c.in_ok-line.ensures at shows
