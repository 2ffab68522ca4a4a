use Rattle.std.proofs.Common.{◌≡◌, arith}
use Rattle.std.proofs.lemmas.Bool.Decides.{nat_tests}
use Rattle.xterm_term.proofs.Moving.{feed_moves}
use Rattle.xterm_term.proofs.terminal.Terminal.feed_moves.Goals as goal

pub returns-clause-moves : goal.returns-clause-moves
returns-clause-moves c = λ x shows.
    let place = c.in_ok-line.field-0 in
    let tested = c.if-line-bottom.false in
    let at : place.line ≡ place.bottom = grind (arith, nat_tests, tested) in
    feed_moves c.laws_below.ensures c.control_is_given.ensures c.args.self.now x c.args.byte place.line place.top place.bottom c.in_ok-line.ensures at c.requires shows
