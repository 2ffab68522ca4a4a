use Rattle.std.proofs.Common.{◌≤◌, arith}
use Rattle.std.proofs.lemmas.Bool.Decides.{nat_tests}
use Rattle.xterm_term.proofs.Moving.{edit_moves}
use Rattle.xterm_term.proofs.terminal.Terminal.edit_moves.Goals as goal

pub returns-clause-moves : goal.returns-clause-moves
returns-clause-moves c = λ x shows.
    let place = c.in_ok-line.field-0 in
    let above_top = c.if-line-top.false in
    let under_bottom = c.if-bottom-line.false in
    let below : place.top ≤ place.line = grind (arith, nat_tests, above_top) in
    let above : place.line ≤ place.bottom = grind (arith, nat_tests, under_bottom) in
    edit_moves c.laws_below.ensures c.args.self.now x c.args.inserts place.line place.top place.bottom c.in_ok-line.ensures below above shows
