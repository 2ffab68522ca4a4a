use Rattle.std.proofs.Common.{◌∙◌, subst, sym}
use Rattle.tape_core.specs.Devices.{Gave}
use Rattle.screen_print.specs.ByLine.{places_above}
use Rattle.screen_print.specs.FindLines.{found_line}
use Rattle.screen_print.proofs.ByLineLemmas.{no_less, told}
use Rattle.screen_print.proofs.by_line.put_if_less.Goals as goal

pub returns-then-not-is_less-clause-gave : goal.returns-then-not-is_less-clause-gave
returns-then-not-is_less-clause-gave g c = λ keep _.
    let text = c.args.sought.now.text.now in
    let one = c.args.pair.now.one.now in
    let chunk = c.args.chunk.now in
    let place = c.args.place in
    subst (Gave g.W.Write.contents c.args.writer.now c.args.writer.now)
    (no_less text one c.args.pair.now.other.now (found_line c.args.sign chunk.index chunk.due chunk.len one) keep (places_above text one place.line) place
    (sym c.is_less.ensures.less ∙ c.if-not-is_less.true))
    (c.gives_join.ensures.nothing c.args.writer.now)

pub returns-clause-gave : goal.returns-clause-gave
returns-clause-gave g c = λ keep kept.
    let text = c.args.sought.now.text.now in
    let one = c.args.pair.now.one.now in
    let chunk = c.args.chunk.now in
    let place = c.args.place in
    subst (Gave g.W.Write.contents c.args.writer.now c.put_found.new.writer)
    (told text one c.args.pair.now.other.now (found_line c.args.sign chunk.index chunk.due chunk.len one) keep (places_above text one place.line) place
    (sym c.is_less.ensures.less ∙ c.if-not-is_less.false) kept)
    c.put_found.ensures
