use Rattle.std.proofs.Common.{◌∙◌, ap, arith, nat_le, sym}
use Rattle.std.proofs.lemmas.Bool.{le-leb}
use Rattle.screen_print.specs.FindLines.{count_left, left_of, standing}
use Rattle.screen_print.specs.ByLine.{places_above}
use Rattle.screen_print.proofs.ByLineLemmas.{count_all, count_is}
use Rattle.screen_print.proofs.by_line.is_less.Goals as goal

pub returns-then-there-eq0-clause-less : goal.returns-then-there-eq0-clause-less
returns-then-there-eq0-clause-less c =
    let text = c.args.sought.now.text.now in
    let pair = c.args.pair.now in
    let place = c.args.place in
    let left = left_of pair.one.now place in
    let there = c.count_above-there.ensures.count ∙ count_all text pair.other.now left c.sound.ensures.whole in
    sym (le-leb (count_left pair.other.now (standing text pair.other.now) left) (count_left pair.one.now (places_above text pair.one.now place.line) left)
    (omega (arith, there, c.if-there-eq0.true)))

pub returns-clause-less : goal.returns-clause-less
returns-clause-less c =
    let text = c.args.sought.now.text.now in
    let pair = c.args.pair.now in
    let place = c.args.place in
    let left = left_of pair.one.now place in
    let there = c.count_above-there.ensures.count ∙ count_all text pair.other.now left c.sound.ensures.whole in
    let before = c.count_above-before.ensures.count ∙ count_is text pair.one.now place.line left in
    ap (λ n. nat_le n c.count_above-before.result) there ∙ ap (nat_le _) before
