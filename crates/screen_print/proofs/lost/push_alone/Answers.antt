use Rattle.std.proofs.Common.{◌+◌, arith, subst, sym}
use Rattle.screen_print.specs.ByLine.{AreLost}
use Rattle.screen_print.proofs.ByLineLemmas.{lost_alone, lost_nothing}
use Rattle.screen_print.proofs.lost.push_alone.Goals as goal

pub returns-then-column-columns : goal.returns-then-column-columns
returns-then-column-columns c =
    let text = c.args.sought.now.text.now in
    let one = c.args.pair.now.one.now in
    let other = c.args.pair.now.other.now in
    let lost = c.args.lost.now in
    subst (AreLost text one (c.args.line + 1) other lost.next) (sym c.push.ensures.items)
    (lost_alone text one other c.args.line lost.next c.first_standing-column.result lost.places.items c.requires.low c.requires.high
    c.first_standing-column.ensures.from c.first_standing-column.ensures.before c.requires.before)

pub returns-else-column-columns : goal.returns-else-column-columns
returns-else-column-columns c =
    let lost = c.args.lost.now in
    lost_nothing c.args.sought.now.text.now c.args.pair.now.one.now c.args.pair.now.other.now c.args.line lost.next lost.places.items
    c.requires.low
    (λ k low high. c.first_standing-column.ensures.before k low (omega (arith, high, c.cells.ensures.long, c.cells.ensures.few)))
    c.requires.before
