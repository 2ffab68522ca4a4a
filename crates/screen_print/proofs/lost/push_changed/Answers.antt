use Rattle.std.proofs.Common.{◌+◌, arith, subst, sym}
use Rattle.screen_print.specs.ByLine.{AreLost}
use Rattle.screen_print.proofs.ByLineLemmas.{lost_more, lost_no_more}
use Rattle.screen_print.proofs.lost.push_changed.Goals as goal

pub returns-then-column-columns : goal.returns-then-column-columns
returns-then-column-columns c =
    let lost = c.args.lost.now in
    subst (AreLost c.args.sought.now.text.now c.args.pair.now.one.now (c.args.line + 1) c.args.pair.now.other.now (c.args.there + 1)) (sym c.push.ensures.items)
    (lost_more c.args.sought.now.text.now c.args.pair.now.one.now c.args.pair.now.other.now c.args.line lost.next c.args.there c.first_lost-column.result lost.places.items
    c.requires.low c.requires.high c.first_lost-column.ensures.some c.requires.before.there_low c.requires.next c.requires.there
    c.first_lost-column.ensures.kept c.requires.before)

pub returns-else-column-columns : goal.returns-else-column-columns
returns-else-column-columns c =
    let lost = c.args.lost.now in
    lost_no_more c.args.sought.now.text.now c.args.pair.now.one.now c.args.pair.now.other.now c.args.line lost.next c.args.there c.first_lost-column.result lost.places.items
    c.requires.low c.requires.before.there_low c.requires.next c.requires.there
    (omega (arith, c.cells-columns.ensures.long)) c.first_lost-column.ensures.kept c.requires.before
