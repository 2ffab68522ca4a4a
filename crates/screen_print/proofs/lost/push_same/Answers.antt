use Rattle.std.proofs.Common.{◌+◌, arith, length}
use Rattle.screen_print.specs.ByLine.{row_on}
use Rattle.screen_print.proofs.ByLineLemmas.{ended_kept, lost_no_more}
use Rattle.screen_print.proofs.lost.push_same.Goals as goal

pub returns-then-ends_its_line : goal.returns-then-ends_its_line
returns-then-ends_its_line c =
    let text = c.args.sought.now.text.now in
    let one = c.args.pair.now.one.now in
    let other = c.args.pair.now.other.now in
    let lost = c.args.lost.now in
    let end = length (row_on one c.args.line) + 1 in
    let yes = c.if-ends_its_line.true in
    lost_no_more text one other c.args.line lost.next c.args.there end lost.places.items c.requires.low c.requires.before.there_low c.requires.next c.requires.there (omega arith)
    (ended_kept text one other c.args.line c.args.there end c.sound.ensures.whole c.sound-2.ensures.whole c.requires.low c.requires.high
    (omega (arith, c.requires.before.there_low, c.requires.next)) c.requires.there (c.ends_its_line.ensures.wide yes) c.requires.same (c.ends_its_line.ensures.ends yes))
    c.requires.before
