use Rattle.std.proofs.Common.{arith}
use Rattle.screen_print.proofs.ByLineLemmas.{front_kept, kept_more}
use Rattle.screen_print.proofs.lost.first_lost.Goals as goal

pub loop-at-init : goal.loop-at-init
loop-at-init c = λ column low high within begins.
    let one = c.args.pair.now.one.now in
    let other = c.args.pair.now.other.now in
    let line = c.args.line in
    front_kept c.args.sought.now.text.now one other line c.args.there c.shared_len-shared.result column c.sound.ensures.whole c.sound-2.ensures.whole
    c.requires.low c.requires.high c.requires.there_low c.requires.there_high c.shared_len-shared.ensures.same c.shared_len-shared.ensures.here c.shared_len-shared.ensures.there
    low (omega arith) begins

pub loop-at-preserved : goal.loop-at-preserved
loop-at-preserved c =
    kept_more c.args.sought.now.text.now c.args.pair.now.one.now c.args.line c.args.pair.now.other.now c.args.there _ c.loop-at.invariant
    (c.is_kept.ensures c.if-not-is_kept.false)
