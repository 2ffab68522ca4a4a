use Rattle.std.proofs.Common.{ap, arith}
use Rattle.screen_rows.specs.Glyphs.{character}
use Rattle.screen_print.proofs.QuietLemmas.{alike_more}
use Rattle.screen_print.proofs.quiet.same_len.Goals as goal

pub loop-at-preserved : goal.loop-at-preserved
loop-at-preserved c =
    alike_more c.args.one.now c.args.other.now c.loop-at.at c.index-one-at.result c.index-other-at.result (omega arith) (omega arith)
    (ap character c.if-one-at.false) c.loop-at.invariant
