use Rattle.std.proofs.lemmas.List.Elements.{All-more}
use Rattle.screen_print.specs.Skim.{IsRunning}
use Rattle.screen_print.proofs.skim.running_len.Goals as goal

pub loop-at-preserved : goal.loop-at-preserved
loop-at-preserved c =
    All-more (IsRunning c.args.key.now.chars.now) c.args.bytes.now c.loop-at.at 0 c.loop-at-test.true c.loop-at.invariant (c.stops_at.ensures c.if-stops_at.false)
