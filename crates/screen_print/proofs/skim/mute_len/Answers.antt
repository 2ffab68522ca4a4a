use Rattle.std.proofs.lemmas.List.Elements.{All-more}
use Rattle.screen_print.specs.Skim.{IsMute}
use Rattle.screen_print.proofs.skim.mute_len.Goals as goal

pub loop-at-preserved : goal.loop-at-preserved
loop-at-preserved c =
    All-more (IsMute c.args.key.now.chars.now) c.args.bytes.now c.loop-at.at 0 c.loop-at-test.true c.loop-at.invariant (c.pauses_at.ensures c.if-pauses_at.false)
