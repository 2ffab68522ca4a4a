use Rattle.std.proofs.Common.{arith}
use Rattle.screen_print.specs.FindLines.{standing}
use Rattle.screen_print.proofs.FindLemmas.{standing_all, standing_more}
use Rattle.screen_print.proofs.standing.standing.Goals as goal

pub loop-line-preserved : goal.loop-line-preserved
loop-line-preserved c =
    let still = c.args.still.now in
    let text = c.args.text.now in
    record {
      placed = standing_more text still c.loop-line.line c.loop-line.places.items c.push_places.new.places.items (standing text still) c.sound.ensures.whole (omega arith) (omega arith)
          c.push_places.ensures.places c.loop-line.invariant.placed;
      room = omega (arith, c.push_places.ensures.short, c.loop-line.invariant.room);
      within = c.push_places.ensures.after;
    }

pub returns-clause-places : goal.returns-clause-places
returns-clause-places c =
    standing_all c.args.text.now c.args.still.now c.loop-line.line c.loop-line.places.items c.sound.ensures.whole (omega arith) c.loop-line.invariant.placed
