use Rattle.std.proofs.Common.{true, arith}
use Rattle.xterm_screen.proofs.Runs.{run_more}
use Rattle.xterm_screen.proofs.screen.Screen.show_each.Goals as goal

pub loop-i-preserved : goal.loop-i-preserved
loop-i-preserved c = record {
  shown = run_more c.args.rendition c.args.autowrap true c.args.characters.now c.loop-i.i c.from-character.result c.args.self.now.picture c.loop-i.self.picture c.show.new.self.picture
      (omega arith) c.from-character.ensures c.loop-i.invariant.shown c.show.ensures.picture;
  told = λ before was. c.show.ensures.told before (c.loop-i.invariant.told before was);
}
