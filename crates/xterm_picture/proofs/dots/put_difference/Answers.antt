use Rattle.std.proofs.Common.{subst}
use Rattle.tape_core.specs.Devices.{Gave}
use Rattle.xterm_picture.proofs.DotLemmas.{below}
use Rattle.xterm_picture.proofs.dots.put_difference.Goals as goal

pub returns-then-one-other : goal.returns-then-one-other
returns-then-one-other g c =
    subst (Gave g.W.Write.contents c.args.writer.now c.put_number.new.writer) (below c.args.one c.args.other c.if-one-other.true)
    (c.gives_join.ensures.both _ _ _ _ _ c.put_number.ensures c.give.ensures)
