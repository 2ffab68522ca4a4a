use Rattle.chunk_walk.proofs.RunLemmas.{high_place, low_place}
use Rattle.chunk_walk.proofs.change_line.small_place.Goals as goal

pub returns-then-number-lt10 : goal.returns-then-number-lt10
returns-then-number-lt10 c = low_place c.args.number c.if-number-lt10.true

pub returns-else-number-lt10 : goal.returns-else-number-lt10
returns-else-number-lt10 c = high_place c.args.number c.if-number-lt10.false c.requires
