use Rattle.tape_core.proofs.GaveLemmas.{gave_failed, put_gave}
use Rattle.tape_core.proofs.devices.Watched.give.Goals as goal

pub returns-then-not-self : goal.returns-then-not-self
returns-then-not-self g c = put_gave g.W.Write.contents c.args.self.now c.put.new.self _ c.put.result c.if-not-self.true c.put.ensures.puts

pub returns-else-not-self : goal.returns-else-not-self
returns-else-not-self g c = gave_failed g.W.Write.contents c.args.self.now _ c.if-not-self.false
