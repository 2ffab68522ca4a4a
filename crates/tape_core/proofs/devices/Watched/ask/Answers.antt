use Rattle.std.proofs.Common.{refl, true}
use Rattle.tape_core.proofs.GaveLemmas.{gave_part, gave_took}
use Rattle.tape_core.proofs.devices.Watched.ask.Goals as goal

pub returns-then-self-clause-puts : goal.returns-then-self-clause-puts
returns-then-self-clause-puts g c = λ start text gave. (refl, gave_part g.W.Write.contents start c.args.self.now text true c.if-self.true gave)

pub returns-clause-puts : goal.returns-clause-puts
returns-clause-puts g c = λ start text gave. gave_took g.W.Write.contents start c.args.self.now text c.if-self.false gave
