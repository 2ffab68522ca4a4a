use Rattle.std.proofs.lemmas.Bool.{leb-true}
use Rattle.standings.proofs.lag.Lag.stays.Goals as goal

pub returns-then-there-self : goal.returns-then-there-self
returns-then-there-self c = λ told one other stays. stays.above c.args.there c.if-there-self.true

pub returns-else-there-self : goal.returns-else-there-self
returns-else-there-self c = λ told one other stays. stays.below c.args.there (leb-true c.args.self.span.to c.args.there told)
