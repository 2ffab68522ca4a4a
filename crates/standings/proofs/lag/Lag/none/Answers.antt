use Rattle.standings.proofs.SpanLemmas.{stays_all}
use Rattle.standings.proofs.lag.Lag.none.Goals as goal

pub returns : goal.returns
returns c = λ rows. c.of.ensures rows rows (stays_all rows c.none.result)
