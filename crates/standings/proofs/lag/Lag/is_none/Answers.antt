use Rattle.std.proofs.Common.{◌∙◌, sym}
use Rattle.std.proofs.lemmas.Bool.{leb-true}
use Rattle.standings.proofs.LagLemmas.{lags_still}
use Rattle.standings.proofs.SpanLemmas.{stays_none}
use Rattle.standings.proofs.lag.Lag.is_none.Goals as goal

pub returns-then-self-eq0 : goal.returns-then-self-eq0
returns-then-self-eq0 c = λ none one other lags.
    let lag = c.args.self in
    sym (stays_none lag.span one other (leb-true lag.span.to lag.span.from (sym c.is_none.ensures ∙ none)) (lags_still lag one other c.if-self-eq0.true lags))
