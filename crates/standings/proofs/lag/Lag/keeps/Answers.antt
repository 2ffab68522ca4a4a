use Rattle.std.proofs.Common.{◌∙◌, ap, arith, sym}
use Rattle.std.proofs.lemmas.Bool.{false≢true}
use Rattle.standings.specs.Moved.{turned}
use Rattle.standings.specs.Rows.{row_below}
use Rattle.standings.proofs.LagLemmas.{turned_front}
use Rattle.standings.proofs.lag.Lag.keeps.Goals as goal

pub returns-then-is_behind : goal.returns-then-is_behind
returns-then-is_behind c = λ told one other long lags.
    let lag = c.args.self in
    let at = c.is_behind.ensures c.if-is_behind.true in
    c.stays.ensures told (turned lag.moved one) other lags ∙ ap (row_below (turned lag.moved one)) (sym at.1)
    ∙ turned_front lag.moved one c.args.here at.0 (omega (arith, at.2, long))

pub returns-else-is_behind : goal.returns-else-is_behind
returns-else-is_behind c = λ told one other long lags. absurd (false≢true (sym c.if-is_behind.false ∙ told))
