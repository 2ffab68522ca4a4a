use Rattle.std.proofs.Common.{subst, sym}
use Rattle.standings.specs.Moved.{turned}
use Rattle.standings.specs.Spans.{Stays}
use Rattle.standings.proofs.SpanLemmas.{stays_both}
use Rattle.standings.proofs.lag.Lag.widened.Goals as goal

pub returns : goal.returns
returns c = λ one other later lags stays.
    let lag = c.args.self in
    subst (λ span. Stays span (turned lag.moved one) later) (sym c.joined.ensures)
    (stays_both lag.span c.args.span (turned lag.moved one) other later lags stays)
