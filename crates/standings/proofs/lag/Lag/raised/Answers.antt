use Rattle.std.proofs.Common.{arith, subst, sym}
use Rattle.standings.specs.Moved.{moved_up, turned}
use Rattle.standings.specs.Spans.{Stays}
use Rattle.standings.proofs.LagLemmas.{all_differ, lags_more, moved_long, turned_long}
use Rattle.standings.proofs.lag.Lag.raised.Goals as goal

pub returns-then-self-last : goal.returns-then-self-last
returns-then-self-last c = λ columns one other some many lags.
    c.of.ensures one (moved_up columns other)
    (subst (λ span. Stays span one (moved_up columns other)) (sym c.all.ensures)
    (all_differ c.args.count one (moved_up columns other) (omega (arith, lags.count, many, turned_long c.args.self.moved one)) (omega (arith, many, moved_long columns other (omega arith)))))

pub returns : goal.returns
returns c = λ columns one other some many lags.
    let lag = c.args.self in
    let long = turned_long lag.moved one in
    lags_more lag.moved c.raised.result one (moved_up columns other) (omega (arith, lags.count, many, long, c.if-self-last.false, c.saturating_sub-last.ensures))
    (c.raised.ensures columns (turned lag.moved one) other (omega (arith, many, some, c.saturating_sub-last.ensures)) lags)
