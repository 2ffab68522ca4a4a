use Rattle.std.proofs.Common.{◌∙◌, arith, sym}
use Rattle.standings.proofs.LagLemmas.{up_none, up_some}
use Rattle.standings.proofs.lag.raised.Goals as goal

pub returns-then-is_none : goal.returns-then-is_none
returns-then-is_none c = λ columns one other many stays.
    up_none c.args.span columns c.args.last one other (sym c.is_none.ensures ∙ c.if-is_none.true) many stays

pub returns : goal.returns
returns c = λ columns one other many stays.
    up_some c.args.span columns c.args.last c.min.result one other (omega (arith, c.min.ensures)) (omega (arith, c.min.ensures, c.saturating_sub.ensures)) many stays
