use Rattle.std.proofs.Common.{arith, subst, sym}
use Rattle.standings.specs.Spans.{Stays}
use Rattle.standings.proofs.LagLemmas.{lags_still}
use Rattle.standings.proofs.SpanLemmas.{stays_back, stays_both}
use Rattle.standings.proofs.lag.joined.Goals as goal

pub returns-clause-behind : goal.returns-clause-behind
returns-clause-behind c = λ first second last many one other.
    let a = c.args.one in
    let b = c.args.other in
    let here = lags_still a first last (omega (arith, c.if-one-gt0.false)) one in
    let there = lags_still b second last (omega (arith, c.if-other-gt0.false)) other in
    subst (λ span. Stays span first second) (sym c.joined.ensures) (stays_both a.span b.span first last second here (stays_back b.span second last there))

pub returns-clause-before : goal.returns-clause-before
returns-clause-before c = λ first second last many one other.
    let a = c.args.one in
    let b = c.args.other in
    let here = lags_still a first second (omega (arith, c.if-one-gt0.false)) one in
    let there = lags_still b first last (omega (arith, c.if-other-gt0.false)) other in
    subst (λ span. Stays span second last) (sym c.joined.ensures) (stays_both a.span b.span second first last (stays_back a.span first second here) there)
