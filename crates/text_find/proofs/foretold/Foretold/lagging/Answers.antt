use Rattle.std.proofs.Common.{◌≡◌, ◌<◌, arith, length, subst, sym}
use Rattle.std.proofs.lemmas.Bool.Decides.{nat_tests}
use Rattle.standings.specs.Lag.{Lags}
use Rattle.standings.specs.Moved.{moved_up}
use Rattle.text_find.specs.Foretold.{HasRoom, foretold_rows}
use Rattle.text_find.proofs.foretold.Foretold.lagging.Goals as goal

pub returns-in-MovesUp : goal.returns-in-MovesUp
returns-in-MovesUp c = λ one other later letters count lags rows stays.
    let columns = c.in-MovesUp.field-0 in
    let few : 0 < c.args.count = grind (arith, nat_tests, c.if-count-gt0.true) in
    let some : 0 < length other = omega (arith, count, few) in
    let up : 0 < length other → later ≡ moved_up columns other = subst (λ f. HasRoom f letters other → later ≡ foretold_rows f letters other) c.in-MovesUp.is rows in
    subst (Lags c.raised.result one) (sym (up some)) (c.raised.ensures columns one other few count lags)

pub returns-in_default : goal.returns-in_default
returns-in_default c = λ one other later letters count lags rows stays. c.widened.ensures one other later lags stays
