use Rattle.std.proofs.Common.{arith}
use Rattle.text_find.proofs.UntouchedLemmas.{none_touched, others_touched}
use Rattle.text_find.proofs.lines.is_untouched.Goals as goal

pub returns-then-is_none : goal.returns-then-is_none
returns-then-is_none c = λ _ text first one other many lagged lags n lt.
    none_touched text first one other n (c.is_none.ensures c.if-is_none.true first one lagged) lt

pub returns : goal.returns
returns c = λ told text first one other many lagged lags n lt.
    let apart = c.differ_apart.ensures in
    others_touched text c.args.since c.args.lag first one other n (omega (arith, many, apart.len told)) (apart.since told) (apart.lag told) (apart.apart told) lagged lags lt
