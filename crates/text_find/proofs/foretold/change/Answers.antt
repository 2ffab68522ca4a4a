use Rattle.text_find.proofs.foretold.change.Goals as goal

pub returns-clause-lags : goal.returns-clause-lags
returns-clause-lags c = λ lags. record { before = c.in_ok-steps.ensures.lags _ lags.before; after = lags.after }

pub returns-clause-between : goal.returns-clause-between
returns-clause-between c = λ first before after room is are. c.in_ok-steps.ensures.between first before after room is are
