use Rattle.tape_cut.proofs.MakingLemmas.{one_refused}
use Rattle.tape_cut.proofs.making.make.Goals as goal

pub returns-in-Err : goal.returns-in-Err
returns-in-Err g c =
    one_refused c.args.edit c.args.session.now c.apply.new.self c.in-Err.refused.fault c.in-Err.ensures.err c.in-Err.ensures.fault c.apply.ensures.history
