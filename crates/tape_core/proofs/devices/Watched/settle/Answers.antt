use Rattle.std.proofs.lemmas.Result.{err_from_is_err_and}
use Rattle.tape_core.proofs.GaveLemmas.{gave_settled}
use Rattle.tape_core.proofs.devices.Watched.settle.Goals as goal

pub returns-in_err-ask-clause-puts : goal.returns-in_err-ask-clause-puts
returns-in_err-ask-clause-puts g c =
    let p = err_from_is_err_and c.from_residual.result c.from_residual.ensures.1 in
    rw (p.1, p.2) (λ start text gave. c.in_err-ask.ensures.puts start text gave)

pub returns-clause-puts : goal.returns-clause-puts
returns-clause-puts g c = λ start text gave.
    gave_settled g.W.Write.contents start c.args.self.now c.finish.new.self text c.finish.result c.in_ok-ask.ensures.sound gave c.finish.ensures.puts
