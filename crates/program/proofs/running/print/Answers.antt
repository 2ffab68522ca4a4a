use Rattle.std.proofs.Common.{refl}
use Rattle.program.proofs.RunLemmas.{answered}
use Rattle.program.proofs.running.print.Goals as goal

pub returns-clause-answer : goal.returns-clause-answer
returns-clause-answer g c = λ running files held.
    answered _ _ _ _ c.run_with-outcome.ensures.ends _ refl running files held
