use Rattle.std.proofs.Common.{refl}
use Rattle.program.proofs.RunLemmas.{answered}
use Rattle.program.proofs.running.print_alone.Goals as goal

pub returns-clause-answer : goal.returns-clause-answer
returns-clause-answer g c = λ running files held.
    answered _ _ _ _ c.run_on_recording-outcome.ensures.ends _ refl running files held
