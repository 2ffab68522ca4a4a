use Rattle.xterm_screen.proofs.Runs.{run_joined}
use Rattle.xterm_screen.proofs.laws.runs.Goals as goal

pub returns-clause-joined : goal.returns-clause-joined
returns-clause-joined c = λ xs ys rendition autowrap inserting p. run_joined rendition autowrap inserting xs ys p
