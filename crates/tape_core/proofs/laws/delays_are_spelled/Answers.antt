use Rattle.tape_core.proofs.LineLemmas.{delay_text}
use Rattle.tape_core.proofs.ReadBackLemmas.{delay_read}
use Rattle.tape_core.proofs.laws.delays_are_spelled.Goals as goal

pub returns-clause-spelled : goal.returns-clause-spelled
returns-clause-spelled c = λ text delay h. delay_text text delay h

pub returns-clause-read : goal.returns-clause-read
returns-clause-read c = λ text delay h. (delay_read text delay h).read
