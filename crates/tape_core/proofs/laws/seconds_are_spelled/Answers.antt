use Rattle.tape_core.proofs.SecondsLemmas.{seconds_spelled}
use Rattle.tape_core.proofs.laws.seconds_are_spelled.Goals as goal

pub returns : goal.returns
returns c = λ text. seconds_spelled text
