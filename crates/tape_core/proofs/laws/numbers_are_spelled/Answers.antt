use Rattle.tape_core.proofs.WordLemmas.{number_spelled}
use Rattle.tape_core.proofs.laws.numbers_are_spelled.Goals as goal

pub returns : goal.returns
returns c = λ text. number_spelled text
