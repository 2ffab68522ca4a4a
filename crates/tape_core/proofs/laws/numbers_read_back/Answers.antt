use Rattle.tape_core.proofs.WordLemmas.{decimal_read, decimal_word}
use Rattle.tape_core.proofs.laws.numbers_read_back.Goals as goal

pub returns : goal.returns
returns c = record { word = decimal_word; read = decimal_read }
