use Rattle.tape_core.proofs.ReadBackLemmas.{seconds_form_read, seconds_form_reads}
use Rattle.tape_core.proofs.WordLemmas.{seconds_word}
use Rattle.tape_core.proofs.laws.seconds_read_back.Goals as goal

pub returns : goal.returns
returns c = record { word = seconds_word; spelled = seconds_form_reads; read = seconds_form_read }
