use Rattle.tape_import.proofs.LogOrderLemmas.{log_keeps_its_fault}
use Rattle.tape_import.proofs.OrderLemmas.{cast_keeps_its_fault}
use Rattle.tape_import.proofs.laws.the_first_fault_is_told.Goals as goal

pub returns-clause-asciicast : goal.returns-clause-asciicast
returns-clause-asciicast c = λ version front more ends. cast_keeps_its_fault version front more ends

pub returns-clause-tlog : goal.returns-clause-tlog
returns-clause-tlog c = λ front more ends. log_keeps_its_fault front more ends
