use Rattle.tape_import.proofs.FrontLemmas.{begins_with_its_front, log_begins_with_its_front}
use Rattle.tape_import.proofs.OneFrontLemmas.{entries_begin_with_their_front}
use Rattle.tape_import.proofs.RecordLemmas.{records_begin_with_their_front}
use Rattle.tape_import.proofs.laws.a_front_gives_a_front.Goals as goal

pub returns-clause-asciicast : goal.returns-clause-asciicast
returns-clause-asciicast c = λ version front more ends. begins_with_its_front version front more ends

pub returns-clause-tlog : goal.returns-clause-tlog
returns-clause-tlog c = λ front more ends. log_begins_with_its_front front more ends

pub returns-clause-one : goal.returns-clause-one
returns-clause-one c = λ front more. entries_begin_with_their_front front more

pub returns-clause-ttyrec : goal.returns-clause-ttyrec
returns-clause-ttyrec c = λ front more. records_begin_with_their_front front more
