use Rattle.tape_import.proofs.EntryLemmas.{has_its_entries}
use Rattle.tape_import.proofs.laws.an_asciicast_of_version_one_has_its_outputs.Goals as goal

pub returns : goal.returns
returns c = λ text. has_its_entries text
