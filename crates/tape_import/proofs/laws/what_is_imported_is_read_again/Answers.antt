use Rattle.tape_import.specs.ImportedFile.{import_of}
use Rattle.tape_import.proofs.ImportedLemmas.{read_again}
use Rattle.tape_import.proofs.laws.what_is_imported_is_read_again.Goals as goal

pub returns : goal.returns
returns c = λ file tape losses is. read_again (import_of file) tape losses is
