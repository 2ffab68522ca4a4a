use Rattle.tape_core.proofs.OneReadingLemmas.{written_reads}
use Rattle.tape_mend.specs.Mended.{mended}
use Rattle.tape_mend.proofs.TakenLemmas.{mended_fits}
use Rattle.tape_mend.proofs.laws.what_is_mended_reads_back.Goals as goal

pub returns : goal.returns
returns c = λ how script timing some.
    let fitting = mended_fits how script timing some in
    record { fitting = fitting; read = written_reads (mended how script timing).tape fitting }
