use Rattle.tape_core.specs.Written.{script_text, timing_text}
use Rattle.tape_core.proofs.OneReadingLemmas.{reads_once, written_reads}
use Rattle.tape_core.proofs.laws.what_is_written_reads_back.Goals as goal

pub returns-clause-reads : goal.returns-clause-reads
returns-clause-reads c = written_reads

pub returns-clause-alone : goal.returns-clause-alone
returns-clause-alone c = λ tape other fit r. reads_once (script_text tape) (timing_text tape) other tape r (written_reads tape fit)
