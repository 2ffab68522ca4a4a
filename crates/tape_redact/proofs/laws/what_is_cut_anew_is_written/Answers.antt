use Rattle.tape_redact.proofs.ReadLemmas.{written_anew}
use Rattle.tape_redact.proofs.laws.what_is_cut_anew_is_written.Goals as goal

pub returns : goal.returns
returns c = written_anew
