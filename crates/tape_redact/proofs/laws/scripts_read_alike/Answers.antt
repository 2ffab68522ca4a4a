use Rattle.tape_redact.proofs.ReadLemmas.{reads_alike}
use Rattle.tape_redact.proofs.laws.scripts_read_alike.Goals as goal

pub returns : goal.returns
returns c = reads_alike
