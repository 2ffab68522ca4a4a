use Rattle.tape_redact.proofs.RedactLemmas.{hides_all}
use Rattle.tape_redact.proofs.laws.redacting_hides_all.Goals as goal

pub returns : goal.returns
returns c = hides_all
