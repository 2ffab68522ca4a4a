use Rattle.tape_redact.proofs.RedactLemmas.{none_is_left}
use Rattle.tape_redact.proofs.laws.none_is_left.Goals as goal

pub returns : goal.returns
returns c = none_is_left
