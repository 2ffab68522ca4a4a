use Rattle.tape_redact.proofs.RedactLemmas.{lines_stay}
use Rattle.tape_redact.proofs.laws.lines_stay.Goals as goal

pub returns : goal.returns
returns c = lines_stay
