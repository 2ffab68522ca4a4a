use Rattle.tape_redact.proofs.ReadLemmas.{times_stay}
use Rattle.tape_redact.proofs.laws.times_stay.Goals as goal

pub returns : goal.returns
returns c = times_stay
