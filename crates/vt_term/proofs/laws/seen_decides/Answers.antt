use Rattle.vt_term.proofs.Steps.{seen_decides}
use Rattle.vt_term.proofs.laws.seen_decides.Goals as goal

pub returns : goal.returns
returns c = seen_decides
