use Rattle.vt_parser.proofs.Agrees.{state_decides}
use Rattle.vt_parser.proofs.laws.state_decides.Goals as goal

pub returns : goal.returns
returns c = state_decides
