use Rattle.vt_parser.proofs.Agrees.{stays_shown}
use Rattle.vt_parser.proofs.laws.stays_shown.Goals as goal

pub returns : goal.returns
returns c = stays_shown
