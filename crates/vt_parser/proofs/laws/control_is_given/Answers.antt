use Rattle.vt_parser.proofs.LawLemmas.{control_is_given}
use Rattle.vt_parser.proofs.laws.control_is_given.Goals as goal

pub returns : goal.returns
returns c = control_is_given
