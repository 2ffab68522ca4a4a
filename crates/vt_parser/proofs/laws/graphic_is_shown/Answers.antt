use Rattle.vt_parser.proofs.LawLemmas.{graphic_is_shown}
use Rattle.vt_parser.proofs.laws.graphic_is_shown.Goals as goal

pub returns : goal.returns
returns c = graphic_is_shown
