use Rattle.screen_print.proofs.StoodLemmas.{what_is_found_stood}
use Rattle.screen_print.proofs.laws.what_is_found_stood.Goals as goal

pub returns : goal.returns
returns c = what_is_found_stood
