use Rattle.text_find.proofs.StoodLemmas.{what_is_found_stood}
use Rattle.text_find.proofs.laws.what_is_found_stood.Goals as goal

pub returns : goal.returns
returns g c = what_is_found_stood g.F.Finder.screens
