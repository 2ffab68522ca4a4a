use Rattle.characters.proofs.Widths.{ascii_is_narrow, none_is_wider}
use Rattle.characters.proofs.laws.widths_are_small.Goals as goal

pub returns-clause-ascii : goal.returns-clause-ascii
returns-clause-ascii c = ascii_is_narrow

pub returns-clause-most : goal.returns-clause-most
returns-clause-most c = none_is_wider
