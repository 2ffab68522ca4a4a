use Rattle.output_cast.proofs.EventLemmas.{texts_are}
use Rattle.output_cast.proofs.laws.texts_join.Goals as goal

pub returns : goal.returns
returns c = texts_are
