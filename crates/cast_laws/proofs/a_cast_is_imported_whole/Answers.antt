use Rattle.cast_laws.proofs.ImportLemmas.{imported_whole, read_whole}
use Rattle.cast_laws.proofs.a_cast_is_imported_whole.Goals as goal

pub returns : goal.returns
returns c = record {
  read = read_whole;
  imported = λ columns lines tape new losses. imported_whole columns lines tape new losses (c.texts_join.ensures tape);
}
