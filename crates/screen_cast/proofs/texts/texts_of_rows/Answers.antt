use Rattle.screen_cast.proofs.TextLemmas.{no_texts}
use Rattle.screen_cast.proofs.texts.texts_of_rows.Goals as goal

pub returns : goal.returns
returns c = λ reversed order rows. no_texts c.loop-slot.texts.items reversed order rows c.loop-slot.invariant.none
