use Rattle.screen_state.proofs.SizeLemmas.{is_short}
use Rattle.screen_state.proofs.laws.state_text_is_short.Goals as goal

pub returns : goal.returns
returns c = is_short
