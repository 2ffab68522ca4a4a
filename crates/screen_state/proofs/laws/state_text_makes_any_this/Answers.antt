use Rattle.screen_state.proofs.Remade.{makes_any_this}
use Rattle.screen_state.proofs.laws.state_text_makes_any_this.Goals as goal

pub returns : goal.returns
returns c = makes_any_this
