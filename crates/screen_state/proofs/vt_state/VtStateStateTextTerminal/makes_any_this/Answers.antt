use Rattle.screen_state.proofs.Cutting.{makes}
use Rattle.screen_state.proofs.vt_state.VtStateStateTextTerminal.makes_any_this.Goals as goal

pub returns : goal.returns
returns c = makes
