use Rattle.xterm_state.proofs.Cutting.{makes}
use Rattle.xterm_state.proofs.today_state.TodayStateStateTextTerminal.makes_any_this.Goals as goal

pub returns : goal.returns
returns c = makes c.seen_decides.ensures c.size_stays.ensures c.state_text_makes_any_this.ensures
