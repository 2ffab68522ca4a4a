use Rattle.std.proofs.Common.{subst}
use Rattle.tape_core.specs.Devices.{Puts}
use Rattle.xterm_state.proofs.Cutting.{text_is}
use Rattle.xterm_state.proofs.today_state.TodayStateStateTextTerminal.put.Goals as goal

pub returns : goal.returns
returns g c = λ size bytes shows.
    subst (λ text. Puts g.W.Write.contents c.args.writer.now c.state.new.writer text c.state.result)
    (text_is size.columns size.lines bytes c.args.terminal.now shows) c.state.ensures.puts
