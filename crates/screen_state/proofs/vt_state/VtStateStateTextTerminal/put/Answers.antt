use Rattle.std.proofs.Common.{subst}
use Rattle.tape_core.specs.Devices.{Puts}
use Rattle.screen_state.proofs.Cutting.{text_is}
use Rattle.screen_state.proofs.vt_state.VtStateStateTextTerminal.put.Goals as goal

pub returns : goal.returns
returns g c = λ profile bytes shows.
    subst (λ text. Puts g.W.Write.contents c.args.writer.now c.state.new.writer text c.state.result)
    (text_is profile bytes c.args.terminal.now shows) c.state.ensures.puts
