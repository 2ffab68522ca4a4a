use Rattle.std.proofs.Common.{subst}
use Rattle.tape_core.specs.Devices.{Gave}
use Rattle.xterm_term.specs.Sets.{first_sets}
use Rattle.xterm_state.specs.StateText.{in_force_text}
use Rattle.xterm_state.proofs.opening.put_canvas.Goals as goal

pub returns : goal.returns
returns g c =
    let force = subst (λ r. Gave g.W.Write.contents c.give.new.self c.put_in_force.new.writer (in_force_text r first_sets)) c.plain_on.ensures c.put_in_force.ensures in
    c.gives_join.ensures.both _ _ _ _ _ force c.give.ensures
