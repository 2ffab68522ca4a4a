use Rattle.std.proofs.Common.{subst}
use Rattle.std.specs.Prelude.{decimal}
use Rattle.tape_core.specs.Devices.{Gave}
use Rattle.xterm_state.proofs.closing.put_margins.Goals as goal

pub returns : goal.returns
returns g c =
    let top = subst (λ n. Gave g.W.Write.contents c.give.new.self c.put_number.new.writer (decimal n)) c.margins-top.ensures.top c.put_number.ensures in
    let bottom = subst (λ n. Gave g.W.Write.contents c.give-2.new.self c.put_number-2.new.writer (decimal n)) c.margins-top.ensures.bottom c.put_number-2.ensures in
    c.gives_join.ensures.both _ _ _ _ _ c.give-3.ensures
    (c.gives_join.ensures.both _ _ _ _ _ bottom
    (c.gives_join.ensures.both _ _ _ _ _ c.give-2.ensures (c.gives_join.ensures.both _ _ _ _ _ top c.give.ensures)))
