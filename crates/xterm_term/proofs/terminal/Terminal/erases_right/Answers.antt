use Rattle.std.proofs.Common.{subst, sym, take, ◌∙◌}
use Rattle.xterm_term.specs.Seen.{Seen, Shows, seen_of}
use Rattle.xterm_term.proofs.Ahead.{on_ground_alone}
use Rattle.xterm_term.proofs.Erases.{erases}
use Rattle.xterm_term.proofs.terminal.Terminal.erases_right.Goals as goal

pub returns-clause-erases : goal.returns-clause-erases
returns-clause-erases c = λ some x shows.
    let before : Seen = seen_of c.self.inside.console c.self.inside.parser c.self.inside.decoder in
    erases c.laws_below.ensures before x (take c.erasing.result c.args.bytes.now)
    (record { title = c.if-self.false; character = c.is_pending.ensures.none c.if-is_pending.false })
    (sym c.state.ensures.value ∙ on_ground_alone _ (sym c.is_ground_state.ensures ∙ c.if-not-is_ground_state.false))
    (subst (λ (s : Seen). Shows s x) (sym c.self.view_is) shows)
    (c.erasing.ensures.is some)
