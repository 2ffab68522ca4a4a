use Rattle.std.proofs.Common.{true, [], ◌∷◌, ap, ◌∙◌}
use Rattle.xterm_term.specs.Term.{forgotten_if}
use Rattle.xterm_term.specs.Seen.{Seen, seen_of}
use Rattle.xterm_term.proofs.Idle.{control_left, brought, brought_silent, brought_terminal}
use Rattle.xterm_term.proofs.terminal.Terminal.take_control.Goals as goal

pub invariant_of-self : goal.invariant_of-self
invariant_of-self c =
    let before : Seen = seen_of c.self.inside.console c.self.inside.parser c.self.inside.decoder in
    brought_terminal c.laws_below.ensures before c.args.self.now (c.args.byte ∷ []) _ c.self.view_is c.self.invariant c.requires.state c.requires.character
    (control_left c.control_is_given.ensures before c.args.self.now c.args.byte _ c.self.view_is c.requires.title c.requires.effective (c.forget_if.ensures.done ∙ ap (forgotten_if true) c.control.ensures.done))

pub returns-clause-shows : goal.returns-clause-shows
returns-clause-shows c x shows =
    let before : Seen = seen_of c.self.inside.console c.self.inside.parser c.self.inside.decoder in
    brought c.laws_below.ensures before c.args.self.now x (c.args.byte ∷ []) _ c.self.view_is shows c.requires.state c.requires.character
    (control_left c.control_is_given.ensures before c.args.self.now c.args.byte _ c.self.view_is c.requires.title c.requires.effective (c.forget_if.ensures.done ∙ ap (forgotten_if true) c.control.ensures.done))

pub returns-clause-silent : goal.returns-clause-silent
returns-clause-silent c x shows =
    let before : Seen = seen_of c.self.inside.console c.self.inside.parser c.self.inside.decoder in
    brought_silent c.laws_below.ensures before c.args.self.now x (c.args.byte ∷ []) _ c.self.view_is shows c.requires.state c.requires.character
    (control_left c.control_is_given.ensures before c.args.self.now c.args.byte _ c.self.view_is c.requires.title c.requires.effective (c.forget_if.ensures.done ∙ ap (forgotten_if true) c.control.ensures.done))
