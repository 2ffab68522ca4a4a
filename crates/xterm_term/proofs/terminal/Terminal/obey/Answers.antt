use Rattle.std.proofs.Common.{true, sym, ap, subst, ◌∙◌}
use Rattle.plays.specs.Sink.{after_sending}
use Rattle.vt_parser.specs.Token.{command_of_token}
use Rattle.xterm_term.specs.Console.{Console, IsSafe, forgotten}
use Rattle.xterm_term.specs.Effect.{effect, reply}
use Rattle.xterm_term.specs.Seen.{Seen, Shows, seen_of}
use Rattle.xterm_term.specs.Term.{forgotten_if}
use Rattle.xterm_term.proofs.BetweenLemmas.{changed_shows, changed_terminal}
use Rattle.xterm_term.proofs.Stays.{safe_forgotten}
use Rattle.xterm_term.proofs.terminal.Terminal.obey.Goals as goal

pub invariant_of-self : goal.invariant_of-self
invariant_of-self c =
    let before : Seen = seen_of c.self.inside.console c.self.inside.parser c.self.inside.decoder in
    changed_terminal before _ _ c.self.invariant (subst IsSafe (sym c.in_err-obey_token.ensures.err) c.self.invariant.safe)

pub invariant_of-self-2 : goal.invariant_of-self-2
invariant_of-self-2 c =
    let before : Seen = seen_of c.self.inside.console c.self.inside.parser c.self.inside.decoder in
    let command = command_of_token c.args.token in
    changed_terminal before _ _ c.self.invariant
    (subst IsSafe (sym (c.forget_if.ensures.done ∙ ap (forgotten_if true) c.in_ok-obey_token.ensures.done))
    (safe_forgotten (effect command before.console) (c.laws_below.ensures.commands_keep_safe command before.console c.requires c.self.invariant.safe)))

pub returns-clause-shows : goal.returns-clause-shows
returns-clause-shows c x shows =
    let before : Seen = seen_of c.self.inside.console c.self.inside.parser c.self.inside.decoder in
    changed_shows before c.args.self.now x (λ s. forgotten (effect (command_of_token c.args.token) s)) _ c.self.view_is shows
    (c.forget_if.ensures.done ∙ ap (forgotten_if true) c.in_ok-obey_token.ensures.done)

pub returns-clause-sent : goal.returns-clause-sent
returns-clause-sent c x shows =
    c.in_ok-obey_token.ensures.sent
    ∙ ap (λ (s : Console). after_sending c.args.sink.now (reply (command_of_token c.args.token) s)) (ap (λ (s : Seen). s.console) c.self.view_is ∙ sym shows.console)
