use Rattle.std.proofs.Common.{sym, ap, subst, ◌∙◌}
use Rattle.plays.specs.Sink.{after_sending}
use Rattle.vt_term.specs.Console.{IsSafe, console_of}
use Rattle.vt_term.specs.Effect.{token_effect, token_reply}
use Rattle.vt_term.proofs.Obeyed.{token_plays, token_safe}
use Rattle.vt_term.proofs.performer.Performer.obey.Goals as goal

pub invariant_of-self-2 : goal.invariant_of-self-2
invariant_of-self-2 c =
    subst IsSafe (sym c.in_ok-obey.ensures.done) (token_safe c.args.token (console_of c.self.inside.console) c.requires c.self.invariant)

pub returns-clause-played : goal.returns-clause-played
returns-clause-played c x bytes same told =
    c.in_ok-obey.ensures.done ∙ ap (token_effect c.args.token) (c.self.view_is ∙ sym same) ∙ sym (token_plays x bytes c.args.token told).0

pub returns-clause-sent : goal.returns-clause-sent
returns-clause-sent c x bytes same told =
    c.in_ok-obey.ensures.sent ∙ ap (after_sending c.args.sink.now)
    (ap (token_reply c.args.token) (c.self.view_is ∙ sym same) ∙ sym (token_plays x bytes c.args.token told).1)
