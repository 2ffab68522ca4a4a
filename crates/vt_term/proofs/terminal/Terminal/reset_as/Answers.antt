use Rattle.std.proofs.Common.{subst}
use Rattle.vt_term.specs.Term.{reset_term_as}
use Rattle.vt_term.specs.Seen.{Seen, Shows, IsTerminal}
use Rattle.vt_term.proofs.Taken.{reset_shows, reset_proper, seen_is}
use Rattle.vt_term.proofs.terminal.Terminal.reset_as.Goals as goal

pub invariant_of-result : goal.invariant_of-result
invariant_of-result c = subst IsTerminal (seen_is _ _ _ _ _ c.reset.ensures.done c.new.ensures) (reset_proper c.args.profile _)

pub returns : goal.returns
returns c = subst (λ (seen : Seen). Shows seen (reset_term_as c.args.profile)) (seen_is _ _ _ _ _ c.reset.ensures.done c.new.ensures) (reset_shows c.args.profile _)
