use Rattle.std.proofs.Common.{true, subst, sym}
use Rattle.xterm_term.specs.Console.{IsSafe, forgotten}
use Rattle.xterm_term.specs.Seen.{Seen, seen_of}
use Rattle.xterm_term.proofs.BetweenLemmas.{changed_shows, changed_size, changed_terminal}
use Rattle.xterm_term.proofs.Stays.{safe_forgotten, size_forgotten}
use Rattle.xterm_term.proofs.terminal.Terminal.forget_last.Goals as goal

pub invariant_of-self : goal.invariant_of-self
invariant_of-self c =
    let before : Seen = seen_of c.self.inside.console c.self.inside.parser c.self.inside.decoder in
    changed_terminal before _ _ c.self.invariant (subst IsSafe (sym c.forget_if.ensures.done) (safe_forgotten before.console c.self.invariant.safe))

pub returns-clause-shows : goal.returns-clause-shows
returns-clause-shows c x shows =
    let before : Seen = seen_of c.self.inside.console c.self.inside.parser c.self.inside.decoder in
    changed_shows before c.args.self.now x forgotten _ c.self.view_is shows c.forget_if.ensures.done

pub returns-clause-size : goal.returns-clause-size
returns-clause-size c =
    let before : Seen = seen_of c.self.inside.console c.self.inside.parser c.self.inside.decoder in
    changed_size before c.args.self.now forgotten _ c.self.view_is c.forget_if.ensures.done (size_forgotten true before.console)
