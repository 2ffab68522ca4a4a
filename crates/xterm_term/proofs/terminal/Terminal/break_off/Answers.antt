use Rattle.std.proofs.Common.{subst, sym}
use Rattle.characters.specs.Utf8.{replacement}
use Rattle.xterm_term.specs.Console.{IsSafe}
use Rattle.xterm_term.specs.Puts.{put}
use Rattle.xterm_term.specs.Seen.{Seen, seen_of}
use Rattle.xterm_term.proofs.BetweenLemmas.{changed_size, changed_terminal, cut_shows}
use Rattle.xterm_term.proofs.Sizes.{put_keeps_size}
use Rattle.xterm_term.proofs.terminal.Terminal.break_off.Goals as goal

pub invariant_of-self : goal.invariant_of-self
invariant_of-self c =
    let before : Seen = seen_of c.self.inside.console c.self.inside.parser c.self.inside.decoder in
    changed_terminal before _ _ c.self.invariant
    (subst IsSafe (sym c.put.ensures.done) (c.laws_below.ensures.puts_keep_safe replacement before.console c.self.invariant.safe))

pub returns-clause-shows : goal.returns-clause-shows
returns-clause-shows c x shows =
    let before : Seen = seen_of c.self.inside.console c.self.inside.parser c.self.inside.decoder in
    cut_shows before c.args.self.now x (put replacement) _ _ c.self.view_is shows c.put.ensures.done c.new-self-inside.ensures

pub returns-clause-size : goal.returns-clause-size
returns-clause-size c =
    let before : Seen = seen_of c.self.inside.console c.self.inside.parser c.self.inside.decoder in
    changed_size before c.args.self.now (put replacement) _ c.self.view_is c.put.ensures.done (put_keeps_size replacement before.console)
