use Rattle.std.proofs.Common.{refl, ap, subst, sym, ◌∙◌}
use Rattle.xterm_term.specs.Seen.{IsTerminal, Seen}
use Rattle.xterm_term.specs.Sets.{set_in_use}
use Rattle.xterm_term.proofs.Ahead.{writes_on}
use Rattle.xterm_term.proofs.terminal.Terminal.writes_on.Goals as goal

pub returns-in-Ascii : goal.returns-in-Ascii
returns-in-Ascii c = λ _ x shows.
    let takes = c.if-takes_letters.ensures in
    writes_on c.laws_below.ensures c.widths_are_small.ensures.ascii c.args.self.now x (subst IsTerminal c.self.view_is c.self.invariant)
    (record { title = takes.title refl; state = takes.state refl; character = takes.character refl; wrap = takes.wrap refl; insert = takes.insert refl })
    (ap (λ (s : Seen). set_in_use s.console.sets) (sym c.self.view_is) ∙ sym c.in_use.ensures ∙ c.in-Ascii.is) shows
