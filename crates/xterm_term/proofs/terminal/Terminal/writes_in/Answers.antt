use Rattle.std.proofs.Common.{refl, ap, subst, sym, ◌∙◌}
use Rattle.xterm_term.specs.declared.sets.CharacterSet.{CharacterSet}
use Rattle.xterm_term.specs.Ahead.{WritesStyled}
use Rattle.xterm_term.specs.Seen.{IsTerminal, Seen}
use Rattle.xterm_term.specs.Sets.{set_in_use}
use Rattle.xterm_term.proofs.Styled.{writes_styled}
use Rattle.xterm_term.proofs.terminal.Terminal.writes_in.Goals as goal

pub returns : goal.returns
returns c = λ x shows.
    let takes = c.if-not-takes_letters.ensures in
    let in_use = ap (λ (s : Seen). set_in_use s.console.sets) (sym c.self.view_is) ∙ sym c.in_use.ensures in
    subst (λ (set : CharacterSet). WritesStyled set x) in_use
    (writes_styled c.laws_below.ensures c.args.self.now x (subst IsTerminal c.self.view_is c.self.invariant)
    (record { title = takes.title refl; state = takes.state refl; character = takes.character refl; wrap = takes.wrap refl; insert = takes.insert refl }) shows)
