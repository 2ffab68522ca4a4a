use Rattle.std.proofs.Common.{ℕ, subst}
use Rattle.xterm_term.specs.Term.{reset_term, play}
use Rattle.xterm_term.specs.Seen.{Shows}
use Rattle.xterm_term.proofs.playing.TerminalPlays.clear.Goals as goal

pub returns : goal.returns
unfolding play
returns c = λ fits.
    subst (λ (n : ℕ). Shows c.clear.new.self (reset_term n c.args.size.lines)) fits.0
    (subst (λ (n : ℕ). Shows c.clear.new.self (reset_term c.args.self.now.console.picture.columns n)) fits.1 c.clear.ensures)
