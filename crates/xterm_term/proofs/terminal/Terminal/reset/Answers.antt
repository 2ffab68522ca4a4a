use Rattle.xterm_term.proofs.Told.{reset_at}
use Rattle.xterm_term.proofs.terminal.Terminal.reset.Goals as goal

pub invariant_of-result : goal.invariant_of-result
invariant_of-result c =
    reset_at c.laws_below.ensures c.args.size.columns c.args.size.lines _ _ _ c.args.size.sound c.in_ok-console.ensures c.new-2.ensures c.new-3.ensures
