use Rattle.xterm_term.proofs.Told.{reset_at, size_of}
use Rattle.xterm_term.proofs.terminal.Terminal.clear.Goals as goal

pub invariant_of-self : goal.invariant_of-self
invariant_of-self c =
    reset_at c.laws_below.ensures _ _ _ _ _ (size_of _ c.self.invariant.safe) c.reset.ensures.done c.new-self-inside.ensures c.new-self-inside-2.ensures
