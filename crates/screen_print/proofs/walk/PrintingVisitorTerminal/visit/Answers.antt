use Rattle.std.proofs.Common.{sym, subst}
use Rattle.vt_term.specs.Seen.{Told}
use Rattle.screen_print.specs.Stills.{Still}
use Rattle.screen_print.proofs.walk.PrintingVisitorTerminal.visit.Goals as goal

pub put_seen-requires : goal.put_seen-requires
put_seen-requires g c = subst (λ (still : Still). Told still.rows c.args.terminal.now) (sym c.requires.2) c.requires.3
