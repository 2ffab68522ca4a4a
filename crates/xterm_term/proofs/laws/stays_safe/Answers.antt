use Rattle.xterm_term.proofs.Stays.{safe_play}
use Rattle.xterm_term.proofs.laws.stays_safe.Goals as goal

pub returns : goal.returns
returns c = record {
  reset = c.laws_below.ensures.reset_is_safe;
  played = safe_play c.laws_below.ensures;
}
