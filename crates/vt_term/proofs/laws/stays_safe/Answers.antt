use Rattle.vt_term.proofs.Safe.{safe_reset}
use Rattle.vt_term.proofs.Steps.{safe_play}
use Rattle.vt_term.proofs.laws.stays_safe.Goals as goal

pub returns : goal.returns
returns c = record { reset = safe_reset; played = safe_play }
