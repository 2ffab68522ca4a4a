use Rattle.tape_redact.proofs.AheadLemmas.{bit_of_lane}
use Rattle.tape_redact.proofs.ahead.bits_of.Goals as goal

pub returns : goal.returns
returns c k lt = bit_of_lane c.args.lanes k c.fits-lanes.0
