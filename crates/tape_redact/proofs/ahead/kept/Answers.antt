use Rattle.tape_redact.proofs.AheadLemmas.{kept_lanes}
use Rattle.tape_redact.proofs.ahead.kept.Goals as goal

pub returns : goal.returns
returns c = kept_lanes c.args.lanes c.args.bytes.now c.args.byte c.fits-lanes.0 c.requires
