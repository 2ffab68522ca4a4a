use Rattle.std.proofs.Common.{◌+◌, arith}
use Rattle.std.proofs.lemmas.Simd.{take_more_put_chunk}
use Rattle.json_bytes.proofs.pieces.store.Goals as goal

pub returns-clause-lanes : goal.returns-clause-lanes
returns-clause-lanes c =
    take_more_put_chunk c.args.at c.args.held.now c.args.lanes (c.args.at + 16) (omega (arith, c.fits-lanes.0)) c.requires
