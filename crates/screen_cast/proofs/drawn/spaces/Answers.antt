use Rattle.std.proofs.Common.{arith}
use Rattle.std.proofs.lemmas.List.{take-replicate}
use Rattle.screen_cast.proofs.drawn.spaces.Goals as goal

pub returns : goal.returns
returns c = take-replicate c.args.count 132 32 (omega (arith, c.requires))
