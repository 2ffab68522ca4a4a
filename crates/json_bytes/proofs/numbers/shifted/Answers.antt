use Rattle.std.proofs.Common.{◌*◌, ap, arith}
use Rattle.json_bytes.proofs.NumberLemmas.{ten_times}
use Rattle.json_bytes.proofs.numbers.shifted.Goals as goal

pub loop-preserved : goal.loop-preserved
loop-preserved c = omega (arith, ap (λ p. c.args.before * p) (ten_times c.loop.counter))
