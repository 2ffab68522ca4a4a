use Rattle.std.proofs.Common.{◌-◌, length, take, drop, arith}
use Rattle.tape_core.proofs.FirstLineLemmas.{begins, six_decimals_first}
use Rattle.tape_core.proofs.timing.first_delay.Goals as goal

pub returns : goal.returns
returns c =
    let behind = c.in_ok-whole.behind.now in
    let point = begins behind 46 (omega arith) (omega arith) in
    six_decimals_first c.args.text.now behind (take (length behind - 1) (drop 1 behind)) c.in_ok-micros.rest.now c.in_ok-whole.whole c.in_ok-micros.micros
    c.in_ok-whole.ensures.number point c.in_ok-micros.ensures.number (omega (arith, c.in_ok-micros.ensures.six))
