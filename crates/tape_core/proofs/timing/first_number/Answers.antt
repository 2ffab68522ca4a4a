use Rattle.std.proofs.Common.{◌≤◌, get_or, arith}
use Rattle.tape_core.proofs.FirstLineLemmas.{digit_read}
use Rattle.tape_core.proofs.timing.first_number.Goals as goal

pub loop-rest-preserved : goal.loop-rest-preserved
loop-rest-preserved c =
    let rest = c.loop-rest.rest.now in
    let low : 48 ≤ get_or rest 0 0 = omega arith in
    let high : get_or rest 0 0 ≤ 57 = omega arith in
    digit_read c.args.text.now rest c.loop-rest.n c.from.result c.loop-rest.invariant (omega arith) low high c.from.ensures (omega arith)
