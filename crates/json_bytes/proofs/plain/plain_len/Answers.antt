use Rattle.std.proofs.Common.{sym, ap, ◌∙◌, arith}
use lib.Count.{count_trailing_zeros}
use Rattle.json_bytes.proofs.PlainLemmas.{run_bound, run_stops}
use Rattle.json_bytes.proofs.plain.plain_len.Goals as goal

pub returns-then-found-ne0 : goal.returns-then-found-ne0
returns-then-found-ne0 c =
    let found = c.others-found.ensures in
    let end = c.loop-end in
    let run = run_stops c.args.text.now end.end 16 (omega arith) (omega arith) (omega (arith, found)) ∙ ap (count_trailing_zeros 64) (sym found) in
    record { plain = omega (arith, run, end.invariant.0); within = omega (arith, run, run_bound c.args.text.now end.end end.invariant.1) }
