use Rattle.std.proofs.Common.{◌≡◌, ◌+◌, ◌∙◌, ap, arith, false}
use Rattle.std.proofs.lemmas.Bool.Decides.{nat_tests}
use Rattle.std.specs.Fmt.{decimal}
use Rattle.chunk_walk.proofs.RunLemmas.{run_more, run_none}
use Rattle.chunk_walk.proofs.change_line.is_run.Goals as goal

pub loop-i-init : goal.loop-i-init
loop-i-init g c = λ _. run_none g.N.Integer.text c.args.numbers.now c.args.first

pub loop-i-preserved : goal.loop-i-preserved
loop-i-preserved g c = λ unbroken.
    let before : c.loop-i.broken ≡ false = grind (arith, nat_tests) in
    let here : c.number.result ≡ c.args.first + c.loop-i.i = grind (arith, nat_tests) in
    run_more g.N.Integer.text c.args.numbers.now c.args.first c.loop-i.i c.index-numbers-i.result (omega arith) c.index-numbers-i.is
    (c.number.ensures.text ∙ ap decimal here) (c.loop-i.invariant before)
