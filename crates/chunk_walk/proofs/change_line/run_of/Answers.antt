use Rattle.std.proofs.Common.{◌∙◌, ap, arith}
use Rattle.std.specs.Fmt.{decimal}
use Rattle.chunk_walk.proofs.RunLemmas.{run_more, run_none}
use Rattle.chunk_walk.proofs.change_line.run_of.Goals as goal

pub returns-then-first-ge100-clause-run : goal.returns-then-first-ge100-clause-run
returns-then-first-ge100-clause-run g c = run_none g.N.Integer.text c.args.numbers.now c.args.first

pub loop-count-init : goal.loop-count-init
loop-count-init g c = record {
  high = c.run_blocks-count.ensures.within;
  run = c.run_blocks-count.ensures.run;
}

pub loop-count-preserved : goal.loop-count-preserved
loop-count-preserved g c = record {
  high = omega arith;
  run = run_more g.N.Integer.text c.args.numbers.now c.args.first c.loop-count.count c.index-numbers-count.result (omega arith) c.index-numbers-count.is
      (c.number.ensures.text ∙ ap decimal c.if-number-first.true) c.loop-count.invariant.run;
}
