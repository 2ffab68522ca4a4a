use Rattle.std.proofs.Common.{arith}
use Rattle.chunk_walk.proofs.RunLemmas.{run_further, run_none}
use Rattle.chunk_walk.proofs.change_line.run_blocks.Goals as goal

pub loop-count-init : goal.loop-count-init
loop-count-init g c = record {
  high = omega arith;
  run = run_none g.N.Integer.text c.args.numbers.now c.args.first;
}

pub loop-count-preserved : goal.loop-count-preserved
loop-count-preserved g c = record {
  high = omega (arith, c.loop-count-test.true);
  run = run_further g.N.Integer.text c.args.numbers.now c.args.first c.loop-count.count 16 (omega (arith, c.loop-count-test.true, c.requires.within))
      c.loop-count.invariant.run (c.is_run.ensures c.if-is_run.true);
}
