use Rattle.std.proofs.Common.{◌+◌, arith, subst, sym}
use Rattle.held.specs.Held.{Wrote}
use Rattle.held.proofs.HeldLemmas.{wrote_both}
use Rattle.standings.proofs.SpeltLemmas.{spelt_split}
use Rattle.standings.proofs.line.put_chars.Goals as goal

pub loop-at-preserved : goal.loop-at-preserved
loop-at-preserved g c = record {
  high = omega (arith, c.min-count.ensures, c.loop-at-test.true);
  gave = subst (Wrote g.W.Write.contents c.args.writer.now c.args.held.now.items c.put_some.new.writer c.put_some.new.held.items)
      (sym (spelt_split c.args.chars.now c.loop-at.at (c.loop-at.at + c.min-count.result) (omega arith)))
      (wrote_both c.put_some.ensures c.loop-at.invariant.gave);
}
