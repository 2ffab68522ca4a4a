use Rattle.std.proofs.Common.{arith, subst, sym}
use Rattle.held.specs.Held.{Wrote}
use Rattle.held.proofs.HeldLemmas.{wrote_both, wrote_none}
use Rattle.transcripts.proofs.RowLemmas.{blank_more}
use Rattle.transcripts.proofs.rows.put_line_ends.Goals as goal

pub loop-put-init : goal.loop-put-init
loop-put-init g c = record { within = omega arith; wrote = wrote_none c.args.writer.now c.args.held.now.items }

pub loop-put-preserved : goal.loop-put-preserved
loop-put-preserved g c = record {
  within = omega arith;
  wrote = subst (Wrote g.W.Write.contents c.args.writer.now c.args.held.now.items c.put_byte.new.writer c.put_byte.new.held.items)
      (sym (blank_more c.loop-put.put 10)) (wrote_both c.put_byte.ensures c.loop-put.invariant.wrote);
}
