use Rattle.std.proofs.Common.{◌≤◌, arith}
use Rattle.xterm_print.proofs.KeptLemmas.{passing_all}
use Rattle.xterm_print.proofs.moved.push_blocks.Goals as goal

pub loop-line-preserved : goal.loop-line-preserved
loop-line-preserved c =
    let line = c.loop-line.line in
    let kept = c.loop-line.invariant in
    let low : 1 ≤ line = omega (arith, kept.low, c.requires.low) in
    record {
      low = omega (arith, kept.low);
      high = omega (arith, c.loop-line-test.true);
      few = omega (arith, c.push_block.ensures.len, kept.few);
      changed = λ p each so_far.
          passing_all p line 16 c.loop-line.changed.items c.push_block.new.changed.items low (λ k from below. each k (omega (arith, from, kept.low)) below)
          (kept.changed p (λ k from below. each k from (omega (arith, below))) so_far) c.push_block.ensures.items;
    }
