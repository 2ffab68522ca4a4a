use Rattle.std.proofs.Common.{◌≤◌, arith, sym, true}
use Rattle.xterm_print.proofs.KeptLemmas.{passing_more}
use Rattle.xterm_print.proofs.moved.push_all.Goals as goal

pub loop-line-init : goal.loop-line-init
loop-line-init c = record {
  low = c.push_blocks-start.ensures.low;
  few = c.push_blocks-start.ensures.few;
  changed = c.push_blocks-start.ensures.changed;
}

pub loop-line-preserved : goal.loop-line-preserved
loop-line-preserved c =
    let line = c.loop-line.line in
    let kept = c.loop-line.invariant in
    let low : 1 ≤ line = omega (arith, kept.low, c.requires.low) in
    record {
      low = omega (arith, kept.low);
      few = omega (arith, c.push.ensures.len, kept.few);
      changed = λ p each so_far.
          passing_more p line true c.loop-line.changed.items c.push.new.self.items low (sym (each line kept.low (omega arith)))
          (kept.changed p (λ k from below. each k from (omega arith)) so_far) c.push.ensures.items;
    }
