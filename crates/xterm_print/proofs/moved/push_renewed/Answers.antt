use Rattle.std.proofs.Common.{◌≤◌, ◌∙◌, append-nil, arith, sym}
use Rattle.xterm_print.proofs.KeptLemmas.{passing_more}
use Rattle.xterm_print.proofs.moved.push_renewed.Goals as goal
use Rattle.xterm_print.proofs.moved.push_renewed.Goals.{then-is_renewed, else-is_renewed}

pub loop-line-preserved : goal.loop-line-preserved
loop-line-preserved c =
    let line = c.loop-line.line in
    let kept = c.loop-line.invariant in
    let low : 1 ≤ line = omega arith in
    record {
      few = elim c.if-is_renewed.branch [
        | then-is_renewed w ↦ rw w.changed-is (omega (arith, w.push.ensures.len, kept.few))
        | else-is_renewed w ↦ rw w.changed-is (omega (arith, kept.few))
      ];
      changed = λ p each so_far.
          passing_more p line c.is_renewed.result c.loop-line.changed.items c.if-is_renewed.changed.items low (c.is_renewed.ensures ∙ sym (each line (omega arith) (omega arith)))
          (kept.changed p (λ k from below. each k from (omega arith)) so_far)
          (elim c.if-is_renewed.branch [
            | then-is_renewed w ↦ rw (w.changed-is, w.if-is_renewed.true) w.push.ensures.items
            | else-is_renewed w ↦ rw (w.changed-is, w.if-is_renewed.false) (sym (append-nil c.loop-line.changed.items))
          ]);
    }
