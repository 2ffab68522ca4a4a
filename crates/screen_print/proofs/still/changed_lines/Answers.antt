use Rattle.std.proofs.Common.{◌≡◌, ◌-◌, sym, arith, append-nil, ◌∙◌}
use Rattle.screen_rows.proofs.ChangedLemmas.{all_changed, changed_step}
use Rattle.screen_print.proofs.still.changed_lines.Goals as goal
use Rattle.screen_print.proofs.still.changed_lines.Goals.{then-is_changed, else-is_changed}

pub loop-line-preserved : goal.loop-line-preserved
loop-line-preserved c =
    let line = c.loop-line.line in
    let before = c.args.rows.now in
    let after = c.args.screen.now.picture.rows in
    record {
      changed = changed_step before after line c.is_changed.result c.loop-line.changed.items c.if-is_changed.changed.items (omega arith) c.is_changed.ensures c.loop-line.invariant.changed
          (elim c.if-is_changed.branch [
            | then-is_changed w ↦ rw (w.changed-is, w.if-is_changed.true) w.push.ensures.items
            | else-is_changed w ↦ rw (w.changed-is, w.if-is_changed.false) (sym (append-nil c.loop-line.changed.items))
          ]);
      few = elim c.if-is_changed.branch [
        | then-is_changed w ↦ rw w.changed-is (omega (arith, w.push.ensures.len))
        | else-is_changed w ↦ rw w.changed-is (omega arith)
      ];
    }

pub returns : goal.returns
returns c =
    let last : c.loop-line.line - 1 ≡ 24 = omega arith in
    rw last at c.loop-line.invariant.changed ∙ all_changed c.args.rows.now c.args.screen.now.picture.rows
