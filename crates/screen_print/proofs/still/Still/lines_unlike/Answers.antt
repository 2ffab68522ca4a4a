use Rattle.std.proofs.Common.{◌≡◌, ◌-◌, ap, sym, arith, append-nil, ◌∙◌}
use Rattle.vt_screen.specs.Picture.{Picture}
use Rattle.screen_rows.specs.SameRows.{changed_lines}
use Rattle.screen_rows.proofs.ChangedLemmas.{all_changed, changed_step}
use Rattle.screen_print.proofs.still.Still.lines_unlike.Goals as goal
use Rattle.screen_print.proofs.still.Still.lines_unlike.Goals.{then-is_unlike, else-is_unlike}

pub loop-line-preserved : goal.loop-line-preserved
loop-line-preserved c =
    let line = c.loop-line.line in
    let before = c.args.self.now.rows in
    let after = c.screen-screen.result.now.picture.rows in
    record {
      changed = changed_step before after line c.is_unlike.result c.loop-line.unlike.items c.if-is_unlike.unlike.items (omega arith) c.is_unlike.ensures c.loop-line.invariant.changed
          (elim c.if-is_unlike.branch [
            | then-is_unlike w ↦ rw (w.unlike-is, w.if-is_unlike.true) w.push.ensures.items
            | else-is_unlike w ↦ rw (w.unlike-is, w.if-is_unlike.false) (sym (append-nil c.loop-line.unlike.items))
          ]);
      few = elim c.if-is_unlike.branch [
        | then-is_unlike w ↦ rw w.unlike-is (omega (arith, w.push.ensures.len))
        | else-is_unlike w ↦ rw w.unlike-is (omega arith)
      ];
    }

pub returns : goal.returns
returns c =
    let last : c.loop-line.line - 1 ≡ 24 = omega arith in
    let shown = ap (λ (p : Picture). changed_lines c.args.self.now.rows p.rows) c.screen-screen.ensures.value in
    rw last at c.loop-line.invariant.changed ∙ all_changed c.args.self.now.rows c.screen-screen.result.now.picture.rows ∙ shown
