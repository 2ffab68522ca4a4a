use Rattle.std.proofs.Common.{◌-◌, ◌≤◌, ◌∙◌, ap, arith, inl, inr, length, set, subst, sym}
use Rattle.std.proofs.lemmas.Bool.{cases_eq}
use Rattle.std.proofs.lemmas.List.{length-set}
use Rattle.sheet.specs.Grid.{row_at}
use Rattle.xterm_print.specs.Kept.{Follows}
use Rattle.xterm_print.proofs.KeptLemmas.{row_read, row_set_other, row_set_same}
use Rattle.xterm_print.proofs.moved.catch_up_lines.Goals as goal

pub loop-line-preserved : goal.loop-line-preserved
loop-line-preserved c =
    let line = c.loop-line.line in
    let rows = c.loop-line.rows in
    let columns = c.args.screen.now.picture.columns in
    let after = c.args.screen.now.picture.rows in
    let kept = c.loop-line.invariant in
    let row = c.become_same.new.self in
    let low : 1 ≤ line = omega arith in
    let high : line ≤ length rows = omega (arith, kept.whole, c.requires.rows, c.requires.high) in
    record {
      whole = length-set rows (line - 1) row ∙ kept.whole;
      before = λ k here below. row_set_other rows line k row low here (omega arith) ∙ kept.before k here below;
      caught = λ k here below wide. elim (cases_eq k line) [
        | inl e ↦
            let was = row_read rows line c.index-rows-line.result low high in
            let long = ap length (sym was ∙ kept.behind line (omega arith)) ∙ ap (λ m. length (row_at c.args.rows.now m)) (sym e) ∙ wide ∙ sym c.row.ensures.columns in
            subst (λ m. Follows columns (row_at (set rows (line - 1) row) m) (row_at after m)) (sym e)
            (subst (λ r. Follows columns r (row_at after line)) (sym (row_set_same rows line row low high))
            (subst (λ r. Follows columns row r) c.row.ensures.value (subst (λ w. Follows w row c.row.result.now) c.row.ensures.columns (c.become_same.ensures long))))
        | inr ne ↦
            subst (λ r. Follows columns r (row_at after k)) (sym (row_set_other rows line k row low (omega arith) ne))
            (kept.caught k here (omega (arith, below, ne)) wide)
      ];
      behind = λ k above. row_set_other rows line k row low (omega arith) (omega arith) ∙ kept.behind k (omega arith);
    }
