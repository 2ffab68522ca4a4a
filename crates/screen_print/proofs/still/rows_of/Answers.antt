use Rattle.std.proofs.Common.{◌-◌, arith, ◌∙◌, inl, inr}
use Rattle.std.proofs.lemmas.Bool.{cases_eq}
use Rattle.std.proofs.lemmas.List.{length-set}
use Rattle.screen_print.proofs.RowLemmas.{row_set_same, row_set_other, rows_by_line}
use Rattle.screen_print.proofs.still.rows_of.Goals as goal

pub loop-line-preserved : goal.loop-line-preserved
loop-line-preserved c =
    let rows = c.loop-line.rows in
    let line = c.loop-line.line in
    let row = c.row.result.now in
    record {
      whole = omega (arith, length-set rows (line - 1) row, c.loop-line.invariant.whole);
      copied = λ k low lt. elim (cases_eq k line) [
        | inl e ↦ rw e (row_set_same rows line row (omega arith) (omega (arith, c.loop-line.invariant.whole)) ∙ c.row.ensures.value)
        | inr ne ↦ row_set_other rows line k row (omega arith) low ne ∙ c.loop-line.invariant.copied k low (omega arith)
      ];
    }

pub returns : goal.returns
returns c =
    rows_by_line c.loop-line.rows c.args.screen.now.picture.rows c.loop-line.invariant.whole c.screens_are_sound.ensures.rows
    (λ line low high. c.loop-line.invariant.copied line low (omega arith))
