use Rattle.std.proofs.Common.{◌-◌, ◌∙◌, ap, sym, inl, inr, arith}
use Rattle.std.proofs.lemmas.Bool.{cases_lt}
use Rattle.std.proofs.lemmas.List.{get_or_default, get_or_past}
use Rattle.vt_screen.specs.Cells.{blank}
use Rattle.vt_screen.specs.Table.{nth}
use Rattle.vt_screen.proofs.Tables.{nth_is, nth_next}
use Rattle.vt_screen.proofs.screen.packed.used.Goals.{then-not-is_blank, else-not-is_blank}
use Rattle.vt_screen.proofs.screen.packed.used.Goals as goal

pub loop-column-preserved : goal.loop-column-preserved
loop-column-preserved c =
    let cells = c.args.row.now.cells in
    let at = c.loop-column.column in
    let kept = c.loop-column.invariant in
    elim c.if-not-is_blank.branch [
      | then-not-is_blank w ↦ record {
        within = omega (arith, w.used-is);
        blank = λ k more up. absurd (omega (arith, w.used-is, more, up));
      }
      | else-not-is_blank w ↦ record {
        within = omega (arith, w.used-is, kept.within);
        blank = λ k more up. elim (cases_lt at k) [
          | inl here ↦
              let cell = c.index-row-column.result in
              ap (nth blank cells) (omega (arith, here, up)) ∙ nth_next blank cells at
              ∙ sym (get_or_default cells at cell blank (omega (arith, c.requires, c.loop-column-test.true)))
              ∙ c.is_blank.ensures w.if-not-is_blank.false
          | inr before ↦ kept.blank k (omega (arith, w.used-is, more)) before
        ];
      }
    ]

pub returns : goal.returns
returns c =
    let cells = c.args.row.now.cells in
    let kept = c.loop-column.invariant in
    record {
      within = omega (arith, kept.within, c.loop-column.auto.column-end);
      tail = λ k more. elim (cases_lt 132 k) [
        | inl past ↦ nth_is blank cells k ∙ get_or_past cells (k - 1) blank (omega (arith, c.requires, past))
        | inr in_row ↦ kept.blank k more (omega (arith, in_row, c.loop-column-test.false))
      ];
    }
