use Rattle.std.proofs.Common.{◌≡◌, ◌+◌, ◌-◌, ◌≤◌, ap, arith, get_or, length, set, subst, sym, true, ◌∙◌}
use Rattle.std.proofs.lemmas.List.{length-set}
use Rattle.xterm_print.proofs.KeptLemmas.{row_read}
use Rattle.xterm_page.specs.Parts.{AreMarked}
use Rattle.xterm_page.specs.Same.{row_number}
use Rattle.xterm_page.proofs.MarkLemmas.{marked_more}
use Rattle.xterm_page.proofs.kept.mark_to.Goals as goal

pub loop-at-preserved : goal.loop-at-preserved
loop-at-preserved c =
    let rows = c.args.rows.now in
    let at = c.loop-at.at in
    let row = c.index-rows-at.result in
    let marks = c.loop-at.marks in
    let kept = c.loop-at.invariant in
    let there : at + 1 - 1 ≡ at = omega arith in
    let within : at + 1 ≤ length rows = omega (arith, c.loop-at-test.true, c.if-rows-place.false) in
    let read = row_read rows (at + 1) row (omega arith) within ∙ ap (λ n. get_or rows n row) there ∙ sym c.index-rows-at.is in
    let number = c.row.invariant.number ∙ ap row_number (c.row.view_is ∙ sym read) in
    record {
      long = length-set marks c.mark_of.result true ∙ kept.long;
      told = subst (λ n. AreMarked rows (at + 1) (set marks n true)) (sym c.mark_of.ensures.value)
          (marked_more rows at c.row.inside.number marks number kept.long kept.told);
    }
