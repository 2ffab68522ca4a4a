use Rattle.std.proofs.Common.{◌≡◌, ◌+◌, ◌-◌, ◌≤◌, ◌∙◌, Some, ap, arith, get_or, inl, inr, set, subst, sym, true}
use Rattle.std.proofs.lemmas.Bool.{cases_eq}
use Rattle.std.proofs.lemmas.List.{length-set}
use Rattle.sheet.specs.Grid.{row_at}
use Rattle.xterm_print.proofs.KeptLemmas.{row_read}
use Rattle.xterm_page.specs.Entries.{line_of}
use Rattle.xterm_page.specs.Parts.{AreMarked, is_renewed}
use Rattle.xterm_page.specs.Same.{row_number}
use Rattle.xterm_page.proofs.MarkLemmas.{marked_more}
use Rattle.xterm_page.proofs.kept.marked_end.Goals as goal

pub comes_first-requires : goal.comes_first-requires
comes_first-requires c = record {
  low = omega (arith, c.requires.low, c.loop-end.invariant.low);
  high = omega (arith, c.lines.ensures.value, c.loop-end-test.true, c.requires.rows, c.requires.within);
  small = omega (arith, c.loop-end-test.true, c.requires.rows, c.requires.within);
  rows = c.requires.rows;
  some = c.requires.some;
  marked = c.loop-end.invariant.marked;
}

pub loop-end-init : goal.loop-end-init
loop-end-init c = record {
  low = omega arith;
  high = c.requires.high;
  within = λ more. absurd (omega (arith, more));
  long = c.mark_to.array_long;
  marked = λ line low high. c.mark_to.ensures line low (omega (arith, high, c.if-marked-place.false));
  come = λ _ line low high. absurd (omega (arith, low, high));
}

pub loop-end-preserved : goal.loop-end-preserved
loop-end-preserved c =
    let rows = c.args.rows.now in
    let shift = c.args.shift in
    let line = c.loop-end.end in
    let kept = c.loop-end.invariant in
    let first = c.comes_first.ensures in
    let holds = c.if-comes_first.true in
    let place = line - 1 + shift in
    let low : 1 ≤ line = omega (arith, c.requires.low, kept.low) in
    let here : place + 1 ≡ line + shift = omega (arith, low) in
    let next : place + 1 ≡ line + 1 - 1 + shift = omega (arith, low) in
    let row = c.index-rows-end.result in
    let there : place + 1 - 1 ≡ place = omega arith in
    let within : line + shift ≤ c.args.screen.now.picture.lines =
    omega (arith, c.lines.ensures.value, c.loop-end-test.true, c.requires.rows, c.requires.within) in
    let read = row_read rows (place + 1) row (omega arith) (omega (arith, here, within, c.requires.rows)) ∙ ap (λ n. get_or rows n row) there ∙ sym c.index-rows-end.is in
    let number = c.came.invariant.number ∙ ap row_number (c.came.view_is ∙ sym read) in
    record {
      low = omega (arith, kept.low);
      high = omega (arith, within);
      within = λ _. omega (arith, within);
      long = length-set c.loop-end.marks c.mark_of.result true ∙ kept.long;
      marked = subst (λ n. AreMarked rows n (set c.loop-end.marks c.mark_of.result true)) next
          (subst (λ n. AreMarked rows (place + 1) (set c.loop-end.marks n true)) (sym c.mark_of.ensures.value)
          (marked_more rows place c.came.inside.number c.loop-end.marks number kept.long kept.marked));
      come = λ tells k above below. elim (cases_eq line k) [
        | inl e ↦
            let after = c.args.screen.now.picture.rows in (
              ap (λ n. is_renewed c.args.screen.now.origins (row_at rows n) (row_at after n) n) (sym e) ∙ first.renewed tells holds,
              ap (λ n. line_of c.args.screen.now.picture.lines rows (row_at after n)) (sym e) ∙ first.was tells holds ∙ ap (λ n. Some (n + shift)) e,
            )
        | inr ne ↦ kept.come tells k above (omega (arith, below, ne))
      ];
    }
