use Rattle.std.proofs.Common.{◌+◌, ◌-◌, ◌≤◌, ap, arith, drop, subst, sym, ◌∙◌}
use Rattle.std.proofs.lemmas.List.{length-drop, length-take}
use Rattle.sheet.specs.Grid.{IsUsed, row_at}
use Rattle.xterm_screen.specs.Picture.{Picture}
use Rattle.xterm_term.specs.Console.{Console}
use Rattle.xterm_print.specs.Erased.{IsErasable}
use Rattle.xterm_print.specs.Pieces.{IsPlain}
use Rattle.xterm_print.proofs.ErasedLemmas.{blank_behind, erasable_at}
use Rattle.xterm_print.proofs.PieceLemmas.{cell_within}
use Rattle.xterm_print.proofs.erased.in_use.Goals as goal

pub returns-clause-erasable : goal.returns-clause-erasable
returns-clause-erasable c = λ x shows.
    let p : Picture = c.screen-screen.result.now.picture in
    let row = c.row-cells.result.now in
    let before = c.cursor-line.result.1 - 1 in
    let end = c.max-end.result in
    let low : before ≤ end = omega (arith, c.max-end.ensures) in
    let used : c.used.result ≤ before + (end - before) = omega (arith, c.max-end.ensures) in
    let is : IsErasable row before (end - before) = record {
      whole = c.row-cells.ensures.whole;
      room = omega (arith, low, c.if-end-cells.false);
      plain = λ k lt. subst IsPlain (cell_within row before (end - before) k lt) (c.are_plain.ensures c.if-not-are_plain.false k (omega (arith, lt, low, c.if-end-cells.false, length-take (end - before) (drop before row), length-drop before row)));
      tail = blank_behind row c.used.result (before + (end - before)) (subst (λ r. IsUsed r c.used.result) (sym c.row-cells.ensures.value) c.used.ensures) used;
    } in
    erasable_at p x.console.picture row before (end - before)
    (c.screen-screen.ensures.value ∙ sym (ap (λ (s : Console). s.picture) shows.console))
    (c.row-cells.ensures.value ∙ ap (row_at p.rows) c.cursor-line.ensures.line)
    (ap (λ n. n - 1) c.cursor-line.ensures.column) c.row-cells.ensures.columns is
