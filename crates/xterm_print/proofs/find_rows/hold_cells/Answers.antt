use Rattle.std.proofs.Common.{◌+◌, ◌++◌, ◌∙◌, ap, arith, map, sym, take}
use Rattle.std.specs.List.{flat_map}
use Rattle.std.proofs.lemmas.List.{take_all}
use Rattle.xterm_rows.specs.RowText.{characters}
use Rattle.xterm_print.specs.FindRows.{columns_from}
use Rattle.xterm_print.proofs.FindRowLemmas.{characters_more, columns_more}
use Rattle.xterm_print.proofs.find_rows.hold_cells.Goals as goal

pub loop-at-preserved : goal.loop-at-preserved
loop-at-preserved c =
    let cells = c.args.cells.now in
    let column = c.args.column in
    let at = c.loop-at.at in
    let cell = c.index-cells-at.result in
    let kept = c.loop-at.invariant in
    record {
      letters = c.hold_cell.ensures.letters ∙ ap (λ l. l ++ characters cell) kept.letters
          ∙ ap (λ x. flat_map characters (take at cells) ++ characters x) c.index-cells-at.is
          ∙ sym (characters_more cells at cell (omega arith));
      columns = c.hold_cell.ensures.columns ∙ ap (λ l. l ++ map (λ _. column + at) (characters cell)) kept.columns
          ∙ ap (λ x. columns_from column (take at cells) ++ map (λ _. column + at) (characters x)) c.index-cells-at.is
          ∙ sym (columns_more column cells at cell (omega arith));
      few_letters = omega (arith, c.hold_cell.ensures.few_letters, kept.few_letters);
      few_columns = omega (arith, c.hold_cell.ensures.few_columns, kept.few_columns);
    }

pub returns-clause-letters : goal.returns-clause-letters
returns-clause-letters c =
    c.loop-at.invariant.letters ∙ ap (flat_map characters) (take_all c.loop-at.at c.args.cells.now (omega (arith, c.loop-at-test.false)))

pub returns-clause-columns : goal.returns-clause-columns
returns-clause-columns c =
    c.loop-at.invariant.columns ∙ ap (columns_from c.args.column) (take_all c.loop-at.at c.args.cells.now (omega (arith, c.loop-at-test.false)))
