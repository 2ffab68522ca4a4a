use Rattle.std.proofs.Common.{◌+◌, ◌-◌, ◌++◌, ◌∙◌, List, ap, arith, drop, length, take}
use Rattle.std.specs.List.{flat_map}
use Rattle.std.proofs.lemmas.List.{length-drop, take_all}
use Rattle.sheet.specs.Cells.{Cell}
use Rattle.xterm_rows.specs.RowText.{characters}
use Rattle.xterm_print.specs.FindRows.{columns_from}
use Rattle.xterm_print.proofs.FindRowLemmas.{columns_on}
use Rattle.xterm_print.proofs.PlainLemmas.{first_on, rest_whole}
use Rattle.xterm_print.proofs.find_rows.push_cells.Goals as goal

pub loop-at-preserved : goal.loop-at-preserved
loop-at-preserved c =
    let cells = c.args.cells.now in
    let at = c.loop-at.at in
    let kept = c.loop-at.invariant in
    let count = c.in_ok-at.field-0 in
    record {
      high = omega (arith, c.in_ok-at.ensures.few, ap (λ (l : List Cell). length l) (rest_whole cells at), length-drop at cells, c.loop-at-test.true);
      characters = c.in_ok-at.ensures.characters
          ∙ ap (λ l. l ++ flat_map characters (take count (take (length cells - at) (drop at cells)))) kept.characters
          ∙ first_on characters cells at count;
      columns = c.in_ok-at.ensures.columns
          ∙ ap (λ l. l ++ columns_from (at + 1) (take count (take (length cells - at) (drop at cells)))) kept.columns
          ∙ columns_on cells at count kept.high;
      runs_on = c.in_ok-at.ensures.runs_on ∙ kept.runs_on;
    }

pub returns-clause-characters : goal.returns-clause-characters
returns-clause-characters c =
    c.loop-at.invariant.characters ∙ ap (flat_map characters) (take_all c.loop-at.at c.args.cells.now (omega (arith, c.loop-at-test.false)))

pub returns-clause-columns : goal.returns-clause-columns
returns-clause-columns c =
    c.loop-at.invariant.columns ∙ ap (columns_from 1) (take_all c.loop-at.at c.args.cells.now (omega (arith, c.loop-at-test.false)))
