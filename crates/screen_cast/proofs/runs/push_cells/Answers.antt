use Rattle.std.proofs.Common.{◌++◌, ap, arith, get_or, sym, take, ◌∙◌}
use Rattle.std.specs.List.{flat_map}
use Rattle.std.proofs.lemmas.List.{take_more}
use Rattle.screen_cast.specs.Drawn.{cell_text}
use Rattle.screen_cast.specs.Json.{json}
use Rattle.screen_cast.proofs.JsonLemmas.{cells_more, no_cells, text_behind}
use Rattle.screen_cast.proofs.runs.push_cells.Goals as goal

pub loop-cell-init : goal.loop-cell-init
loop-cell-init c = record { laid = no_cells c.args.text.now.items; short = omega arith }

pub loop-cell-preserved : goal.loop-cell-preserved
loop-cell-preserved c =
    let start = c.args.text.now.items in
    let cells = c.args.cells.now in
    let size = c.args.size in
    let at = c.loop-cell.cell-index in
    let cell = get_or cells at c.cell-item.result in
    let more = take_more cells at c.cell-item.result c.loop-cell-test.true in
    record {
      laid = c.push_cell.ensures.text ∙ text_behind start _ _ _ c.loop-cell.invariant.laid
          ∙ ap (λ x. start ++ (json (flat_map (cell_text size) (take at cells)) ++ json (cell_text size x))) c.cell-item.is
          ∙ ap (λ t. start ++ t) (sym (ap (λ l. json (flat_map (cell_text size) l)) more ∙ cells_more size (take at cells) cell));
      short = omega (arith, c.push_cell.ensures.short, c.loop-cell.invariant.short);
    }
