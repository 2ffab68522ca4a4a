use Rattle.std.proofs.Common.{◌++◌, ◌∙◌, ap, sym}
use Rattle.std.specs.List.{flat_map}
use Rattle.std.proofs.lemmas.List.Concat.{flat_map-append}
use Rattle.screen_print.specs.EscapedText.{rendition_set_text}
use Rattle.screen_rows.specs.Runs.{cells_of}
use Rattle.screen_cast.specs.Drawn.{attributes_in, cell_text}
use Rattle.screen_cast.specs.Json.{json, json_byte}
use Rattle.screen_cast.proofs.JsonLemmas.{text_behind}
use Rattle.screen_cast.proofs.runs.push_run.Goals as goal

pub returns-clause-text : goal.returns-clause-text
unfolding json
returns-clause-text c =
    let row = c.args.row.now in
    let run = c.args.run in
    let start = c.args.text.now.items in
    let pen = rendition_set_text (attributes_in c.args.reversed run.kind) in
    let cells = flat_map (cell_text row.size) (cells_of row run) in
    c.push_text.ensures.text ∙ text_behind start (json pen) (json cells) _ c.push_rendition.ensures.text
    ∙ ap (λ t. start ++ t) (sym (flat_map-append json_byte pen cells))
