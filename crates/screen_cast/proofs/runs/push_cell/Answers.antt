use Rattle.std.proofs.Common.{[], ◌∷◌, ◌++◌, Bool, ap, not, sym, ◌∙◌}
use Rattle.screen_rows.specs.RowText.{printed}
use Rattle.screen_rows.specs.Texts.{text_where}
use Rattle.screen_cast.specs.Json.{json}
use Rattle.screen_cast.proofs.JsonLemmas.{cell_is, text_behind}
use Rattle.screen_cast.proofs.runs.push_cell.Goals as goal

pub returns-clause-text : goal.returns-clause-text
returns-clause-text c =
    let start = c.args.text.now.items in
    let cell = json (printed c.args.cell) in
    c.push_bytes_where.ensures ∙ text_behind start cell _ _ c.push_glyph.ensures.text
    ∙ ap (λ (b : Bool). start ++ (cell ++ text_where (not b) (32 ∷ []))) c.is_single.ensures
    ∙ ap (λ t. start ++ t) (sym (cell_is c.args.size c.args.cell))
