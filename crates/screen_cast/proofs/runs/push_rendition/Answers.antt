use Rattle.std.proofs.Common.{◌++◌, ap, ◌∙◌}
use Rattle.screen_cast.specs.Drawn.{attributes_in}
use Rattle.screen_cast.proofs.JsonLemmas.{rendition_is, rendition_parts, text_behind}
use Rattle.screen_cast.proofs.runs.push_rendition.Goals as goal

pub returns-clause-text : goal.returns-clause-text
returns-clause-text c =
    let kind = c.args.kind in
    let start = c.args.text.now.items in
    let first = c.push_bytes_where.ensures ∙ text_behind start _ _ _ c.push_bytes.ensures in
    let second = c.push_bytes_where-2.ensures ∙ text_behind start _ _ _ first in
    let third = c.push_bytes_where-3.ensures ∙ text_behind start _ _ _ second in
    let fourth = c.push_bytes_where-4.ensures ∙ text_behind start _ _ _ third in
    c.push.ensures.items ∙ text_behind start _ _ _ fourth
    ∙ ap (λ t. start ++ t)
    (ap (rendition_parts kind.bold kind.underscore kind.blink) c.is_either.ensures ∙ rendition_is (attributes_in c.args.reversed kind))
