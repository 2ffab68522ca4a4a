use Rattle.std.proofs.Common.{ap, ◌∙◌, subst, sym, length, ◌<◌, arith}
use Rattle.std.specs.List.{flat_map}
use Rattle.std.proofs.lemmas.Bool.Decides.{nat_tests}
use Rattle.std.proofs.lemmas.List.{nil_from_length}
use Rattle.screen_rows.specs.RowText.{printed}
use Rattle.screen_transcript.proofs.RowLemmas.{cells_some, kept_told}
use Rattle.screen_transcript.proofs.rows.is_blank.Goals as goal

pub returns-clause-blank : goal.returns-clause-blank
returns-clause-blank c is =
    let kept = c.trimmed.result.now in
    kept_told c.args.screen.now.picture c.args.line c.is_wide.result c.row.result.now c.cells_to_margin.result.now kept c.is_wide.ensures c.row.ensures.value
    c.cells_to_margin.ensures.cells c.trimmed.ensures
    ∙ ap (flat_map printed) (nil_from_length kept (grind (arith, nat_tests)))

pub returns-clause-inked : goal.returns-clause-inked
returns-clause-inked c is =
    let kept = c.trimmed.result.now in
    subst (λ text. 0 < length text)
    (sym (kept_told c.args.screen.now.picture c.args.line c.is_wide.result c.row.result.now c.cells_to_margin.result.now kept c.is_wide.ensures c.row.ensures.value
    c.cells_to_margin.ensures.cells c.trimmed.ensures))
    (cells_some kept (grind (arith, nat_tests)))
