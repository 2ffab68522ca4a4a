use Rattle.std.proofs.Common.{◌++◌, ◌∙◌, ap, drop, sym, take}
use Rattle.std.specs.List.{list_all}
use Rattle.screen_rows.specs.Plain.{is_plain}
use Rattle.screen_cast.proofs.JsonLemmas.{plain_run}
use Rattle.screen_cast.proofs.runs.push_text.Goals as goal

pub returns-then-are_plain-clause-text : goal.returns-then-are_plain-clause-text
returns-then-are_plain-clause-text c =
    let row = c.args.row.now in
    let run = c.args.run in
    let bytes = c.glyphs_of_run-bytes.ensures ∙ ap (λ l. take run.len (drop run.before l)) c.requires.glyphs in
    let plain = ap (list_all is_plain) (sym bytes) ∙ sym c.are_plain.ensures ∙ c.if-are_plain.true in
    let single = sym c.is_single.ensures ∙ c.if-is_single.true in
    c.push_bytes.ensures ∙ ap (λ t. c.args.text.now.items ++ t) (bytes ∙ sym (plain_run row run single plain))
