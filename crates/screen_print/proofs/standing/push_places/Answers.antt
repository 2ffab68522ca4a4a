use Rattle.std.proofs.Common.{◌++◌, ◌∙◌, ap, append-nil, subst, sym}
use Rattle.screen_rows.specs.RowText.{row_text}
use Rattle.screen_print.specs.Quiet.{BeginsUpTo}
use Rattle.screen_print.proofs.QuietLemmas.{none_placed}
use Rattle.screen_print.proofs.standing.push_places.Goals as goal

pub returns-else-may_begin-clause-places : goal.returns-else-may_begin-clause-places
returns-else-may_begin-clause-places c =
    let still = c.args.still.now in
    let text = c.args.text.now in
    let none = subst (BeginsUpTo text 0) (ap (λ wide. row_text wide c.row.result.now) c.is_wide.ensures ∙ ap (row_text still.wide) c.row.ensures.value)
    (c.may_begin.ensures c.if-may_begin.false text c.requires.start) in
    sym (ap (λ more. c.args.places.now.items ++ more) (none_placed text still c.args.line c.sound.ensures.whole c.requires.low c.requires.high none)
    ∙ append-nil c.args.places.now.items)
