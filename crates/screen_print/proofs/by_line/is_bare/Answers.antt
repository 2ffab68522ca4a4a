use Rattle.std.proofs.Common.{◌∙◌, ap, subst}
use Rattle.screen_rows.specs.RowText.{row_text}
use Rattle.screen_print.specs.Quiet.{BeginsUpTo}
use Rattle.screen_print.proofs.ByLineLemmas.{none_begun}
use Rattle.screen_print.proofs.by_line.is_bare.Goals as goal

pub returns : goal.returns
returns c = λ _ column low within.
    let still = c.args.still.now in
    let text = c.args.sought.now.text.now in
    let none = subst (BeginsUpTo text 0) (ap (λ wide. row_text wide c.row.result.now) c.is_wide.ensures ∙ ap (row_text still.wide) c.row.ensures.value)
    (c.may_begin.ensures c.if-may_begin.false text c.requires.start) in
    none_begun text still c.args.line column c.sound.ensures.whole c.requires.low c.requires.high (λ rest. none rest column low within)
