use Rattle.std.proofs.Common.{◌∙◌, ap, subst}
use Rattle.vt_screen.specs.Cells.{row_at}
use Rattle.vt_screen.specs.Picture.{Picture}
use Rattle.screen_rows.specs.RowText.{row_text}
use Rattle.screen_print.specs.Quiet.{BeginsUpTo}
use Rattle.screen_print.proofs.QuietLemmas.{neither_stays}
use Rattle.screen_print.proofs.quiet.line_stays.Goals as goal

pub returns : goal.returns
returns c = λ told.
    let text = c.args.text.now in
    let line = c.args.line in
    let before = c.args.before.now in
    let after = c.args.after.now.console.picture in
    let shown = c.screen-screen.ensures.value in
    let one = ap (λ wide. row_text wide c.row-row.result.now) c.is_wide-wide.ensures ∙ ap (row_text before.wide) c.row-row.ensures.value in
    let other =
    ap (λ wide. row_text wide c.row-row_after.result.now) (c.is_wide-wide_after.ensures ∙ ap (λ (p : Picture). p.wide) shown)
    ∙ ap (row_text after.wide) (c.row-row_after.ensures.value ∙ ap (λ (p : Picture). row_at p.rows line) shown) in
    neither_stays text (row_text before.wide (row_at before.rows line)) (row_text after.wide (row_at after.rows line)) c.requires.text
    (subst (BeginsUpTo text 0) one (c.may_begin.ensures c.if-may_begin.false text c.requires.start))
    (subst (BeginsUpTo text 0) other (c.may_begin-else-may_begin.ensures c.if-may_begin-2.false text c.requires.start))
