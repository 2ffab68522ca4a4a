use Rattle.std.proofs.Common.{◌++◌, ◌-◌, ◌∙◌, ap, arith, drop, length, nat_eq, sym}
use Rattle.std.specs.List.{starts_with}
use Rattle.std.proofs.lemmas.List.{length-drop, take_all}
use Rattle.screen_rows.specs.RowText.{characters}
use Rattle.screen_print.proofs.QuietLemmas.{begins_no_more}
use Rattle.screen_print.proofs.quiet.may_begin_between.Goals as goal

pub loop-at-preserved : goal.loop-at-preserved
loop-at-preserved c =
    let text = c.args.text.now in
    let cells = c.args.cells.now in
    let at = c.loop-at.at in
    begins_no_more text cells at c.args.behind (omega (arith, c.loop-at-test.true, c.requires))
    (λ rest. ap (λ l. starts_with nat_eq (characters l ++ rest) text) (sym (take_all (length cells - at) (drop at cells) (omega (arith, length-drop at cells))))
    ∙ c.agrees.ensures.no c.if-agrees.false rest)
    c.loop-at.invariant
