use Rattle.std.proofs.Common.{◌∙◌, ◌≡◌, ap, arith, false, sym}
use Rattle.std.proofs.lemmas.Bool.{eq-eqb}
use Rattle.screen_rows.specs.RowText.{characters}
use Rattle.screen_print.specs.ByLine.{count_above, stands_so}
use Rattle.screen_print.specs.FindLines.{count_left, standing}
use Rattle.screen_print.proofs.ByLineLemmas.{count_all, count_more, count_none, counted, not_lone}
use Rattle.screen_print.proofs.by_line.stands_nowhere.Goals as goal

pub loop-line-init : goal.loop-line-init
loop-line-init c = count_none c.args.sought.now.text.now c.args.still.now (characters c.args.left.now)

pub returns-then-stands_so : goal.returns-then-stands_so
returns-then-stands_so c =
    sym (not_lone c.args.sought.now.text.now c.args.still.now c.loop-line.line (characters c.args.left.now) c.sound.ensures.whole (omega arith) (omega arith)
    (sym c.stands_so.ensures ∙ c.if-stands_so.true))

pub loop-line-preserved : goal.loop-line-preserved
loop-line-preserved c =
    let text = c.args.sought.now.text.now in
    let still = c.args.still.now in
    let left = characters c.args.left.now in
    let line = c.loop-line.line in
    let none = counted (stands_so text still line left) false (sym c.stands_so.ensures ∙ c.if-stands_so.false) in
    omega (arith, none, count_more text still line left (omega arith), c.loop-line.invariant)

pub returns : goal.returns
returns c =
    let text = c.args.sought.now.text.now in
    let still = c.args.still.now in
    let left = characters c.args.left.now in
    let last : c.loop-line.line ≡ 25 = omega arith in
    let all = count_all text still left c.sound.ensures.whole in
    sym (eq-eqb (count_left still (standing text still) left) 0 (sym all ∙ ap (λ n. count_above text still n left) (sym last) ∙ c.loop-line.invariant))
