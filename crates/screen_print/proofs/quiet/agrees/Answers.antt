use Rattle.std.proofs.Common.{◌∙◌, arith, sym}
use Rattle.screen_print.proofs.QuietLemmas.{agrees_all, agrees_front, agrees_more, differs_at}
use Rattle.screen_print.proofs.quiet.agrees.Goals as goal

pub returns-then-character-text-clause-no : goal.returns-then-character-text-clause-no
returns-then-character-text-clause-no c = λ told rest.
    differs_at c.args.text.now c.args.cells.now rest c.loop-at.at c.index-cells-at.result c.index-text-at.result (omega arith) (omega arith)
    (λ h. c.if-character-text.true (c.character.ensures.value ∙ h ∙ sym c.index-text-at.is))

pub loop-at-preserved : goal.loop-at-preserved
loop-at-preserved c =
    agrees_more c.args.text.now c.args.cells.now c.loop-at.at c.index-cells-at.result c.index-text-at.result (omega arith) (omega arith)
    (sym c.character.ensures.value ∙ c.if-character-text.false ∙ c.index-text-at.is) c.loop-at.invariant

pub returns-clause-yes : goal.returns-clause-yes
returns-clause-yes c = λ told fits rest. agrees_all c.args.text.now c.args.cells.now rest c.loop-at.at fits (omega arith) c.loop-at.invariant

pub returns-clause-front : goal.returns-clause-front
returns-clause-front c = λ told fits. agrees_front c.args.text.now c.args.cells.now c.loop-at.at fits (omega arith) c.loop-at.invariant
