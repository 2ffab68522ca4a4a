use Rattle.std.proofs.Common.{◌-◌, sym, ◌∙◌, arith}
use Rattle.tape_check.proofs.HeaderLemmas.{label_behind, label_found, none_at_end, copied_none, copied_some}
use Rattle.tape_check.proofs.header.behind_last.Goals as goal

pub loop-at-init : goal.loop-at-init
loop-at-init c = record { within = omega arith; none = none_at_end c.args.label.now c.args.text.now _ (omega arith) }

pub returns-then-is_some : goal.returns-then-is_some
returns-then-is_some c =
    let l = c.loop-at in
    let found = c.behind_label_at-value in
    label_found c.args.label.now c.args.text.now (l.at - 1) _ (copied_some found.result (sym c.is_some.ensures ∙ c.if-is_some.true))
    (label_behind c.args.label.now c.args.text.now l.at c.loop-at-test.true l.invariant.within l.invariant.none ∙ sym found.ensures)

pub loop-at-preserved : goal.loop-at-preserved
loop-at-preserved c =
    let l = c.loop-at in
    let found = c.behind_label_at-value in record {
      within = omega arith;
      none = label_behind c.args.label.now c.args.text.now l.at c.loop-at-test.true l.invariant.within l.invariant.none
          ∙ sym found.ensures ∙ copied_none found.result (sym c.is_some.ensures ∙ c.if-is_some.false);
    }
