use Rattle.std.proofs.Common.{◌≡◌, ◌∙◌, ◌<◌, ◌++◌, OnOk, ap, append-nil, arith, length, subst, sym}
use Rattle.std.proofs.lemmas.Bool.{eqb-false, eqb-true}
use Rattle.std.proofs.lemmas.List.{nil_from_length}
use Rattle.standings.specs.Spans.{Stays}
use Rattle.standings.specs.declared.left.Standing.{Standing}
use Rattle.standings.proofs.SpanLemmas.{stays_back, stays_both}
use Rattle.text_find.specs.Lines.{AreStill, IsStill}
use Rattle.text_find.proofs.CalmLemmas.{stays_apart}
use Rattle.text_find.proofs.LineLemmas.{held_still}
use Rattle.text_find.proofs.behind.stand_behind.Goals as goal

pub returns-then-is_empty-clause-steps : goal.returns-then-is_empty-clause-steps
returns-then-is_empty-clause-steps c = λ text screen before last are lags stood.
    let ends = c.args.ends.now in
    let steps = c.args.steps.now in
    let start = ends.before.rows.items in
    let from = steps.sides.after.rows.items in
    let calm = c.args.calm.now in
    let count : length calm ≡ 0 = eqb-true (length calm) 0 (sym c.if-is_empty.ensures) in
    let here : before ≡ before ++ calm = sym (append-nil before) ∙ ap (λ l. before ++ l) (sym (nil_from_length calm count)) in
    let known = c.requires count in
    let first = held_still text (screen before) ends.before known are.before in
    let gap : Stays c.between-span.result steps.sides.before.rows.items start = c.between-span.ensures _ _ _ (omega (arith, c.len.ensures)) lags.before are.lag in
    let reached : Stays c.reach-reached.result steps.sides.before.rows.items from = c.reach-reached.ensures _ _ (omega (arith, c.len-2.ensures)) lags.after in
    let after = subst (λ span. Stays span from start) (sym c.joined-changed.ensures)
    (stays_both c.reach-reached.result c.between-span.result from steps.sides.before.rows.items start (stays_back c.reach-reached.result steps.sides.before.rows.items from reached) gap) in
    let left = c.give_back.new.steps in
    let held = (c.give_back.ensures.ends text (screen before) last are).before in
    let kept = held_still text (screen before) c.give_back.new.ends.before (λ none. known (are.before.places ∙ sym held.places ∙ none)) held in
    let one_before = subst (Stays c.between-span.result left.before.rows.items) (first.rows ∙ sym kept.rows)
    (stays_apart c.between-span.result steps.sides.before.rows.items left.before.rows.items start c.give_back.ensures.before gap) in
    let one_after = subst (λ (still : Standing). Stays c.joined-changed.result still.rows.items (screen before)) (sym c.give_back.ensures.after)
    (subst (Stays c.joined-changed.result from) first.rows after) in
    let one : IsStill text (screen before) c.follow.new.self = record {
      rows = c.in_ok-follow.ensures.rows one_before ∙ kept.rows;
      places = c.in_ok-follow.ensures.places ∙ kept.places;
    } in
    subst (λ b. OnOk c.go_back.result (AreStill text (screen b) c.go_back.new.sides)) here (c.go_back.ensures text (screen before) one one_after)

pub returns-clause-steps : goal.returns-clause-steps
returns-clause-steps c = λ text screen before last are lags stood.
    let calm = c.args.calm.now in
    let steps = c.args.steps.now in
    let some : 0 < length calm = omega (arith, eqb-false (length calm) 0 (sym c.if-is_empty.ensures)) in
    let one = stood some in
    let reached : Stays c.reach-reached.result steps.sides.before.rows.items steps.sides.after.rows.items = c.reach-reached.ensures _ _ (omega (arith, c.len-2.ensures)) lags.after in
    c.go_back-2.ensures text (screen (before ++ calm)) one
    (subst (Stays c.reach-reached.result steps.sides.after.rows.items) one.rows (stays_back c.reach-reached.result steps.sides.before.rows.items steps.sides.after.rows.items reached))
