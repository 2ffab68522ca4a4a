use Rattle.std.proofs.Common.{◌-◌, ◌*◌, ◌∙◌, ap, arith, get_or, length, refl, sym}
use Rattle.std.proofs.lemmas.List.{take_all}
use Rattle.standings.specs.Less.{for_left}
use Rattle.standings.specs.Standing.{count_left, left_of, place_at}
use Rattle.standings.proofs.LeftLemmas.{front_fits}
use Rattle.standings.proofs.SurplusLemmas.{none_off, none_still, take_more_off, take_spent_off}
use Rattle.standings.proofs.surplus.take_off.Goals as goal
use Rattle.standings.proofs.surplus.take_off.Goals.{in-Some, in_default}

pub loop-place-preserved : goal.loop-place-preserved
loop-place-preserved c =
    let row = c.args.row.now in
    let rows = c.args.rows.now in
    let places = c.args.places.now in
    let counts = c.loop-place.counts in
    let was = c.args.counts.now in
    let k = c.loop-place.place-index in
    record {
      agree = c.len_from.ensures.agree;
      none = λ m lt. elim c.match-len_from.branch [
        | in-Some w ↦ ap (λ l. get_or l m 0) w.counts-is ∙ none_still counts c.args.least w.in-Some.len w.saturating_sub.result m c.loop-place.invariant.none w.in-Some.ensures.more lt
        | in_default w ↦ ap (λ l. get_or l m 0) w.counts-is ∙ c.loop-place.invariant.none m lt
      ];
      left = λ left begins. elim c.match-len_from.branch [
        | in-Some w ↦
            let here = w.in-Some.ensures.some in
            ap (λ l. for_left l left) w.counts-is
            ∙ take_more_off row counts was rows places c.args.each k w.in-Some.len w.saturating_sub.result left c.loop-place-test.true
            (omega (arith, here.0, front_fits row (left_of rows (place_at places k)) here.1, c.requires.many, c.loop-place.auto.counts))
            here.0 here.1 begins w.saturating_sub.ensures (c.loop-place.invariant.left left begins)
        | in_default w ↦
            ap (λ l. for_left l left) w.counts-is
            ∙ take_spent_off row counts was rows places c.args.each k left c.loop-place-test.true
            (w.in_default.ensures.none refl) begins (c.loop-place.invariant.left left begins)
      ];
      spent = elim c.match-len_from.branch [
        | in-Some w ↦ λ is k. ap (λ l. get_or l k 0) w.counts-is ∙ w.is_spent_by-spent.ensures (sym w.spent-is ∙ is) k
        | in_default w ↦ λ is k. ap (λ l. get_or l k 0) w.counts-is ∙ c.loop-place.invariant.spent (sym w.spent-is ∙ is) k
      ];
    }

pub returns-then-spent : goal.returns-then-spent
returns-then-spent c = λ left begins.
    none_off c.args.rows.now c.args.places.now c.args.each c.loop-place.place-index (for_left c.args.counts.now left) (for_left c.loop-place.counts left) left
    (c.loop-place.invariant.spent c.if-spent.true (length left)) (c.loop-place.invariant.left left begins)

pub returns : goal.returns
returns c = λ left begins.
    c.loop-place.invariant.left left begins
    ∙ ap (λ l. for_left c.args.counts.now left - c.args.each * count_left c.args.rows.now l left) (take_all c.loop-place.place-index c.args.places.now (omega (arith, c.loop-place-test.false)))
