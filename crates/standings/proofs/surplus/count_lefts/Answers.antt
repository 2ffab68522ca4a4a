use Rattle.std.proofs.Common.{◌+◌, ◌∙◌, ap, arith, get_or, refl}
use Rattle.std.proofs.lemmas.List.{take_all}
use Rattle.standings.specs.Less.{for_left}
use Rattle.standings.specs.Standing.{count_left, left_of, place_at}
use Rattle.standings.proofs.LeftLemmas.{front_fits}
use Rattle.standings.proofs.SurplusLemmas.{count_more, count_same}
use Rattle.standings.proofs.surplus.count_lefts.Goals as goal
use Rattle.standings.proofs.surplus.count_lefts.Goals.{in-Some, in_default}

pub loop-place-preserved : goal.loop-place-preserved
loop-place-preserved c =
    let row = c.args.row.now in
    let rows = c.args.rows.now in
    let places = c.args.places.now in
    let counts = c.loop-place.counts in
    let k = c.loop-place.place-index in
    record {
      agree = c.len_left.ensures.agree;
      room = c.match-len_left.auto.counts ∙ c.loop-place.invariant.room;
      counted = λ left begins. elim c.match-len_left.branch [
        | in-Some w ↦
            let here = w.in-Some.ensures.some in
            ap (λ l. for_left l left) w.counts-is
            ∙ count_more row counts rows places k w.in-Some.len (get_or counts w.in-Some.len 0 + 1) left c.loop-place-test.true
            (omega (arith, here.0, front_fits row (left_of rows (place_at places k)) here.1, c.loop-place.invariant.room))
            here.0 here.1 begins refl (c.loop-place.invariant.counted left begins)
        | in_default w ↦
            ap (λ l. for_left l left) w.counts-is
            ∙ count_same row counts rows places k left c.loop-place-test.true (w.in_default.ensures.none refl) begins (c.loop-place.invariant.counted left begins)
      ];
    }

pub returns : goal.returns
returns c = λ left begins.
    c.loop-place.invariant.counted left begins
    ∙ ap (λ l. count_left c.args.rows.now l left) (take_all c.loop-place.place-index c.args.places.now (omega (arith, c.loop-place-test.false)))
