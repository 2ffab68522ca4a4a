use Rattle.std.proofs.Common.{◌≡◌, ◌+◌, ◌<◌, ◌≤◌, arith, length, subst, sym, take}
use Rattle.std.proofs.lemmas.Bool.{eqb-true}
use Rattle.std.proofs.lemmas.List.{take_all}
use Rattle.standings.specs.Standing.{count_left}
use Rattle.standings.proofs.CountLemmas.{count_rest}
use Rattle.standings.proofs.PairLemmas.{kept_more, kept_past}
use Rattle.standings.proofs.alone.keeps_all.Goals as goal
use Rattle.standings.proofs.alone.keeps_all.Goals.{then-are_same, else-are_same}

pub loop-kept-preserved : goal.loop-kept-preserved
loop-kept-preserved c =
    let rows = c.args.rows.now in
    let others = c.args.others.now in
    let places = c.args.places.now in
    let mates = c.args.mates.now in
    let kept = c.loop-kept.kept in
    let at = c.loop-kept.at in
    let lt : kept < length places = omega (arith, c.loop-kept-test.true) in
    let lt' : at < length mates = omega (arith, lt, c.if-places-kept.true) in
    record {
      within = elim c.if-are_same.branch [ then-are_same w ↦ omega (arith, lt, w.kept-is) | else-are_same w ↦ omega (arith, lt, w.kept-is) ];
      there = omega (arith, lt');
      agree = c.are_same.ensures.agree;
      counts = λ left. elim c.if-are_same.branch [
        | then-are_same w ↦
            subst (λ k. count_left rows (take k places) left ≤ count_left others (take (at + 1) mates) left) (sym w.kept-is)
            (kept_more rows others places mates kept at left lt lt' (c.are_same.ensures.same w.if-are_same.true) (c.loop-kept.invariant.counts left))
        | else-are_same w ↦
            subst (λ k. count_left rows (take k places) left ≤ count_left others (take (at + 1) mates) left) (sym w.kept-is)
            (kept_past rows others places mates kept at left lt' (c.loop-kept.invariant.counts left))
      ];
    }

pub returns : goal.returns
returns c = λ told left.
    let kept = c.loop-kept.kept in
    let last : kept ≡ length c.args.places.now = eqb-true kept (length c.args.places.now) told in
    subst (λ l. count_left c.args.rows.now l left ≤ count_left c.args.others.now c.args.mates.now left) (take_all kept c.args.places.now (omega (arith, last)))
    (omega (arith, c.loop-kept.invariant.counts left, count_rest c.args.others.now c.args.mates.now c.loop-kept.at left))
