use Rattle.std.proofs.Common.{◌+◌, ◌≡◌, ◌∙◌, [], ap, arith, nat_eq, subst, sym, take}
use Rattle.std.specs.Cmp.Lexicographic.{pointwise}
use Rattle.std.proofs.lemmas.Bool.{not-false}
use Rattle.standings.specs.Less.{PairOff}
use Rattle.standings.specs.Rows.{row_below}
use Rattle.standings.specs.Standing.{left_of, place_at}
use Rattle.standings.proofs.LeftLemmas.{same_left}
use Rattle.standings.proofs.PairLemmas.{pair_more, pair_none, same_place}
use Rattle.standings.proofs.alone.count_in_row.Goals as goal

pub loop-count-init : goal.loop-count-init
loop-count-init c =
    let one = c.args.one.now in
    let other = c.args.other.now in
    let places = c.args.places.now in
    let others = c.args.others.now in
    let same : c.characters_below.result.now ≡ c.characters_below-2.result.now =
    same_left c.characters_below.result.now c.characters_below-2.result.now
    (not-false (pointwise nat_eq c.characters_below.result.now c.characters_below-2.result.now) (sym c.ne.ensures ∙ c.if-ne.false)) in
    record {
      few = omega (arith, c.requires.some, c.requires.there);
      pairs = pair_more one other places others 0 0 0 [] [] c.requires.some c.requires.there
          (same_place one other (place_at places 0) (place_at others 0) (sym c.characters_below.ensures ∙ same ∙ c.characters_below-2.ensures) c.if-places-others.false)
          (pair_none one other places others 0 0);
    }

pub loop-count-preserved : goal.loop-count-preserved
loop-count-preserved c =
    let one = c.args.one.now in
    let other = c.args.other.now in
    let places = c.args.places.now in
    let others = c.args.others.now in
    let k = c.loop-count.count in
    let from : 0 + k ≡ k = omega arith in
    let next : 0 + (k + 1) ≡ k + 1 = omega arith in
    let alike = c.are_alike.ensures c.if-are_alike.true in
    let same : c.characters_below.result.now ≡ c.characters_below-2.result.now =
    same_left c.characters_below.result.now c.characters_below-2.result.now
    (not-false (pointwise nat_eq c.characters_below.result.now c.characters_below-2.result.now) (sym c.ne.ensures ∙ c.if-ne.false)) in
    let mates : left_of one (place_at places k) ≡ left_of other (place_at others k) =
    same_place one other (place_at places k) (place_at others k)
    (ap (λ i. (row_below one i).characters) alike.0 ∙ sym c.characters_below.ensures ∙ same ∙ c.characters_below-2.ensures
    ∙ ap (λ i. (row_below other i).characters) (sym alike.1))
    alike.2 in
    record {
      few = omega (arith, c.loop-count-test.true);
      pairs = subst (λ j. PairOff one (take j places) other (take j others) [] []) next
          (pair_more one other places others 0 0 k [] [] (omega (arith, c.loop-count-test.true)) (omega (arith, c.loop-count-test.true))
          (subst (λ j. left_of one (place_at places j) ≡ left_of other (place_at others j)) (sym from) mates)
          (subst (λ j. PairOff one (take j places) other (take j others) [] []) (sym from) c.loop-count.invariant.pairs));
    }
