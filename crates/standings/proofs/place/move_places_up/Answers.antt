use Rattle.std.proofs.Common.{◌≡◌, ◌∙◌, ap, arith, drop, length, map, sym}
use Rattle.std.proofs.lemmas.List.{length-map, take_at}
use Rattle.standings.specs.Moved.{place_up}
use Rattle.standings.proofs.MovedLemmas.{places_up}
use Rattle.standings.proofs.place.move_places_up.Goals as goal

pub returns : goal.returns
returns c = λ text rows was.
    let places = c.as_slice.result.now in
    let left = c.forget.new.places.items in
    let new = c.lift.new.places in
    let gone = c.count_above-gone.result in
    let is : new ≡ map place_up left = c.lift.ensures ∙ ap (map place_up) c.as_mut_slice.ensures.value in
    let many : length new ≡ c.forget.new.places.len = omega (arith, ap length is, length-map left place_up, c.forget.new.places.ok.0) in
    take_at new (drop (length new) left) c.forget.new.places.len many ∙ is
    ∙ places_up text rows places left gone (c.as_slice.ensures.value ∙ was) c.count_above-gone.ensures.within c.count_above-gone.ensures.below c.count_above-gone.ensures.ends
    (c.forget.ensures.items ∙ ap (drop gone) (sym c.as_slice.ensures.value))
