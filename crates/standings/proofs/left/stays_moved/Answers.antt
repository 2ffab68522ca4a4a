use Rattle.std.proofs.Common.{◌≡◌, ◌∙◌, ◌≤◌, ap, arith, sym}
use Rattle.std.proofs.lemmas.Bool.Decides.{nat_tests}
use Rattle.std.proofs.lemmas.List.{get_or_default}
use Rattle.standings.specs.Standing.{place_at, place_in}
use Rattle.standings.specs.declared.place.Place.{Place}
use Rattle.standings.proofs.StayLemmas.{up_keeps}
use Rattle.standings.proofs.left.stays_moved.Goals as goal

pub returns-else-is_empty-clause-keeps : goal.returns-else-is_empty-clause-keeps
returns-else-is_empty-clause-keeps c = λ told text columns some was.
    let rows = c.args.still.now.rows.items in
    let places = c.args.still.now.places.items in
    up_keeps text columns rows places some was (λ lt.
    let below : 1 ≤ c.index.result.now.above = grind (arith, nat_tests, told) in
    let first : place_at places 0 ≡ c.index.result.now = get_or_default places 0 (place_in 0 0) c.index.result.now lt ∙ sym c.index.ensures in
    omega (arith, below, ap (λ (place : Place). place.above) first))
