use Rattle.std.proofs.Common.{◌≡◌, ◌+◌, ◌∙◌, arith, length, refl}
use Rattle.standings.specs.Moved.{place_up}
use Rattle.standings.proofs.PlaceLemmas.{standing_ordered}
use Rattle.standings.proofs.WithinLemmas.{counted, part_written, places_raised}
use Rattle.standings.proofs.region.move_up_within.Goals as goal

pub returns : goal.returns
returns c = λ text rows columns ink within clear ends was.
    let from = c.args.span.from in
    let to = c.args.span.to in
    let places = c.args.places.now.items in
    let kept = c.count_up_to-kept.result in
    let gone = c.count_up_to-gone.result in
    let behind = c.count_up_to-behind.result in
    let ordered = standing_ordered text rows places was in
    let all : length places ≡ c.len.result = omega (arith, c.len.ensures, c.args.places.now.ok.0) in
    let last = counted places c.as_slice.result.now to c.len.result (length places) behind c.as_slice.ensures.value ordered all
    c.count_up_to-behind.ensures.within c.count_up_to-behind.ensures.early c.count_up_to-behind.ensures.late in
    let between = counted places c.as_slice-2.result.now (from + 1) behind behind gone c.as_slice-2.ensures.value ordered refl
    c.count_up_to-gone.ensures.within c.count_up_to-gone.ensures.early c.count_up_to-gone.ensures.late in
    let first = counted places c.as_slice-3.result.now from gone gone kept c.as_slice-3.ensures.value ordered refl
    c.count_up_to-kept.ensures.within c.count_up_to-kept.ensures.early c.count_up_to-kept.ensures.late in
    c.forget.ensures.items
    ∙ places_raised text rows from to columns places _ kept gone behind ink c.requires within clear ends was last between first
    (part_written place_up places c.as_mut_slice.result.now c.lift.new.places gone behind c.args.places.now.len c.as_mut_slice.ensures.value
    (omega (arith, c.args.places.now.ok.0)) (omega (arith, between.within, first.within)) (omega (arith, last.within, between.within)) c.lift.ensures)
