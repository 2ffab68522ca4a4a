use Rattle.std.proofs.Common.{◌≡◌, ◌-◌, ◌∙◌, arith, length, refl}
use Rattle.standings.specs.Moved.{place_down}
use Rattle.standings.proofs.PlaceLemmas.{standing_ordered}
use Rattle.standings.proofs.WithinLemmas.{counted, part_written, places_lowered}
use Rattle.standings.proofs.region.move_down_within.Goals as goal

pub returns : goal.returns
returns c = λ text rows columns ink few within clear ends was.
    let from = c.args.span.from in
    let to = c.args.span.to in
    let places = c.args.places.now.items in
    let kept = c.count_up_to-kept.result in
    let staying = c.count_up_to-staying.result in
    let behind = c.count_up_to-behind.result in
    let ordered = standing_ordered text rows places was in
    let all : length places ≡ c.len.result = omega (arith, c.len.ensures, c.args.places.now.ok.0) in
    let last = counted places c.as_slice.result.now to c.len.result (length places) behind c.as_slice.ensures.value ordered all
    c.count_up_to-behind.ensures.within c.count_up_to-behind.ensures.early c.count_up_to-behind.ensures.late in
    let between = counted places c.as_slice-2.result.now (to - 1) behind behind staying c.as_slice-2.ensures.value ordered refl
    c.count_up_to-staying.ensures.within c.count_up_to-staying.ensures.early c.count_up_to-staying.ensures.late in
    let first = counted places c.as_slice-3.result.now from staying staying kept c.as_slice-3.ensures.value ordered refl
    c.count_up_to-kept.ensures.within c.count_up_to-kept.ensures.early c.count_up_to-kept.ensures.late in
    c.forget.ensures.items
    ∙ places_lowered text rows from to columns places _ kept staying behind ink c.requires within few clear ends was last between first
    (part_written place_down places c.as_mut_slice.result.now c.lower.new.places kept staying c.args.places.now.len c.as_mut_slice.ensures.value
    (omega (arith, c.args.places.now.ok.0)) (omega (arith, between.within, first.within)) (omega (arith, last.within, between.within)) c.lower.ensures)
