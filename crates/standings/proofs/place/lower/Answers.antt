use Rattle.std.proofs.Common.{◌<◌, arith, length}
use Rattle.std.proofs.lemmas.List.{get_or_default}
use Rattle.std.proofs.lemmas.List.Edits.{map_over_more}
use Rattle.standings.specs.Moved.{place_down}
use Rattle.standings.specs.Standing.{place_at, place_in}
use Rattle.standings.proofs.place.lower.Goals as goal

pub loop-place-preserved : goal.loop-place-preserved
loop-place-preserved c =
    let at = c.loop-place.place-index in
    let places = c.loop-place.places in
    let place = place_at places at in
    let within : at < length places = omega arith in
    record {
      lowered = rw c.saturating_add-place.ensures (map_over_more place_down c.args.places.now places at place (omega arith) c.loop-place.invariant.lowered (get_or_default places at (place_in 0 0) place within));
    }
