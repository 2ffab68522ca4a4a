use Rattle.std.proofs.Common.{◌≡◌, ◌+◌, ◌-◌, ◌++◌, ◌∙◌, ap, arith, length, sym, vec_capacity}
use Rattle.std.proofs.lemmas.List.{length-append}
use Rattle.standings.specs.Room.{fitting}
use Rattle.standings.specs.Spans.{places_along}
use Rattle.standings.proofs.SpanLemmas.{places_of}
use Rattle.standings.proofs.PlaceLemmas.{along_more}
use Rattle.standings.proofs.RoomLemmas.{fitting_more}
use Rattle.standings.proofs.place.put_between.Goals as goal

pub loop-above-preserved : goal.loop-above-preserved
loop-above-preserved c =
    let text = c.args.text.now in
    let rows = c.args.rows.now in
    let start = c.args.start in
    let above = c.loop-above.above in
    let room = vec_capacity c.args.places.now in
    let n = above - start in
    let here : start + n ≡ above = omega arith in
    let more : above + 1 - start ≡ n + 1 = omega arith in
    let so_far = places_along text rows start n in
    let row = places_of text rows above in
    let parts : places_along text rows start (above + 1 - start) ≡ so_far ++ row =
    ap (places_along text rows start) more ∙ along_more text rows start n ∙ ap (λ k. so_far ++ places_of text rows k) here in
    record {
      placed = fitting_more room c.args.places.now.items c.loop-above.places.items c.put_places.new.places.items so_far row c.loop-above.invariant.placed
          (c.put_places.ensures.items ∙ ap (λ r. fitting r c.loop-above.places.items row) c.loop-above.invariant.room)
          ∙ ap (fitting room c.args.places.now.items) (sym parts);
      room = c.put_places.ensures.room ∙ c.loop-above.invariant.room;
      count = λ lt.
          omega (
            arith,
            lt,
            c.saturating_add-found.ensures,
            c.put_places.ensures.count,
            c.loop-above.invariant.count (omega (arith, lt, c.saturating_add-found.ensures)),
            ap length parts,
            length-append so_far row,
          );
    }
