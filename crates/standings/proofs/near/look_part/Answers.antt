use Rattle.std.proofs.Common.{◌+◌, ◌-◌, ◌≤◌, ◌++◌, ◌∙◌, ap, append_assoc, arith, drop, length, subst, sym, take, vec_capacity}
use Rattle.std.proofs.lemmas.List.{length-append, take_at}
use Rattle.standings.specs.Near.{IsOrdered, places_part}
use Rattle.standings.specs.Standing.{line_text}
use Rattle.standings.proofs.NearLemmas.{cut_end, cut_start}
use Rattle.standings.proofs.PlaceLemmas.{ordered_take, put_again}
use Rattle.standings.proofs.RoomLemmas.{fitting_all}
use Rattle.standings.proofs.near.look_part.Goals as goal

pub returns : goal.returns
returns c = λ front middle rest ordered split cut.
    let above = c.args.above in
    let start = c.args.start in
    let end = c.args.end in
    let kept = c.count_early-kept.result in
    let behind = c.count_early-behind.result in
    let same = c.as_slice.ensures.value ∙ split in
    let further = cut_end above start end behind front middle rest c.as_slice.result.now cut c.requires.order same
    c.count_early-behind.ensures.within c.count_early-behind.ensures.early (c.count_early-behind.ensures.late (subst IsOrdered (sym c.as_slice.ensures.value) ordered)) in
    let first = cut_start above start end kept front middle rest (take behind c.as_slice-2.result.now) cut
    (ap (take behind) (c.as_slice-2.ensures.value ∙ split ∙ sym (append_assoc front middle rest)) ∙ take_at (front ++ middle) rest behind (sym further))
    c.count_early-kept.ensures.within c.count_early-kept.ensures.early
    (c.count_early-kept.ensures.late (ordered_take c.as_slice-2.result.now behind (subst IsOrdered (sym c.as_slice-2.ensures.value) ordered))) in
    let room : length c.forget.new.places.items + length (places_part c.args.text.now above (line_text (drop above c.args.rows.now)) start (end - start)) ≤ vec_capacity c.forget.new.places =
    omega (
      arith,
      c.requires.room,
      ap length split,
      length-append front (middle ++ rest),
      length-append middle rest,
      length-append front middle,
      first,
      further,
      c.forget.ensures.count,
      c.forget.ensures.room,
      c.put_part.ensures.count,
      c.put_part.ensures.few,
    ) in
    put_again front middle rest (places_part c.args.text.now above (line_text (drop above c.args.rows.now)) start (end - start)) c.args.places.now.items
    c.forget.new.places.items c.put_part.new.places.items c.turn.new.places.items kept behind (c.len.result - kept) split first further c.forget.ensures.items
    (omega (arith, c.len.ensures)) (c.put_part.ensures.items
    ∙ fitting_all (vec_capacity c.forget.new.places) c.forget.new.places.items (places_part c.args.text.now above (line_text (drop above c.args.rows.now)) start (end - start)) room) c.turn.ensures
