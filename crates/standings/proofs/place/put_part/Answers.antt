use Rattle.std.proofs.Common.{◌≡◌, ℕ, ◌+◌, ◌-◌, ◌<◌, ◌≤◌, ◌∙◌, ◌++◌, List, ap, arith, drop, false, length, nat_eq, subst, sym, vec_capacity}
use Rattle.std.specs.List.{starts_with}
use Rattle.std.proofs.lemmas.List.{length-append, length-take}
use Rattle.standings.specs.Near.{places_part}
use Rattle.standings.specs.Room.{fitting}
use Rattle.standings.specs.Standing.{begins, line_text}
use Rattle.standings.proofs.RoomLemmas.{fitting_more}
use Rattle.standings.proofs.SpanLemmas.{never_here, none_in_front, part_over}
use Rattle.standings.proofs.place.put_part.Goals as goal

pub loop-from-preserved : goal.loop-from-preserved
loop-from-preserved c =
    let rows = c.args.rows.now in
    let above = c.args.above in
    let text = c.args.text.now in
    let room = vec_capacity c.args.places.now in
    let start = c.args.start in
    let from = c.loop-from.from in
    let next = c.min-next.result in
    let last = next + c.min-in-loop-from.result in
    let line = line_text (drop above rows) in
    let characters = c.characters_below-characters.result.now in
    let same = c.characters_below-characters.ensures in
    let many = length-take c.min.result characters in
    let passed = none_in_front characters text c.min.result from next (omega (arith, many, c.min.ensures, c.min-next.ensures, ap length same, c.requires.within))
    (λ k low lt. c.next_block.ensures.passed k low (omega (arith, lt, c.min-next.ensures))) in
    let none : (i : ℕ) → from ≤ i → i < next → begins text line i ≡ false = λ i low lt.
    never_here text rows above i (omega (arith, lt, c.min-next.ensures, c.requires.within))
    (subst (λ l. (rest : List ℕ) → starts_with nat_eq (drop i l ++ rest) text ≡ false) same (passed i low lt)) in
    let further : from ≤ next = omega (arith, c.next_block.ensures.low, c.min-next.ensures, c.loop-from-test.true) in
    let parts = part_over text above line start from next last c.loop-from.invariant.low further (omega arith) none in
    let so_far = places_part text above line start (from - start) in
    let block = places_part text above line next (last - next) in
    record {
      low = omega (arith, further);
      high = omega (arith, c.min-next.ensures, c.min-in-loop-from.ensures);
      placed = fitting_more room c.args.places.now.items c.loop-from.places.items c.put_block-found.new.places.items so_far block c.loop-from.invariant.placed
          (c.put_block-found.ensures.items ∙ ap (λ r. fitting r c.loop-from.places.items block) c.loop-from.invariant.room)
          ∙ ap (fitting room c.args.places.now.items) (sym parts);
      room = c.put_block-found.ensures.room ∙ c.loop-from.invariant.room;
      count = omega (arith, c.put_block-found.ensures.count, c.loop-from.invariant.count, ap length parts, length-append so_far block);
      few = omega (arith, further, c.put_block-found.ensures.few, c.loop-from.invariant.few, c.loop-from.invariant.low);
    }
