use Rattle.std.proofs.Common.{◌≡◌, ◌+◌, ◌-◌, ◌++◌, ◌∷◌, ◌∙◌, ◌≤◌, [], ap, arith, cond, drop, length, sym, vec_capacity}
use Rattle.std.proofs.lemmas.List.{length-append}
use Rattle.standings.specs.Near.{places_part}
use Rattle.standings.specs.Room.{fitting}
use Rattle.standings.specs.Standing.{begins, line_text, place_in}
use Rattle.standings.proofs.RoomLemmas.{fitting_more, fitting_none}
use Rattle.standings.proofs.RowLemmas.{part_more}
use Rattle.standings.proofs.place.put_block.Goals as goal
use Rattle.standings.proofs.place.put_block.Goals.{then-begins, else-begins}

pub loop-before-preserved : goal.loop-before-preserved
loop-before-preserved c =
    let text = c.args.text.now in
    let above = c.args.above in
    let start = c.args.start in
    let before = c.loop-before.before in
    let line = line_text (drop above c.args.rows.now) in
    let room = vec_capacity c.args.places.now in
    let n = before - start in
    let here : start + n ≡ before = omega arith in
    let more : before + 1 - start ≡ n + 1 = omega arith in
    let so_far = c.loop-before.places.items in
    let last = cond c.begins.result (place_in above before ∷ []) [] in
    let told = c.begins.ensures ∙ ap (begins text line) (sym here) in
    let parts : places_part text above line start (before + 1 - start) ≡ places_part text above line start n ++ last =
    ap (places_part text above line start) more ∙ part_more text above line start n c.begins.result told
    ∙ ap (λ k. places_part text above line start n ++ cond c.begins.result (place_in above k ∷ []) []) here in
    let new : c.if-begins.places.items ≡ fitting room so_far last =
    elim c.if-begins.branch [
      | then-begins w ↦ rw (w.places-is, w.if-begins.true) (w.put.ensures.items ∙ ap (λ r. fitting r so_far (place_in above before ∷ [])) c.loop-before.invariant.room)
      | else-begins w ↦ rw (w.places-is, w.if-begins.false) (sym (fitting_none room so_far))
    ] in
    let same : vec_capacity c.if-begins.places ≡ room =
    elim c.if-begins.branch [
      | then-begins w ↦ rw w.places-is (w.put.ensures.room ∙ c.loop-before.invariant.room)
      | else-begins w ↦ rw w.places-is c.loop-before.invariant.room
    ] in
    let many : c.if-begins.found ≡ c.loop-before.found + length last =
    elim c.if-begins.branch [
      | then-begins w ↦ rw (w.found-is, w.if-begins.true) (omega arith)
      | else-begins w ↦ rw (w.found-is, w.if-begins.false) (omega arith)
    ] in
    let one : length last ≤ 1 =
    elim c.if-begins.branch [
      | then-begins w ↦ rw w.if-begins.true (omega arith)
      | else-begins w ↦ rw w.if-begins.false (omega arith)
    ] in
    record {
      placed = fitting_more room c.args.places.now.items so_far c.if-begins.places.items (places_part text above line start n) last c.loop-before.invariant.placed new
          ∙ ap (fitting room c.args.places.now.items) (sym parts);
      room = same;
      count = omega (arith, many, c.loop-before.invariant.count, ap length parts, length-append (places_part text above line start n) last);
      few = omega (arith, many, one, c.loop-before.invariant.few);
    }
