use Rattle.std.proofs.Common.{◌∙◌, ap, arith, drop, length, length-drop, sym, take, ◌-◌}
use Rattle.std.proofs.lemmas.List.{take_rest}
use Rattle.json_bytes.specs.Shown.{added}
use Rattle.json_bytes.specs.Strings.{items, with_front}
use Rattle.json_bytes.proofs.StringLemmas.{lanes_read, plain_first}
use Rattle.json_bytes.proofs.strings.push_plain.Goals as goal

pub returns-then-run-lt-LANES-clause-pushed : goal.returns-then-run-lt-LANES-clause-pushed
returns-then-run-lt-LANES-clause-pushed c =
    let rest = c.loop-rest.rest.now in
    let run = c.plain_lanes-run.result in
    c.loop-rest.invariant.0
    ∙ ap (λ front. with_front front (items 0 rest)) (sym c.in_ok-make_room.ensures.added)
    ∙ lanes_read (added c.make_room.new.self) rest run c.plain_lanes-run.ensures.plain c.plain_lanes-run.ensures.within
    ∙ ap (λ front. with_front front (items 0 (drop run rest))) (sym c.push_lanes.ensures)
    ∙ ap (λ text. with_front (added c.push_lanes.new.self) (items 0 text)) (sym c.split_at.ensures.back)

pub loop-rest-preserved-else-run-lt-LANES : goal.loop-rest-preserved-else-run-lt-LANES
loop-rest-preserved-else-run-lt-LANES c =
    let rest = c.loop-rest.rest.now in
    let run = c.plain_lanes-run.result in
    let shorter = length-drop run rest in
    let behind = ap length c.split_at.ensures.back in (
      c.loop-rest.invariant.0
          ∙ ap (λ front. with_front front (items 0 rest)) (sym c.in_ok-make_room.ensures.added)
          ∙ lanes_read (added c.make_room.new.self) rest run c.plain_lanes-run.ensures.plain c.plain_lanes-run.ensures.within
          ∙ ap (λ front. with_front front (items 0 (drop run rest))) (sym c.push_lanes.ensures)
          ∙ ap (λ text. with_front (added c.push_lanes.new.self) (items 0 text)) (sym c.split_at.ensures.back),
      omega (arith, c.loop-rest.invariant.1),
    )

pub loop-rest-preserved : goal.loop-rest-preserved
loop-rest-preserved c =
    let rest = c.loop-rest.rest.now in
    let shorter = length-drop 1 rest in
    let behind = ap length (take_rest rest 1) in (
      c.loop-rest.invariant.0
          ∙ plain_first (added c.loop-rest.pieces) rest (omega arith) (sym c.is_plain.ensures ∙ c.if-is_plain.true)
          ∙ ap (λ front. with_front front (items 0 (take (length rest - 1) (drop 1 rest)))) (sym c.in_ok-push-in-len1-up.ensures),
      omega (arith, c.loop-rest.invariant.1),
    )
