use Rattle.std.proofs.Common.{◌∙◌, ap, drop, sym}
use Rattle.std.proofs.lemmas.Bool.{ne_eqb}
use Rattle.json_bytes.specs.Shown.{added}
use Rattle.json_bytes.specs.Strings.{bytes_of, items, with_front}
use Rattle.json_bytes.proofs.StringLemmas.{behind_item, byte_read, fronts}
use Rattle.json_bytes.proofs.strings.push_items.Goals as goal

pub loop-rest-preserved : goal.loop-rest-preserved
loop-rest-preserved c =
    let rest = c.in_ok-rest.rest.now in
    let bytes = added c.push_plain.new.pieces in
    let meaning = c.in-Some-item_at.meaning in
    let len = c.in-Some-item_at.len in
    c.loop-rest.invariant ∙ c.in_ok-rest.ensures.pushed
    ∙ ap (with_front bytes) (behind_item rest meaning len c.in-Some-item_at.ensures.some c.in-Some-item_at.ensures.within (ne_eqb _ 34 c.if-first-eq34.false) (sym c.in-Some-item_at.ensures.value))
    ∙ fronts bytes (bytes_of meaning) (items 0 (drop len rest)) ∙ ap (λ front. with_front front (items 0 (drop len rest))) (sym c.in_ok-push_meaning.ensures)
    ∙ ap (λ text. with_front (added c.push_meaning.new.pieces) (items 0 text)) (sym c.split_at-in_default-byte_at.ensures.back)

pub loop-rest-preserved-in-Some : goal.loop-rest-preserved-in-Some
loop-rest-preserved-in-Some c =
    let rest = c.in_ok-rest.rest.now in
    let bytes = added c.push_plain.new.pieces in
    let is = c.in-Some.ensures.value in
    let len = c.in-Some.len in
    c.loop-rest.invariant ∙ c.in_ok-rest.ensures.pushed
    ∙ byte_read bytes rest is.0 c.in-Some.byte len is.1 is.2 c.in-Some.ensures.some c.in-Some.ensures.within (ne_eqb _ 34 c.if-first-eq34.false)
    ∙ ap (λ front. with_front front (items 0 (drop len rest))) (sym c.in_ok-push.ensures)
    ∙ ap (λ text. with_front (added c.push.new.self) (items 0 text)) (sym c.split_at.ensures.back)
