use Rattle.std.proofs.Common.{◌≡◌, ap, refl, sym, ◌∙◌, drop}
use Rattle.std.proofs.lemmas.Bool.{ne_eqb}
use Rattle.json_bytes.specs.Strings.{bytes_of, item_at, items, string_at}
use Rattle.json_bytes.specs.Values.{behind}
use Rattle.json_bytes.proofs.StringLemmas.{behind_item, no_item, same_behind, with_len}
use Rattle.json_bytes.proofs.strings.string_end.Goals as goal

pub loop-rest-preserved : goal.loop-rest-preserved
loop-rest-preserved c =
    let rest = c.loop-rest.rest.now in
    let len = c.in-Some.len in
    let item = with_len (item_at rest) len (sym c.in-Some.ensures.value) in
    let meaning = item.0 in
    c.loop-rest.invariant
    ∙ ap behind (behind_item rest meaning len c.in-Some.ensures.some c.in-Some.ensures.within (ne_eqb _ 34 c.if-rest-eq34.false) (item.1))
    ∙ same_behind (bytes_of meaning) (items 0 (drop len rest)) ∙ ap (λ text. behind (items 0 text)) (sym c.split_at.ensures.back)
    ∙ c.past_plain-rest-in-loop-rest.ensures.end

pub returns-in_default : goal.returns-in_default
returns-in_default c =
    let text = c.args.text.now in
    let inside : behind (string_at text) ≡ behind (items 0 (drop 1 text)) = rw (sym c.begins.ensures ∙ c.if-not-begins.false) refl in
    sym (inside ∙ c.loop-rest.invariant ∙ ap behind (no_item c.loop-rest.rest.now (sym c.is_empty.ensures ∙ c.loop-rest-test.true) (ne_eqb _ 34 c.if-rest-eq34.false) (sym c.in_default.ensures.value)))
