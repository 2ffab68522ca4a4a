use Rattle.std.proofs.Common.{◌≡◌, ◌+◌, ◌-◌, ◌∙◌, None, Some, ap, arith, length, nat_eq, refl, sym}
use Rattle.std.specs.Cmp.Lexicographic.{pointwise}
use Rattle.std.specs.Option.{option_and_then}
use Rattle.json_bytes.specs.Strings.{meant, string_at}
use Rattle.json_bytes.specs.Values.{found, members, value}
use Rattle.json_bytes.proofs.MemberLemmas.{chosen, member_last, member_next, named_in, no_object, object_empty, object_members, with_end}
use Rattle.json_bytes.proofs.values.member.Goals as goal
use Rattle.json_bytes.proofs.values.member.Goals.{then-eq, else-eq}

pub returns-then-not-begins : goal.returns-then-not-begins
returns-then-not-begins c = no_object c.args.name.now c.args.depth c.args.text.now (sym c.begins.ensures ∙ c.if-not-begins.true)

pub returns-in-Some-past_mark : goal.returns-in-Some-past_mark
returns-in-Some-past_mark c =
    object_empty c.args.name.now c.args.depth c.args.text.now c.in-Some.inner.now c.in-Some-past_mark._end.now (sym c.begins.ensures ∙ c.if-not-begins.false)
    (sym c.in-Some.ensures) (sym c.in-Some-past_mark.ensures)

pub loop-init : goal.loop-init
loop-init c =
    let name = c.args.name.now in
    let one = value c.args.depth in
    let inner = c.in-Some.inner.now in
    let whole : length inner - 0 ≡ length inner = omega arith in
    object_members name c.args.depth c.args.text.now inner (sym c.begins.ensures ∙ c.if-not-begins.false) (sym c.in-Some.ensures) (sym c.in_default-past_mark.ensures)
    ∙ ap (λ most. named_in name None (members one most inner)) (sym whole)

pub returns-in-Some-past_mark-3 : goal.returns-in-Some-past_mark-3
returns-in-Some-past_mark-3 c =
    let name = c.args.name.now in
    let one = value c.args.depth in
    let most = length c.in-Some.inner.now in
    let at = c.loop.at.now in
    let other = meant c.in-Some-2.other in
    let text = c.in-Some-past_mark-2.value.now in
    let behind = c.in-Some-value_end.rest.now in
    let before = option_and_then (λ place. found (one place.now)) c.loop.place in
    let v = with_end (one text) behind (sym c.in-Some-value_end.ensures) in
    let named : string_at at ≡ Some (other, c.in-Some-2.rest.now) = sym c.in_ok-other.ensures ∙ rw c.in-Some-2.is refl in
    let same : pointwise nat_eq other name ≡ c.eq.result = ap (λ t. pointwise nat_eq t name) (sym c.as_slice.ensures) ∙ sym c.eq.ensures in
    let chooses : chosen name before other (v.0) ≡ option_and_then (λ place. found (one place.now)) c.if-eq.place = elim c.if-eq.branch [
      | then-eq w ↦ rw (same ∙ w.if-eq.true, w.place-is) (sym (ap found (v.1)))
      | else-eq w ↦ rw (same ∙ w.if-eq.false, w.place-is) refl
    ] in
    c.loop.invariant
    ∙ member_last name before one most c.loop.counter at other c.in-Some-2.rest.now text behind c.in-Some-past_mark-3._end.now (v.0) (omega arith) named
    (sym c.in-Some-past_mark-2.ensures) (v.1) (sym c.in-Some-past_mark-3.ensures)
    ∙ chooses

pub loop-preserved : goal.loop-preserved
loop-preserved c =
    let name = c.args.name.now in
    let one = value c.args.depth in
    let most = length c.in-Some.inner.now in
    let at = c.loop.at.now in
    let other = meant c.in-Some-2.other in
    let text = c.in-Some-past_mark-2.value.now in
    let behind = c.in-Some-value_end.rest.now in
    let before = option_and_then (λ place. found (one place.now)) c.loop.place in
    let v = with_end (one text) behind (sym c.in-Some-value_end.ensures) in
    let named : string_at at ≡ Some (other, c.in-Some-2.rest.now) = sym c.in_ok-other.ensures ∙ rw c.in-Some-2.is refl in
    let same : pointwise nat_eq other name ≡ c.eq.result = ap (λ t. pointwise nat_eq t name) (sym c.as_slice.ensures) ∙ sym c.eq.ensures in
    let chooses : chosen name before other (v.0) ≡ option_and_then (λ place. found (one place.now)) c.if-eq.place = elim c.if-eq.branch [
      | then-eq w ↦ rw (same ∙ w.if-eq.true, w.place-is) (sym (ap found (v.1)))
      | else-eq w ↦ rw (same ∙ w.if-eq.false, w.place-is) refl
    ] in
    let next = c.in-Some-past_mark-4.next.now in
    c.loop.invariant
    ∙ member_next name before one most c.loop.counter at other c.in-Some-2.rest.now text behind next (v.0) (omega arith) named
    (sym c.in-Some-past_mark-2.ensures) (v.1) (sym c.in_default-past_mark-3.ensures) (sym c.in-Some-past_mark-4.ensures)
    ∙ ap (λ o. named_in name o (members one (most - (c.loop.counter + 1)) next)) chooses
