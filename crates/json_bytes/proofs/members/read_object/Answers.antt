use Rattle.std.proofs.Common.{◌≡◌, ◌+◌, ◌-◌, ◌∙◌, None, Some, ap, arith, length, refl, sym}
use Rattle.json_bytes.specs.Listed.{listed, valued}
use Rattle.json_bytes.specs.Strings.{meant}
use Rattle.json_bytes.specs.Values.{members, named_value, value}
use Rattle.json_bytes.proofs.ListedLemmas.{behind_members, last_listed, more_listed, none_listed, open_listed}
use Rattle.json_bytes.proofs.members.read_object.Goals as goal

pub returns-in_default-2 : goal.returns-in_default-2
returns-in_default-2 c =
    let depth = c.args.depth in
    let is : named_value (value depth) c.loop.at.now ≡ None = sym c.in_ok-member.ensures ∙ rw c.in_default-2.is refl in
    sym (c.loop.invariant ∙ none_listed depth c.loop.members.items (length c.in-Some.inner.now) c.loop.counter c.loop.at.now (omega arith) is)

pub returns-in-Some-past_mark-2 : goal.returns-in-Some-past_mark-2
returns-in-Some-past_mark-2 c =
    let depth = c.args.depth in
    let one = c.in-Some-2.member in
    let behind = c.in-Some-2.rest.now in
    let is : named_value (value depth) c.loop.at.now ≡ Some ((meant one.name, valued depth one.value), behind) = sym c.in_ok-member.ensures ∙ rw c.in-Some-2.is refl in
    let end = c.in-Some-past_mark-2.rest.now in
    sym (c.loop.invariant
    ∙ last_listed depth c.loop.members.items one (length c.in-Some.inner.now) c.loop.counter c.loop.at.now behind end (omega arith) is (sym c.in-Some-past_mark-2.ensures)
    ∙ ap (λ all. Some (listed depth all, end)) (sym c.in_ok-push.ensures.items))

pub returns-in_default-past_mark-3 : goal.returns-in_default-past_mark-3
returns-in_default-past_mark-3 c =
    let depth = c.args.depth in
    let one = c.in-Some-2.member in
    let behind = c.in-Some-2.rest.now in
    let is : named_value (value depth) c.loop.at.now ≡ Some ((meant one.name, valued depth one.value), behind) = sym c.in_ok-member.ensures ∙ rw c.in-Some-2.is refl in
    sym (c.loop.invariant
    ∙ open_listed depth c.loop.members.items (meant one.name) (valued depth one.value) (length c.in-Some.inner.now) c.loop.counter c.loop.at.now behind (omega arith) is
    (sym c.in_default-past_mark-2.ensures) (sym c.in_default-past_mark-3.ensures))

pub loop-preserved : goal.loop-preserved
loop-preserved c =
    let depth = c.args.depth in
    let one = c.in-Some-2.member in
    let most = length c.in-Some.inner.now in
    let behind = c.in-Some-2.rest.now in
    let next = c.in-Some-past_mark-3.next.now in
    let is : named_value (value depth) c.loop.at.now ≡ Some ((meant one.name, valued depth one.value), behind) = sym c.in_ok-member.ensures ∙ rw c.in-Some-2.is refl in
    c.loop.invariant
    ∙ more_listed depth c.loop.members.items one most c.loop.counter c.loop.at.now behind next (omega arith) is (sym c.in_default-past_mark-2.ensures) (sym c.in-Some-past_mark-3.ensures)
    ∙ ap (λ all. behind_members (listed depth all) (members (value depth) (most - (c.loop.counter + 1)) next)) (sym c.in_ok-push.ensures.items)
