use Rattle.std.proofs.Common.{◌≡◌, ◌-◌, ◌∙◌, None, ap, arith, length, refl, subst, sym}
use Rattle.json_bytes.specs.Values.{behind, last_named, members, no_members, object_at, value}
use Rattle.json_bytes.proofs.MemberLemmas.{named_in, with_end, without_end}
use Rattle.tape_import.specs.KeptTlog.{Tells, none_told, with_member}
use Rattle.tape_import.proofs.ObjectLemmas.{inside, last_ends, last_told, next_ends, next_told, none_ends, open_ends}
use Rattle.tape_import.proofs.TlogLemmas.{same_told}
use Rattle.tape_import.proofs.tlog_fields.Fields.read_object.Goals as goal

pub returns-in-Some-past_mark : goal.returns-in-Some-past_mark
returns-in-Some-past_mark c = (no_members, rw (sym c.in-Some.ensures, sym c.in-Some-past_mark.ensures) refl, c.requires)

pub loop-init : goal.loop-init
loop-init c =
    let one = value 63 in
    let inner = c.in-Some.inner.now in
    let whole : length inner ≡ length inner - 0 = omega arith in
    let begins : object_at one c.args.text.now ≡ members one (length inner - 0) inner =
    inside one c.args.text.now inner (sym c.in-Some.ensures) (sym c.in_default-past_mark.ensures) ∙ ap (λ most. members one most inner) whole in
    record {
      told = none_told;
      tells = c.requires;
      same = λ name. ap (named_in name None) begins;
      ends = ap behind begins;
    }

pub returns-in_default-2 : goal.returns-in_default-2
returns-in_default-2 c =
    let none = rw c.in_default-2.is at c.in_ok-rest.ensures in
    without_end (object_at (value 63) c.args.text.now)
    (c.loop.invariant.ends ∙ none_ends (value 63) (length c.in-Some.inner.now) c.loop.counter c.loop.at.now (omega arith) none)

pub returns-in-Some-past_mark-2 : goal.returns-in-Some-past_mark-2
returns-in-Some-past_mark-2 c =
    let one = value 63 in
    let most = length c.in-Some.inner.now in
    let at = c.loop.at.now in
    let told = c.loop.invariant.told in
    let read = rw c.in-Some-2.is at c.in_ok-rest.ensures in
    let rest = c.in-Some-2.rest.now in
    let end = c.in-Some-past_mark-2.rest.now in
    let closes = sym c.in-Some-past_mark-2.ensures in
    let all = with_end (object_at one c.args.text.now) end (c.loop.invariant.ends ∙ last_ends one most c.loop.counter at rest end (read.0) (read.1) (omega arith) (read.2) closes) in
    let same : (λ name. last_named name None (all.0)) ≡ with_member (read.0) (read.1) told =
    same_told (λ name. last_named name None (all.0)) (with_member (read.0) (read.1) told) (λ name.
    sym (ap (named_in name None) (all.1)) ∙ c.loop.invariant.same name ∙ last_told told one most c.loop.counter at rest end (read.0) (read.1) name (omega arith) (read.2) closes) in
    (all.0, all.1, subst (λ f. Tells f c.read_member.new.self) (sym same) (read.3 told c.loop.invariant.tells))

pub returns-in_default-past_mark-3 : goal.returns-in_default-past_mark-3
returns-in_default-past_mark-3 c =
    let read = rw c.in-Some-2.is at c.in_ok-rest.ensures in
    without_end (object_at (value 63) c.args.text.now)
    (c.loop.invariant.ends ∙ open_ends (value 63) (length c.in-Some.inner.now) c.loop.counter c.loop.at.now c.in-Some-2.rest.now (read.0) (read.1) (omega arith) (read.2)
    (sym c.in_default-past_mark-2.ensures) (sym c.in_default-past_mark-3.ensures))

pub loop-preserved : goal.loop-preserved
loop-preserved c =
    let one = value 63 in
    let most = length c.in-Some.inner.now in
    let at = c.loop.at.now in
    let told = c.loop.invariant.told in
    let read = rw c.in-Some-2.is at c.in_ok-rest.ensures in
    let rest = c.in-Some-2.rest.now in
    let next = c.in-Some-past_mark-3.next.now in
    let more = sym c.in_default-past_mark-2.ensures in
    let comma = sym c.in-Some-past_mark-3.ensures in
    record {
      told = with_member (read.0) (read.1) told;
      tells = read.3 told c.loop.invariant.tells;
      same = λ name. c.loop.invariant.same name ∙ next_told told one most c.loop.counter at rest next (read.0) (read.1) name (omega arith) (read.2) more comma;
      ends = c.loop.invariant.ends ∙ next_ends one most c.loop.counter at rest next (read.0) (read.1) (omega arith) (read.2) more comma;
    }
