-- The members of an object, collected one after another.
use Rattle.std.proofs.Common.{◌≡◌, ℕ, suc, ◌+◌, ◌-◌, ◌<◌, Bool, true, false, List, [], ◌∷◌, ◌++◌, length, nat_eq, Option, Some, None, if◌then◌else◌, refl, ap, ◌∙◌, arith}
use Rattle.std.specs.Option.{option_map}
use Rattle.json_bytes.specs.Marks.{begins, past_mark, past_space}
use Rattle.json_bytes.specs.Listed.{listed, valued}
use Rattle.json_bytes.specs.Strings.{meant}
use Rattle.json_bytes.specs.Values.{Json, Members, Read, as_part, found, json_of, last_named, member, member_of, members, named_value, no_members, object, object_at, value, whole}
use Rattle.json_bytes.specs.declared.members.Member.{Member}
use Rattle.json_bytes.proofs.MemberLemmas.{no_object, object_value}

-- members behind others
abbrev pub joined : Members → Members → Members
joined no_members more = more
joined (member name v all) more = member name v (joined all more)

abbrev pub behind_members : Members → Read Members → Read Members
behind_members front read = option_map (λ r. (joined front r.0, r.1)) read

pub behind_none : (read : Read Members) → behind_members no_members read ≡ read
behind_none None = refl
behind_none (Some r) = refl

joined_none : (all : Members) → joined all no_members ≡ all
joined_none no_members = refl
joined_none (member name v more) = ap (member name v) (joined_none more)

one_listed : (depth : ℕ) (all : List Member) (one : Member) (more : Members)
    → joined (listed depth all) (member (meant one.name) (valued depth one.value) more) ≡ joined (listed depth (all ++ one ∷ [])) more
one_listed depth [] one more = refl
one_listed depth (m ∷ ms) one more = ap (member (meant m.name) (valued depth m.value)) (one_listed depth ms one more)

one_behind : (depth : ℕ) (all : List Member) (one : Member) (read : Read Members)
    → behind_members (listed depth all) (as_part (member (meant one.name) (valued depth one.value)) read) ≡ behind_members (listed depth (all ++ one ∷ [])) read
one_behind depth all one None = refl
one_behind depth all one (Some r) = ap (λ ms. Some (ms, r.1)) (one_listed depth all one r.0)

-- one member more, the last one, and what is none
pub more_listed : (depth : ℕ) (all : List Member) (one : Member) (most count : ℕ) (at behind next : List ℕ) → count < most
    → named_value (value depth) at ≡ Some ((meant one.name, valued depth one.value), behind) → past_mark 125 behind ≡ None → past_mark 44 behind ≡ Some next
    → behind_members (listed depth all) (members (value depth) (most - count) at) ≡ behind_members (listed depth (all ++ one ∷ [])) (members (value depth) (most - (count + 1)) next)
more_listed depth all one most count at behind next lt is more comma =
    let step : most - count ≡ suc (most - (count + 1)) = omega arith in
    rw (step, is, more, comma) (one_behind depth all one (members (value depth) (most - (count + 1)) next))

pub last_listed : (depth : ℕ) (all : List Member) (one : Member) (most count : ℕ) (at behind end : List ℕ) → count < most
    → named_value (value depth) at ≡ Some ((meant one.name, valued depth one.value), behind) → past_mark 125 behind ≡ Some end
    → behind_members (listed depth all) (members (value depth) (most - count) at) ≡ Some (listed depth (all ++ one ∷ []), end)
last_listed depth all one most count at behind end lt is closes =
    let step : most - count ≡ suc (most - (count + 1)) = omega arith in
    rw (step, is, closes) (one_behind depth all one (Some (no_members, end)) ∙ ap (λ ms. Some (ms, end)) (joined_none (listed depth (all ++ one ∷ []))))

pub none_listed : (depth : ℕ) (all : List Member) (most count : ℕ) (at : List ℕ) → count < most → named_value (value depth) at ≡ None
    → behind_members (listed depth all) (members (value depth) (most - count) at) ≡ None
none_listed depth all most count at lt is =
    let step : most - count ≡ suc (most - (count + 1)) = omega arith in
    rw (step, is) refl

pub open_listed : (depth : ℕ) (all : List Member) (name : List ℕ) (v : Json) (most count : ℕ) (at behind : List ℕ) → count < most
    → named_value (value depth) at ≡ Some ((name, v), behind) → past_mark 125 behind ≡ None → past_mark 44 behind ≡ None
    → behind_members (listed depth all) (members (value depth) (most - count) at) ≡ None
open_listed depth all name v most count at behind lt is more comma =
    let step : most - count ≡ suc (most - (count + 1)) = omega arith in
    rw (step, is, more, comma) refl

-- a whole text that is no object
whole_none : (name : List ℕ) (ended : Bool) (v : Json) → member_of name (Some v) ≡ None → member_of name (if ended then Some v else None) ≡ None
whole_none name true v is = is
whole_none name false v is = refl

none_in : (name : List ℕ) (read : Read Json) → member_of name (found read) ≡ None → member_of name (whole read) ≡ None
none_in name None is = refl
none_in name (Some r) is = whole_none name (nat_eq (length (past_space r.1)) 0) r.0 is

pub none_whole : (name text : List ℕ) → begins 123 (past_space text) ≡ false → member_of name (json_of text) ≡ None
none_whole name text other = none_in name (value 64 (past_space text)) (no_object name 63 (past_space text) other)

-- and one that is
abbrev pub named_whole : List ℕ → Bool → Members → Option Json
named_whole name ended all = if ended then last_named name None all else None

whole_by : (name : List ℕ) (ended : Bool) (all : Members) → member_of name (if ended then Some (object all) else None) ≡ named_whole name ended all
whole_by name true all = refl
whole_by name false all = refl

pub object_whole : (name text rest : List ℕ) (all : Members) → begins 123 (past_space text) ≡ true → object_at (value 63) (past_space text) ≡ Some (all, rest)
    → member_of name (json_of text) ≡ named_whole name (nat_eq (length (past_space rest)) 0) all
object_whole name text rest all is read =
    ap (λ r. member_of name (whole r)) (object_value 63 (past_space text) is ∙ ap (as_part object) read) ∙ whole_by name (nat_eq (length (past_space rest)) 0) all

pub broken_whole : (name text : List ℕ) → begins 123 (past_space text) ≡ true → object_at (value 63) (past_space text) ≡ None → member_of name (json_of text) ≡ None
broken_whole name text is read = ap (λ r. member_of name (whole r)) (object_value 63 (past_space text) is ∙ ap (as_part object) read)
