-- The members of an object, one after another: what they tell, and where it ends.
use Rattle.std.proofs.Common.{◌≡◌, ℕ, suc, ◌+◌, ◌-◌, ◌<◌, List, length, Option, Some, None, refl, arith}
use Rattle.json_bytes.specs.Marks.{past_mark}
use Rattle.json_bytes.specs.Values.{Json, Members, Read, as_part, behind, member, members, named_value, object_at}
use Rattle.json_bytes.proofs.MemberLemmas.{named_in}
use Rattle.tape_import.specs.KeptTlog.{with_member}

pub inside : (one : List ℕ → Read Json) (text inner : List ℕ) → past_mark 123 text ≡ Some inner → past_mark 125 inner ≡ None
    → object_at one text ≡ members one (length inner) inner
inside one text inner opens more = rw (opens, more) refl

same_end : (name : List ℕ) (v : Json) (read : Read Members) → behind (as_part (member name v) read) ≡ behind read
same_end name v None = refl
same_end name v (Some r) = refl

one_told : (told : List ℕ → Option Json) (other : List ℕ) (v : Json) (read : Read Members) (name : List ℕ)
    → named_in name (told name) (as_part (member other v) read) ≡ named_in name (with_member other v told name) read
one_told told other v None name = refl
one_told told other v (Some r) name = refl

-- one member more
pub next_told : (told : List ℕ → Option Json) (one : List ℕ → Read Json) (most count : ℕ) (at rest next other : List ℕ) (v : Json) (name : List ℕ) → count < most
    → named_value one at ≡ Some ((other, v), rest) → past_mark 125 rest ≡ None → past_mark 44 rest ≡ Some next
    → named_in name (told name) (members one (most - count) at) ≡ named_in name (with_member other v told name) (members one (most - (count + 1)) next)
next_told told one most count at rest next other v name lt is more comma =
    let step : most - count ≡ suc (most - (count + 1)) = omega arith in
    rw (step, is, more, comma) (one_told told other v (members one (most - (count + 1)) next) name)

pub next_ends : (one : List ℕ → Read Json) (most count : ℕ) (at rest next other : List ℕ) (v : Json) → count < most
    → named_value one at ≡ Some ((other, v), rest) → past_mark 125 rest ≡ None → past_mark 44 rest ≡ Some next
    → behind (members one (most - count) at) ≡ behind (members one (most - (count + 1)) next)
next_ends one most count at rest next other v lt is more comma =
    let step : most - count ≡ suc (most - (count + 1)) = omega arith in
    rw (step, is, more, comma) (same_end other v (members one (most - (count + 1)) next))

-- the last one
pub last_told : (told : List ℕ → Option Json) (one : List ℕ → Read Json) (most count : ℕ) (at rest end other : List ℕ) (v : Json) (name : List ℕ) → count < most
    → named_value one at ≡ Some ((other, v), rest) → past_mark 125 rest ≡ Some end
    → named_in name (told name) (members one (most - count) at) ≡ with_member other v told name
last_told told one most count at rest end other v name lt is closes =
    let step : most - count ≡ suc (most - (count + 1)) = omega arith in
    rw (step, is, closes) refl

pub last_ends : (one : List ℕ → Read Json) (most count : ℕ) (at rest end other : List ℕ) (v : Json) → count < most
    → named_value one at ≡ Some ((other, v), rest) → past_mark 125 rest ≡ Some end → behind (members one (most - count) at) ≡ Some end
last_ends one most count at rest end other v lt is closes =
    let step : most - count ≡ suc (most - (count + 1)) = omega arith in
    rw (step, is, closes) refl

-- and what is none
pub none_ends : (one : List ℕ → Read Json) (most count : ℕ) (at : List ℕ) → count < most → named_value one at ≡ None → behind (members one (most - count) at) ≡ None
none_ends one most count at lt is =
    let step : most - count ≡ suc (most - (count + 1)) = omega arith in
    rw (step, is) refl

pub open_ends : (one : List ℕ → Read Json) (most count : ℕ) (at rest other : List ℕ) (v : Json) → count < most
    → named_value one at ≡ Some ((other, v), rest) → past_mark 125 rest ≡ None → past_mark 44 rest ≡ None → behind (members one (most - count) at) ≡ None
open_ends one most count at rest other v lt is more comma =
    let step : most - count ≡ suc (most - (count + 1)) = omega arith in
    rw (step, is, more, comma) refl
