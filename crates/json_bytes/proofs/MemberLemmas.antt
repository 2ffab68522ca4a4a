-- The members of an object, and the values of an array, one after another.
use Rattle.std.proofs.Common.{◌≡◌, ℕ, suc, ◌+◌, ◌-◌, ◌<◌, List, ◌∷◌, codes, length, nat_eq, true, false, Option, Some, None, if◌then◌else◌, refl, ap, subst, sym, ◌∙◌, arith, drop, Bool, Bor, []}
use Rattle.std.specs.Cmp.Lexicographic.{pointwise}
use Rattle.std.specs.Option.{option_and_then, option_map}
use Rattle.std.proofs.lemmas.Bool.Decides.{nat_tests}
use Rattle.std.specs.List.{starts_with}
use Rattle.json_bytes.specs.Strings as strings
use Rattle.json_bytes.specs.Marks.{begins, past_mark}
use Rattle.json_bytes.specs.Numbers.{Decimal, number_at}
use Rattle.json_bytes.specs.Strings.{string_at}
use Rattle.json_bytes.specs.Values.{Items, Json, Members, Read, array, array_at, as_part, behind, boolean, found, last_named, member, member_of, members, named_value, nested_at, no_members, null, object, object_at, other_value, string, value, value_with, word_at}

-- the last value of a name in what was read of an object, behind one that was read before
abbrev pub named_in : List ℕ → Option Json → Read Members → Option Json
named_in name before None = None
named_in name before (Some read) = last_named name before read.0

of_object : (name : List ℕ) (read : Read Members) → member_of name (found (as_part object read)) ≡ named_in name None read
of_object name None = refl
of_object name (Some r) = refl

of_array : (name : List ℕ) (read : Read Items) → member_of name (found (as_part array read)) ≡ None
of_array name None = refl
of_array name (Some r) = refl

of_string : (name : List ℕ) (read : Read (List ℕ)) → member_of name (found (as_part string read)) ≡ None
of_string name None = refl
of_string name (Some r) = refl

-- what begins with a bracket or a brace is no string and no number
pub first_byte : (byte b : ℕ) (bs : List ℕ) → begins byte (b ∷ bs) ≡ true → b ≡ byte
first_byte byte b bs is = grind (arith, nat_tests)

abbrev pub IsNested : List ℕ → Type 0
IsNested text = (begins 34 text ≡ false) × (number_at text ≡ None)

pub brace_alone : (text : List ℕ) → begins 123 text ≡ true → IsNested text × (begins 91 text ≡ false)
brace_alone [] is = cc
brace_alone (b ∷ bs) is = subst (λ n. IsNested (n ∷ bs) × (begins 91 (n ∷ bs) ≡ false)) (sym (first_byte 123 b bs is)) ((refl, refl), refl)

pub bracket_alone : (text : List ℕ) → begins 91 text ≡ true → IsNested text
bracket_alone [] is = cc
bracket_alone (b ∷ bs) is = subst (λ n. IsNested (n ∷ bs)) (sym (first_byte 91 b bs is)) (refl, refl)

pub quote_alone : (text : List ℕ) → begins 34 text ≡ true → number_at text ≡ None
quote_alone [] is = cc
quote_alone (b ∷ bs) is = subst (λ n. number_at (n ∷ bs) ≡ None) (sym (first_byte 34 b bs is)) refl

pub either_mark : (text : List ℕ) → begins 93 text ≡ true → begins 44 text ≡ false
either_mark [] is = cc
either_mark (b ∷ bs) is = subst (λ n. begins 44 (n ∷ bs) ≡ false) (sym (first_byte 93 b bs is)) refl

-- an object
pub object_value : (depth : ℕ) (text : List ℕ) → begins 123 text ≡ true → value (suc depth) text ≡ as_part object (object_at (value depth) text)
unfolding value
object_value depth text is = let other = brace_alone text is in rw (other.0.0, other.0.1, other.1, is) refl

pub object_members : (name : List ℕ) (depth : ℕ) (text inner : List ℕ) → begins 123 text ≡ true → past_mark 123 text ≡ Some inner → past_mark 125 inner ≡ None
    → member_of name (found (value (depth + 1) text)) ≡ named_in name None (members (value depth) (length inner) inner)
object_members name depth text inner is opens more =
    let deeper : depth + 1 ≡ suc depth = omega arith in
    let inside : object_at (value depth) text ≡ members (value depth) (length inner) inner = rw (opens, more) refl in
    rw (deeper, object_value depth text is) (of_object name (object_at (value depth) text) ∙ ap (named_in name None) inside)

pub object_empty : (name : List ℕ) (depth : ℕ) (text inner behind : List ℕ) → begins 123 text ≡ true → past_mark 123 text ≡ Some inner → past_mark 125 inner ≡ Some behind
    → member_of name (found (value (depth + 1) text)) ≡ None
object_empty name depth text inner behind is opens closes =
    let deeper : depth + 1 ≡ suc depth = omega arith in
    let inside : object_at (value depth) text ≡ Some (no_members, behind) = rw (opens, closes) refl in
    rw (deeper, object_value depth text is) (of_object name (object_at (value depth) text) ∙ ap (named_in name None) inside)

pub object_broken : (name : List ℕ) (depth : ℕ) (text : List ℕ) → begins 123 text ≡ true → past_mark 123 text ≡ None
    → member_of name (found (value (depth + 1) text)) ≡ None
object_broken name depth text is broken =
    let deeper : depth + 1 ≡ suc depth = omega arith in
    let inside : object_at (value depth) text ≡ None = rw broken refl in
    rw (deeper, object_value depth text is) (of_object name (object_at (value depth) text) ∙ ap (named_in name None) inside)

-- and what is none
abbrev pub word_by : Bool → Bool → Bool → List ℕ → Read Json
word_by a b c text =
    if a then Some (boolean true, drop 4 text) else if b then Some (boolean false, drop 5 text) else if c then Some (null, drop 4 text) else None

no_word_by : (name : List ℕ) (a b c : Bool) (text : List ℕ) → member_of name (found (word_by a b c text)) ≡ None
no_word_by name true b c text = refl
no_word_by name false true c text = refl
no_word_by name false false true text = refl
no_word_by name false false false text = refl

no_word : (name : List ℕ) (text : List ℕ) → member_of name (found (word_at text)) ≡ None
no_word name text = no_word_by name (starts_with nat_eq text (codes "true")) (starts_with nat_eq text (codes "false")) (starts_with nat_eq text (codes "null")) text

no_nested : (name : List ℕ) (one : List ℕ → Read Json) (text : List ℕ) (opens : Bool) → begins 91 text ≡ opens → begins 123 text ≡ false
    → member_of name (found (nested_at one text)) ≡ None
no_nested name one text true is other = rw is (of_array name (array_at one text))
no_nested name one text false is other = rw (is, other) (no_word name text)

no_other : (name : List ℕ) (one : List ℕ → Read Json) (text : List ℕ) (read : Option (Decimal × List ℕ)) → begins 123 text ≡ false
    → member_of name (found (other_value (nested_at one) text read)) ≡ None
no_other name one text None other = no_nested name one text (begins 91 text) refl other
no_other name one text (Some r) other = refl

no_object_by : (name : List ℕ) (one : List ℕ → Read Json) (text : List ℕ) (quoted : Bool) → begins 34 text ≡ quoted → begins 123 text ≡ false
    → member_of name (found (value_with (nested_at one) text)) ≡ None
no_object_by name one text true is other = rw is (of_string name (strings.items 0 (drop 1 text)))
no_object_by name one text false is other = rw is (no_other name one text (number_at text) other)

pub no_object : (name : List ℕ) (depth : ℕ) (text : List ℕ) → begins 123 text ≡ false → member_of name (found (value (depth + 1) text)) ≡ None
unfolding value
no_object name depth text other =
    let deeper : depth + 1 ≡ suc depth = omega arith in
    rw deeper (no_object_by name (value depth) text (begins 34 text) refl other)

-- one member more
abbrev pub chosen : List ℕ → Option Json → List ℕ → Json → Option Json
chosen name before other v = if pointwise nat_eq other name then Some v else before

behind_member : (name : List ℕ) (before : Option Json) (other : List ℕ) (v : Json) (read : Read Members)
    → named_in name before (as_part (member other v) read) ≡ named_in name (chosen name before other v) read
behind_member name before other v None = refl
behind_member name before other v (Some r) = refl

pub member_next : (name : List ℕ) (before : Option Json) (one : List ℕ → Read Json) (most count : ℕ) (at other rest text behind next : List ℕ) (v : Json) → count < most
    → string_at at ≡ Some (other, rest) → past_mark 58 rest ≡ Some text → one text ≡ Some (v, behind) → past_mark 125 behind ≡ None → past_mark 44 behind ≡ Some next
    → named_in name before (members one (most - count) at) ≡ named_in name (chosen name before other v) (members one (most - (count + 1)) next)
member_next name before one most count at other rest text behind next v lt named colon is more comma =
    let step : most - count ≡ suc (most - (count + 1)) = omega arith in
    rw (step, named, colon, is, more, comma) (behind_member name before other v (members one (most - (count + 1)) next))

pub member_last : (name : List ℕ) (before : Option Json) (one : List ℕ → Read Json) (most count : ℕ) (at other rest text behind end : List ℕ) (v : Json) → count < most
    → string_at at ≡ Some (other, rest) → past_mark 58 rest ≡ Some text → one text ≡ Some (v, behind) → past_mark 125 behind ≡ Some end
    → named_in name before (members one (most - count) at) ≡ chosen name before other v
member_last name before one most count at other rest text behind end v lt named colon is closes =
    let step : most - count ≡ suc (most - (count + 1)) = omega arith in
    rw (step, named, colon, is, closes) refl

pub member_stops : (name : List ℕ) (before : Option Json) (one : List ℕ → Read Json) (most count : ℕ) (at other rest text behind : List ℕ) (v : Json) → count < most
    → string_at at ≡ Some (other, rest) → past_mark 58 rest ≡ Some text → one text ≡ Some (v, behind) → past_mark 125 behind ≡ None → past_mark 44 behind ≡ None
    → named_in name before (members one (most - count) at) ≡ None
member_stops name before one most count at other rest text behind v lt named colon is more comma =
    let step : most - count ≡ suc (most - (count + 1)) = omega arith in
    rw (step, named, colon, is, more, comma) refl

pub member_unnamed : (name : List ℕ) (before : Option Json) (one : List ℕ → Read Json) (most count : ℕ) (at : List ℕ) → count < most → named_value one at ≡ None
    → named_in name before (members one (most - count) at) ≡ None
member_unnamed name before one most count at lt none =
    let step : most - count ≡ suc (most - (count + 1)) = omega arith in
    rw (step, none) refl

-- a value that has an end was found
some_is : (x y : List ℕ) → Some x ≡ Some y → x ≡ y
some_is x y is = cc

pub with_end : {A : Type 0} (read : Read A) (end : List ℕ) → behind read ≡ Some end → (v : A) × (read ≡ Some (v, end))
with_end None end is = cc
with_end (Some r) end is = (r.0, ap (λ e. Some (r.0, e)) (some_is r.1 end is))

pub without_end : {A : Type 0} (read : Read A) → behind read ≡ None → read ≡ None
without_end None is = refl
without_end (Some r) is = cc

-- a place in a text, by what stands there
pub placed : {T : Type 0} (f : List ℕ → Option T) (place : Option (Bor (List ℕ))) → option_and_then (λ at. f at.now) place ≡ option_and_then f (option_map (λ at. at.now) place)
placed f None = refl
placed f (Some at) = refl
