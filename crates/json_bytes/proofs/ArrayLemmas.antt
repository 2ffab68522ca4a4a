-- Arrays of bytes, one byte after another.
use Rattle.std.proofs.Common.{◌≡◌, ℕ, zero, suc, ◌+◌, ◌-◌, ◌<◌, Bool, true, false, List, [], ◌∷◌, ◌++◌, codes, drop, length, nat_eq, Option, Some, None, refl, ap, sym, ◌∙◌, arith, append_assoc, unwrap_or}
use Rattle.std.specs.List.{starts_with}
use Rattle.std.specs.Option.{option_and_then, option_map}
use Rattle.json_bytes.specs.Arrays.{byte_at, byte_of, bytes_of, bytes_within}
use Rattle.json_bytes.specs.Marks.{begins, past_mark}
use Rattle.json_bytes.specs.Numbers.{Decimal, number_at}
use Rattle.json_bytes.specs.Strings as strings
use Rattle.json_bytes.specs.Values.{Items, Json, Members, Read, array, array_at, as_part, found, item, items, nested_at, no_items, number, number_of, object, object_at, other_value, rest_of_items, string, value, value_with, word_at}
use Rattle.json_bytes.proofs.MemberLemmas.{quote_alone, word_by}
use Rattle.json_bytes.proofs.ScalarLemmas.{value_read}
use Rattle.json_bytes.proofs.TripleLemmas.{array_value}

-- the bytes of what was read, behind others
abbrev pub read_bytes : Read Items → Option (List ℕ)
read_bytes read = option_and_then (λ r. bytes_within r.0) read

abbrev pub behind_bytes : List ℕ → Option (List ℕ) → Option (List ℕ)
behind_bytes front bytes = option_map (λ bs. front ++ bs) bytes

pub behind_none : (bytes : Option (List ℕ)) → behind_bytes [] bytes ≡ bytes
behind_none None = refl
behind_none (Some bs) = refl

one_behind : (front : List ℕ) (b : ℕ) (bytes : Option (List ℕ)) → behind_bytes front (option_map (λ bs. b ∷ bs) bytes) ≡ behind_bytes (front ++ b ∷ []) bytes
one_behind front b None = refl
one_behind front b (Some bs) = ap Some (sym (append_assoc front (b ∷ []) bs))

-- one byte more in what was read
one_read : (v : Json) (b : ℕ) (read : Read Items) → byte_of (number_of (Some v)) ≡ Some b → read_bytes (as_part (item v) read) ≡ option_map (λ bs. b ∷ bs) (read_bytes read)
one_read v b None is = refl
one_read v b (Some r) is = rw is refl

no_read : (v : Json) (read : Read Items) → byte_of (number_of (Some v)) ≡ None → read_bytes (as_part (item v) read) ≡ None
no_read v None is = refl
no_read v (Some r) is = rw is refl

-- a value that is a byte
abbrev pub with_rest : List ℕ → Option ℕ → Read ℕ
with_rest rest byte = option_map (λ b. (b, rest)) byte

abbrev pub byte_from : Option (Decimal × List ℕ) → Read ℕ
byte_from read = option_and_then (λ r. with_rest r.1 (byte_of (Some r.0))) read

same_pair : (x b : ℕ) (xs bs : List ℕ) → with_rest xs (Some x) ≡ with_rest bs (Some b) → (x ≡ b) × (xs ≡ bs)
same_pair x b xs bs is =
    let no : ℕ × List ℕ = (0, []) in
    (ap (λ o. (unwrap_or o no).0) is, ap (λ o. (unwrap_or o no).1) is)

with_byte : (r : Decimal × List ℕ) (o : Option ℕ) (b : ℕ) (rest : List ℕ) → byte_of (Some r.0) ≡ o → with_rest r.1 o ≡ Some (b, rest)
    → (byte_of (Some r.0) ≡ Some b) × (r.1 ≡ rest)
with_byte r None b rest was is = cc
with_byte r (Some x) b rest was is = let same = same_pair x b r.1 rest is in (was ∙ ap Some same.0, same.1)

parts_of : (read : Option (Decimal × List ℕ)) (b : ℕ) (rest : List ℕ) → byte_from read ≡ Some (b, rest) → (d : Decimal) × ((byte_of (Some d) ≡ Some b) × (read ≡ Some (d, rest)))
parts_of None b rest is = cc
parts_of (Some r) b rest is =
    let both = with_byte r (byte_of (Some r.0)) b rest refl is in
    (r.0, (both.0, ap (λ t. Some (r.0, t)) both.1))

number_by : (nested : List ℕ → Read Json) (text rest : List ℕ) (d : Decimal) (quoted : Bool) → begins 34 text ≡ quoted → number_at text ≡ Some (d, rest)
    → value_with nested text ≡ Some (number d, rest)
number_by nested text rest d true quotes is = let none = quote_alone text quotes in cc
number_by nested text rest d false quotes is = rw (quotes, is) refl

number_value : (depth : ℕ) (text rest : List ℕ) (d : Decimal) → number_at text ≡ Some (d, rest) → value depth text ≡ Some (number d, rest)
unfolding value
number_value zero text rest d is = number_by word_at text rest d (begins 34 text) refl is
number_value (suc depth) text rest d is = number_by (nested_at (value depth)) text rest d (begins 34 text) refl is

pub more_bytes : (front : List ℕ) (depth most count : ℕ) (at rest next : List ℕ) (b : ℕ) → count < most → byte_at at ≡ Some (b, rest)
    → past_mark 93 rest ≡ None → past_mark 44 rest ≡ Some next
    → behind_bytes front (read_bytes (items (value depth) (most - count) at)) ≡ behind_bytes (front ++ b ∷ []) (read_bytes (items (value depth) (most - (count + 1)) next))
more_bytes front depth most count at rest next b lt is more comma =
    let step : most - count ≡ suc (most - (count + 1)) = omega arith in
    let parts = parts_of (number_at at) b rest is in
    let v : value depth at ≡ Some (number parts.0, rest) = number_value depth at rest parts.0 (parts.1.1) in
    rw (step, v, more, comma)
    (ap (behind_bytes front) (one_read (number parts.0) b (items (value depth) (most - (count + 1)) next) (parts.1.0)) ∙ one_behind front b (read_bytes (items (value depth) (most - (count + 1)) next)))

pub last_byte : (front : List ℕ) (depth most count : ℕ) (at rest end : List ℕ) (b : ℕ) → count < most → byte_at at ≡ Some (b, rest) → past_mark 93 rest ≡ Some end
    → behind_bytes front (read_bytes (items (value depth) (most - count) at)) ≡ Some (front ++ b ∷ [])
last_byte front depth most count at rest end b lt is closes =
    let step : most - count ≡ suc (most - (count + 1)) = omega arith in
    let parts = parts_of (number_at at) b rest is in
    let v : value depth at ≡ Some (number parts.0, rest) = number_value depth at rest parts.0 (parts.1.1) in
    rw (step, v, closes, parts.1.0) refl

pub open_bytes : (front : List ℕ) (depth most count : ℕ) (at rest : List ℕ) (b : ℕ) → count < most → byte_at at ≡ Some (b, rest)
    → past_mark 93 rest ≡ None → past_mark 44 rest ≡ None → behind_bytes front (read_bytes (items (value depth) (most - count) at)) ≡ None
open_bytes front depth most count at rest b lt is more comma =
    let step : most - count ≡ suc (most - (count + 1)) = omega arith in
    let parts = parts_of (number_at at) b rest is in
    let v : value depth at ≡ Some (number parts.0, rest) = number_value depth at rest parts.0 (parts.1.1) in
    rw (step, v, more, comma) refl

-- and one that is none
none_with : (r : Decimal × List ℕ) (o : Option ℕ) → byte_of (Some r.0) ≡ o → with_rest r.1 o ≡ None → byte_of (Some r.0) ≡ None
none_with r None was is = was
none_with r (Some x) was is = cc

none_from : (read : Option (Decimal × List ℕ)) → byte_from read ≡ None → byte_of (found read) ≡ None
none_from None is = refl
none_from (Some r) is = none_with r (byte_of (Some r.0)) refl is

after_none : (more : List ℕ → Read Items) (v : Json) (next : Option (List ℕ)) → byte_of (number_of (Some v)) ≡ None
    → read_bytes (option_and_then (λ text. as_part (item v) (more text)) next) ≡ None
after_none more v None is = refl
after_none more v (Some text) is = no_read v (more text) is

rest_none : (more : List ℕ → Read Items) (v : Json) (text : List ℕ) (end : Option (List ℕ)) → byte_of (number_of (Some v)) ≡ None
    → read_bytes (rest_of_items more v text end) ≡ None
rest_none more v text (Some end) is = rw is refl
rest_none more v text None is = after_none more v (past_mark 44 text) is

items_none : (more : List ℕ → Read Items) (read : Read Json) → byte_of (number_of (found read)) ≡ None
    → read_bytes (option_and_then (λ r. rest_of_items more r.0 r.1 (past_mark 93 r.1)) read) ≡ None
items_none more None is = refl
items_none more (Some r) is = rest_none more r.0 r.1 (past_mark 93 r.1) is

pub no_byte : (front : List ℕ) (depth most count : ℕ) (at : List ℕ) → count < most → byte_at at ≡ None
    → behind_bytes front (read_bytes (items (value depth) (most - count) at)) ≡ None
no_byte front depth most count at lt is =
    let step : most - count ≡ suc (most - (count + 1)) = omega arith in
    let none : byte_of (number_of (found (value depth at))) ≡ None = ap byte_of ((value_read depth at).0) ∙ none_from (number_at at) is in
    rw step (ap (behind_bytes front) (items_none (items (value depth) (most - (count + 1))) (value depth at) none))

-- an array, by what stands in it
of_array : (read : Read Items) → bytes_of (found (as_part array read)) ≡ read_bytes read
of_array None = refl
of_array (Some r) = refl

array_bytes : (depth : ℕ) (text : List ℕ) → begins 91 text ≡ true → bytes_of (found (value (depth + 1) text)) ≡ read_bytes (array_at (value depth) text)
array_bytes depth text is =
    let deeper : depth + 1 ≡ suc depth = omega arith in
    rw (deeper, array_value depth text is) (of_array (array_at (value depth) text))

pub array_opened : (depth : ℕ) (text inner : List ℕ) → begins 91 text ≡ true → past_mark 91 text ≡ Some inner → past_mark 93 inner ≡ None
    → bytes_of (found (value (depth + 1) text)) ≡ read_bytes (items (value depth) (length inner) inner)
array_opened depth text inner is opens more = array_bytes depth text is ∙ ap read_bytes (let inside : array_at (value depth) text ≡ items (value depth) (length inner) inner = rw (opens, more) refl in inside)

pub array_empty : (depth : ℕ) (text inner end : List ℕ) → begins 91 text ≡ true → past_mark 91 text ≡ Some inner → past_mark 93 inner ≡ Some end
    → bytes_of (found (value (depth + 1) text)) ≡ Some []
array_empty depth text inner end is opens closes = array_bytes depth text is ∙ ap read_bytes (let inside : array_at (value depth) text ≡ Some (no_items, end) = rw (opens, closes) refl in inside)

pub array_broken : (depth : ℕ) (text : List ℕ) → begins 91 text ≡ true → past_mark 91 text ≡ None → bytes_of (found (value (depth + 1) text)) ≡ None
array_broken depth text is broken = array_bytes depth text is ∙ ap read_bytes (let inside : array_at (value depth) text ≡ None = rw broken refl in inside)

-- and what is none
of_object : (read : Read Members) → bytes_of (found (as_part object read)) ≡ None
of_object None = refl
of_object (Some r) = refl

of_string : (read : Read (List ℕ)) → bytes_of (found (as_part string read)) ≡ None
of_string None = refl
of_string (Some r) = refl

of_word : (a b c : Bool) (text : List ℕ) → bytes_of (found (word_by a b c text)) ≡ None
of_word true b c text = refl
of_word false true c text = refl
of_word false false true text = refl
of_word false false false text = refl

of_nested : (one : List ℕ → Read Json) (text : List ℕ) (braced : Bool) → begins 91 text ≡ false → begins 123 text ≡ braced → bytes_of (found (nested_at one text)) ≡ None
of_nested one text true other is = rw (other, is) (of_object (object_at one text))
of_nested one text false other is =
    rw (other, is) (of_word (starts_with nat_eq text (codes "true")) (starts_with nat_eq text (codes "false")) (starts_with nat_eq text (codes "null")) text)

of_other : (one : List ℕ → Read Json) (text : List ℕ) (read : Option (Decimal × List ℕ)) → begins 91 text ≡ false
    → bytes_of (found (other_value (nested_at one) text read)) ≡ None
of_other one text None other = of_nested one text (begins 123 text) other refl
of_other one text (Some r) other = refl

of_value : (one : List ℕ → Read Json) (text : List ℕ) (quoted : Bool) → begins 34 text ≡ quoted → begins 91 text ≡ false
    → bytes_of (found (value_with (nested_at one) text)) ≡ None
of_value one text true is other = rw is (of_string (strings.items 0 (drop 1 text)))
of_value one text false is other = rw is (of_other one text (number_at text) other)

pub no_array : (depth : ℕ) (text : List ℕ) → begins 91 text ≡ false → bytes_of (found (value (depth + 1) text)) ≡ None
unfolding value
no_array depth text other =
    let deeper : depth + 1 ≡ suc depth = omega arith in
    rw deeper (of_value (value depth) text (begins 34 text) refl other)
