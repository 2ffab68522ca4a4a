-- Numbers and strings as values.
use Rattle.std.proofs.Common.{◌≡◌, ℕ, zero, suc, Bool, List, drop, take, true, false, Option, Some, None, refl, ap, ◌∙◌, unwrap_or}
use Rattle.std.specs.List.{starts_with}
use Rattle.std.specs.Option.{option_and_then}
use Rattle.json_bytes.specs.Marks.{begins}
use Rattle.json_bytes.specs.Numbers.{Decimal, number_at, plain_digits}
use Rattle.json_bytes.specs.Listed.{standing}
use Rattle.json_bytes.specs.Shown.{IsPlain, alone}
use Rattle.json_bytes.specs.Strings as strings
use Rattle.json_bytes.specs.Strings.{string_at}
use Rattle.json_bytes.specs.Values.{Items, Json, Members, Read, array, array_at, as_part, boolean, found, nested_at, null, number, number_of, object, object_at, other_value, string, string_of, value, value_with, word_at}
use Rattle.json_bytes.proofs.MemberLemmas.{quote_alone, word_by}
use Rattle.std.proofs.Common.{codes, nat_eq}

-- a value that is neither
abbrev pub IsNeither : Read Json → Type 0
IsNeither read = (number_of (found read) ≡ None) × (string_of (found read) ≡ None)

an_array : (read : Read Items) → IsNeither (as_part array read)
an_array None = (refl, refl)
an_array (Some r) = (refl, refl)

an_object : (read : Read Members) → IsNeither (as_part object read)
an_object None = (refl, refl)
an_object (Some r) = (refl, refl)

a_word : (a b c : Bool) (text : List ℕ) → IsNeither (word_by a b c text)
a_word true b c text = (refl, refl)
a_word false true c text = (refl, refl)
a_word false false true text = (refl, refl)
a_word false false false text = (refl, refl)

word_alone : (text : List ℕ) → IsNeither (word_at text)
word_alone text = a_word (starts_with nat_eq text (codes "true")) (starts_with nat_eq text (codes "false")) (starts_with nat_eq text (codes "null")) text

nested_by : (one : List ℕ → Read Json) (text : List ℕ) (a b : Bool) → begins 91 text ≡ a → begins 123 text ≡ b → IsNeither (nested_at one text)
nested_by one text true b p q = rw p (an_array (array_at one text))
nested_by one text false true p q = rw (p, q) (an_object (object_at one text))
nested_by one text false false p q = rw (p, q) (word_alone text)

nested_alone : (one : List ℕ → Read Json) (text : List ℕ) → IsNeither (nested_at one text)
nested_alone one text = nested_by one text (begins 91 text) (begins 123 text) refl refl

-- what a value is as a number and as a string, by what stands there
abbrev pub IsRead : List ℕ → Read Json → Type 0
IsRead text read = (number_of (found read) ≡ found (number_at text)) × (string_of (found read) ≡ found (string_at text))

other_read : (nested : List ℕ → Read Json) (text : List ℕ) (read : Option (Decimal × List ℕ)) → IsNeither (nested text)
    → (number_of (found (other_value nested text read)) ≡ found read) × (string_of (found (other_value nested text read)) ≡ None)
other_read nested text None is = is
other_read nested text (Some r) is = (refl, refl)

string_read : (read : Read (List ℕ)) → (number_of (found (as_part string read)) ≡ None) × (string_of (found (as_part string read)) ≡ found read)
string_read None = (refl, refl)
string_read (Some r) = (refl, refl)

read_by : (nested : List ℕ → Read Json) (text : List ℕ) (quoted : Bool) → begins 34 text ≡ quoted → IsNeither (nested text) → IsRead text (value_with nested text)
read_by nested text true is none =
    let both = string_read (strings.items 0 (drop 1 text)) in
    (rw (is, quote_alone text is) (both.0), rw is (both.1))
read_by nested text false is none =
    let both = other_read nested text (number_at text) none in
    (rw is (both.0), rw is (both.1))

pub value_read : (depth : ℕ) (text : List ℕ) → IsRead text (value depth text)
unfolding value
value_read zero text = read_by word_at text (begins 34 text) refl (word_alone text)
value_read (suc depth) text = read_by (nested_at (value depth)) text (begins 34 text) refl (nested_alone (value depth) text)

-- a number of digits alone
pub plain_read : (text : List ℕ) (count len : ℕ) → IsPlain text count len → (depth : ℕ)
    → option_and_then plain_digits (number_of (found (value depth text))) ≡ Some (take len text)
plain_read text count len is depth = ap (option_and_then plain_digits) ((value_read depth text).0 ∙ ap found is.number)

is_number : (v : Option Json) (found : Decimal) → number_of v ≡ Some found → unwrap_or v null ≡ number found
is_number None found is = cc
is_number (Some null) found is = cc
is_number (Some (boolean b)) found is = cc
is_number (Some (number n)) found is = let same : n ≡ found = cc in ap number same
is_number (Some (string s)) found is = cc
is_number (Some (array values)) found is = cc
is_number (Some (object all)) found is = cc

pub plain_stands : (text : List ℕ) (count len : ℕ) → IsPlain text count len → (depth : ℕ)
    → standing depth text ≡ number (alone (take len text) (drop len text))
plain_stands text count len is depth = is_number (found (value depth text)) _ ((value_read depth text).0 ∙ ap found is.number)
