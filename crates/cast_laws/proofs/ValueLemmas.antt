-- The values of JSON that a cast writes, one behind another.
use Rattle.std.proofs.Common.{◌≡◌, ℕ, zero, suc, ◌+◌, false, List, ◌∷◌, length, drop, Option, Some, None, if◌then◌else◌, refl, ap, ◌∙◌, arith}
use Rattle.std.specs.List.{prefix_len}
use Rattle.json_bytes.specs.Marks.{begins, is_space, past_mark, past_space}
use Rattle.json_bytes.specs.Numbers.{Decimal, number_at}
use Rattle.json_bytes.specs.Strings as strings
use Rattle.json_bytes.specs.Strings.{string_at}
use Rattle.json_bytes.specs.Values.{Json, Read, array, array_at, as_part, item, items, member, members, named_value, nested_at, no_items, no_members, number, object, object_at, other_value, string, value, word_at}
use Rattle.cast_laws.proofs.NumberLemmas.{BeginsWithDigit}

-- ---- a number and a string

other_by : (nested : List ℕ → Read Json) (text : List ℕ) (read : Option (Decimal × List ℕ)) (n : Decimal) (rest : List ℕ)
    → read ≡ Some (n, rest) → other_value nested text read ≡ Some (number n, rest)
other_by nested text read n rest is = ap (other_value nested text) is

pub number_value : (depth : ℕ) (text : List ℕ) (n : Decimal) (rest : List ℕ) → begins 34 text ≡ false → number_at text ≡ Some (n, rest)
    → value depth text ≡ Some (number n, rest)
unfolding value
number_value zero text n rest other is = rw other (other_by word_at text (number_at text) n rest is)
number_value (suc depth) text n rest other is = rw other (other_by (nested_at (value depth)) text (number_at text) n rest is)

pub string_value : (depth : ℕ) (text bytes rest : List ℕ) → strings.items 0 text ≡ Some (bytes, rest) → value depth (34 ∷ text) ≡ Some (string bytes, rest)
unfolding value
string_value zero text bytes rest is = ap (as_part string) is
string_value (suc depth) text bytes rest is = ap (as_part string) is

-- ---- arrays

pub array_value : (depth : ℕ) (text : List ℕ) → value (suc depth) (91 ∷ text) ≡ as_part array (array_at (value depth) (91 ∷ text))
unfolding value
array_value depth text = refl

no_bracket : (text : List ℕ) → BeginsWithDigit text → past_mark 93 text ≡ None
no_bracket text is =
    ap (λ s. if begins 93 s then Some (past_space (drop 1 s)) else None) is.space
    ∙ ap (λ b. if b then Some (past_space (drop 1 text)) else None) is.bracket

array_inner : (one : List ℕ → Read Json) (text inner : List ℕ) → past_mark 91 text ≡ Some inner → past_mark 93 inner ≡ None
    → array_at one text ≡ items one (length inner) inner
array_inner one text inner opens more = rw (opens, more) refl

pub array_opened : (one : List ℕ → Read Json) (text : List ℕ) → BeginsWithDigit text → array_at one (91 ∷ text) ≡ items one (length text) text
array_opened one text is = array_inner one (91 ∷ text) text (ap (λ s. Some s) is.space) (no_bracket text is)

pub one_item : (one : List ℕ → Read Json) (most : ℕ) (at rest next : List ℕ) (v : Json) → one at ≡ Some (v, rest) → past_mark 93 rest ≡ None → past_mark 44 rest ≡ Some next
    → items one (suc most) at ≡ as_part (item v) (items one most next)
one_item one most at rest next v is goes comma = rw (is, goes, comma) refl

pub last_item : (one : List ℕ → Read Json) (most : ℕ) (at rest end : List ℕ) (v : Json) → one at ≡ Some (v, rest) → past_mark 93 rest ≡ Some end
    → items one (suc most) at ≡ Some (item v no_items, end)
last_item one most at rest end v is close = rw (is, close) refl

-- ---- objects

pub object_value : (depth : ℕ) (text : List ℕ) → value (suc depth) (123 ∷ text) ≡ as_part object (object_at (value depth) (123 ∷ text))
unfolding value
object_value depth text = refl

pub object_opened : (one : List ℕ → Read Json) (text : List ℕ) → object_at one (123 ∷ 34 ∷ text) ≡ members one (length (34 ∷ text)) (34 ∷ text)
object_opened one text = refl

abbrev pub ReadsNamed : (List ℕ → Read Json) → List ℕ → List ℕ → Json → List ℕ → Type 0
ReadsNamed one at name v rest = ◌≡◌ {A = Read (List ℕ × Json)} (named_value one at) (Some ((name, v), rest))

pub named_by : (one : List ℕ → Read Json) (at name after text rest : List ℕ) (v : Json) → string_at at ≡ Some (name, after) → past_mark 58 after ≡ Some text → one text ≡ Some (v, rest)
    → ReadsNamed one at name v rest
named_by one at name after text rest v is colon read = rw (is, colon, read) refl

pub one_member : (one : List ℕ → Read Json) (most : ℕ) (at name rest next : List ℕ) (v : Json) → ReadsNamed one at name v rest → past_mark 125 rest ≡ None → past_mark 44 rest ≡ Some next
    → members one (suc most) at ≡ as_part (member name v) (members one most next)
one_member one most at name rest next v is goes comma = rw (is, goes, comma) refl

pub last_member : (one : List ℕ → Read Json) (most : ℕ) (at name rest end : List ℕ) (v : Json) → ReadsNamed one at name v rest → past_mark 125 rest ≡ Some end
    → members one (suc most) at ≡ Some (member name v no_members, end)
last_member one most at name rest end v is close = rw (is, close) refl

-- a colon and a space before digits
space_then : (text : List ℕ) → past_space (32 ∷ text) ≡ past_space text
space_then text =
    let one : 1 + prefix_len is_space text ≡ suc (prefix_len is_space text) = omega arith in
    ap (λ n. drop n (32 ∷ text)) one

pub colon_then : (text : List ℕ) → BeginsWithDigit text → past_mark 58 (58 ∷ 32 ∷ text) ≡ Some text
colon_then text is = ap (λ s. Some s) (space_then text ∙ is.space)
