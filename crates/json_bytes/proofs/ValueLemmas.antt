-- Values between brackets and braces.
use Rattle.std.proofs.Common.{◌≡◌, ℕ, zero, suc, ◌+◌, ◌-◌, ◌<◌, List, drop, length, true, false, Option, Some, None, refl, ap, ◌∙◌, arith, unwrap_or}
use Rattle.std.specs.Option.{option_and_then}
use Rattle.json_bytes.specs.Listed.{standing}
use Rattle.json_bytes.specs.Marks.{begins, past_mark}
use Rattle.json_bytes.specs.Numbers.{Decimal, number_at}
use Rattle.json_bytes.specs.Strings as strings
use Rattle.json_bytes.specs.Strings.{string_at}
use Rattle.json_bytes.specs.Values.{Items, Json, Members, Read, array, array_at, as_part, behind, found, item, items, member, members, named_value, nested_at, null, object, object_at, other_value, rest_of_items, rest_of_members, string, value, word_at}

-- what stands behind isn't changed by what is made of what was read
pub same_behind : {A B : Type 0} (f : A → B) (read : Read A) → behind (as_part f read) ≡ behind read
same_behind f None = refl
same_behind f (Some r) = refl

-- what stands behind a value and then, where the bracket, a comma, or neither does
abbrev pub after_value : (List ℕ → Option (List ℕ)) → Option (List ℕ) → Option (List ℕ) → Option (List ℕ)
after_value more (Some end) comma = Some end
after_value more None comma = option_and_then more comma

after_comma : (more : List ℕ → Read Items) (v : Json) (comma : Option (List ℕ))
    → behind (option_and_then (λ next. as_part (item v) (more next)) comma) ≡ option_and_then (λ next. behind (more next)) comma
after_comma more v None = refl
after_comma more v (Some next) = same_behind (item v) (more next)

after_item : (more : List ℕ → Read Items) (v : Json) (text : List ℕ) (end : Option (List ℕ))
    → behind (rest_of_items more v text end) ≡ after_value (λ next. behind (more next)) end (past_mark 44 text)
after_item more v text (Some end) = refl
after_item more v text None = after_comma more v (past_mark 44 text)

one_item : (more : List ℕ → Read Items) (read : Read Json)
    → behind (option_and_then (λ r. rest_of_items more r.0 r.1 (past_mark 93 r.1)) read)
    ≡ option_and_then (λ rest. after_value (λ next. behind (more next)) (past_mark 93 rest) (past_mark 44 rest)) (behind read)
one_item more None = refl
one_item more (Some r) = after_item more r.0 r.1 (past_mark 93 r.1)

-- the items of an array, by what stands behind them
pub items_more : (one : List ℕ → Read Json) (most : ℕ) (text : List ℕ)
    → behind (items one (suc most) text)
    ≡ option_and_then (λ rest. after_value (λ next. behind (items one most next)) (past_mark 93 rest) (past_mark 44 rest)) (behind (one text))
items_more one most text = one_item (items one most) (one text)

-- and so for the members of an object
after_name : (more : List ℕ → Read Members) (named : List ℕ × Json) (comma : Option (List ℕ))
    → behind (option_and_then (λ next. as_part (member named.0 named.1) (more next)) comma) ≡ option_and_then (λ next. behind (more next)) comma
after_name more named None = refl
after_name more named (Some next) = same_behind (member named.0 named.1) (more next)

after_member : (more : List ℕ → Read Members) (named : List ℕ × Json) (text : List ℕ) (end : Option (List ℕ))
    → behind (rest_of_members more named text end) ≡ after_value (λ next. behind (more next)) end (past_mark 44 text)
after_member more named text (Some end) = refl
after_member more named text None = after_name more named (past_mark 44 text)

one_member : (more : List ℕ → Read Members) (read : Read (List ℕ × Json))
    → behind (option_and_then (λ r. rest_of_members more r.0 r.1 (past_mark 125 r.1)) read)
    ≡ option_and_then (λ rest. after_value (λ next. behind (more next)) (past_mark 125 rest) (past_mark 44 rest)) (behind read)
one_member more None = refl
one_member more (Some r) = after_member more r.0 r.1 (past_mark 125 r.1)

pub members_more : (one : List ℕ → Read Json) (most : ℕ) (text : List ℕ)
    → behind (members one (suc most) text)
    ≡ option_and_then (λ rest. after_value (λ next. behind (members one most next)) (past_mark 125 rest) (past_mark 44 rest)) (behind (named_value one text))
members_more one most text = one_member (members one most) (named_value one text)

-- a member ends where its value does
behind_colon : (one : List ℕ → Read Json) (name : List ℕ) (colon : Option (List ℕ))
    → behind {A = List ℕ × Json} (option_and_then (λ text. as_part (λ v. (name, v)) (one text)) colon) ≡ option_and_then (λ text. behind (one text)) colon
behind_colon one name None = refl
behind_colon one name (Some text) = let named : Json → List ℕ × Json = λ v. (name, v) in same_behind named (one text)

named_from : (one : List ℕ → Read Json) (name : Read (List ℕ))
    → behind {A = List ℕ × Json} (option_and_then (λ n. option_and_then (λ text. as_part (λ v. (n.0, v)) (one text)) (past_mark 58 n.1)) name)
    ≡ option_and_then (λ rest. option_and_then (λ text. behind (one text)) (past_mark 58 rest)) (behind name)
named_from one None = refl
named_from one (Some n) = behind_colon one n.0 (past_mark 58 n.1)

pub named_behind : (one : List ℕ → Read Json) (text : List ℕ)
    → behind (named_value one text) ≡ option_and_then (λ rest. option_and_then (λ at. behind (one at)) (past_mark 58 rest)) (behind (string_at text))
named_behind one text = named_from one (string_at text)

-- a value, by what it begins with
pub value_string : (depth : ℕ) (text : List ℕ) → begins 34 text ≡ true → behind (value depth text) ≡ behind (string_at text)
unfolding value
value_string zero text is = rw is (same_behind string (strings.items 0 (drop 1 text)))
value_string (suc depth) text is = rw is (same_behind string (strings.items 0 (drop 1 text)))

a_number : (nested : List ℕ → Read Json) (text rest : List ℕ) (read : Option (Decimal × List ℕ)) → behind read ≡ Some rest
    → behind (other_value nested text read) ≡ Some rest
a_number nested text rest None is = cc
a_number nested text rest (Some r) is = is

no_number : (nested : List ℕ → Read Json) (text : List ℕ) (read : Option (Decimal × List ℕ)) → behind read ≡ None
    → behind (other_value nested text read) ≡ behind (nested text)
no_number nested text None is = refl
no_number nested text (Some r) is = cc

pub value_number : (depth : ℕ) (text rest : List ℕ) → begins 34 text ≡ false → behind (number_at text) ≡ Some rest → behind (value depth text) ≡ Some rest
unfolding value
value_number zero text rest other is = rw other (a_number word_at text rest (number_at text) is)
value_number (suc depth) text rest other is = rw other (a_number (nested_at (value depth)) text rest (number_at text) is)

read_by : (read : Read Json) (rest : List ℕ) → behind read ≡ Some rest → Some (unwrap_or (found read) null, rest) ≡ read
read_by None rest is = cc
read_by (Some r) rest is = let same : rest ≡ r.1 = cc in ap (λ t. Some (r.0, t)) same

pub number_stands : (depth : ℕ) (text rest : List ℕ) → begins 34 text ≡ false → behind (number_at text) ≡ Some rest → Some (standing depth text, rest) ≡ value depth text
number_stands depth text rest other is = read_by (value depth text) rest (value_number depth text rest other is)

pub value_word : (depth : ℕ) (text : List ℕ) → depth ≡ 0 → begins 34 text ≡ false → behind (number_at text) ≡ None
    → behind (value depth text) ≡ behind (word_at text)
unfolding value
value_word zero text flat other none = rw other (no_number word_at text (number_at text) none)
value_word (suc depth) text flat other none = absurd (omega arith)

pub value_nested : (depth less : ℕ) (text : List ℕ) → depth ≡ less + 1 → begins 34 text ≡ false → behind (number_at text) ≡ None
    → behind (value depth text) ≡ behind (nested_at (value less) text)
unfolding value
value_nested zero less text deep other none = absurd (omega arith)
value_nested (suc depth) less text deep other none =
    let same : depth ≡ less = omega arith in
    rw other (no_number (nested_at (value depth)) text (number_at text) none ∙ ap (λ d. behind (nested_at (value d) text)) same)

-- what stands behind an array, and behind an object
pub nested_array : (one : List ℕ → Read Json) (text : List ℕ) → begins 91 text ≡ true → behind (nested_at one text) ≡ behind (array_at one text)
nested_array one text is = rw is (same_behind array (array_at one text))

pub nested_object : (one : List ℕ → Read Json) (text : List ℕ) → begins 91 text ≡ false → begins 123 text ≡ true
    → behind (nested_at one text) ≡ behind (object_at one text)
nested_object one text other is = rw (other, is) (same_behind object (object_at one text))

pub nested_word : (one : List ℕ → Read Json) (text : List ℕ) → begins 91 text ≡ false → begins 123 text ≡ false
    → behind (nested_at one text) ≡ behind (word_at text)
nested_word one text other is = rw (other, is) refl

-- the items inside, one after another
pub array_inner : (one : List ℕ → Read Json) (text inner : List ℕ) → past_mark 91 text ≡ Some inner → past_mark 93 inner ≡ None
    → behind (array_at one text) ≡ behind (items one (length inner) inner)
array_inner one text inner opens more = rw (opens, more) refl

pub object_inner : (one : List ℕ → Read Json) (text inner : List ℕ) → past_mark 123 text ≡ Some inner → past_mark 125 inner ≡ None
    → behind (object_at one text) ≡ behind (members one (length inner) inner)
object_inner one text inner opens more = rw (opens, more) refl

abbrev pub more_items : (List ℕ → Read Json) → ℕ → List ℕ → Option (List ℕ)
more_items one most text = behind (items one most text)

abbrev pub more_members : (List ℕ → Read Json) → ℕ → List ℕ → Option (List ℕ)
more_members one most text = behind (members one most text)

pub item_here : (one : List ℕ → Read Json) (most count : ℕ) (at rest : List ℕ) → count < most → behind (one at) ≡ Some rest
    → behind (items one (most - count) at) ≡ after_value (more_items one (most - (count + 1))) (past_mark 93 rest) (past_mark 44 rest)
item_here one most count at rest lt is =
    let more : most - count ≡ suc (most - (count + 1)) = omega arith in
    rw more (items_more one (most - (count + 1)) at ∙ rw is refl)

pub member_here : (one : List ℕ → Read Json) (most count : ℕ) (at : List ℕ) → count < most
    → behind (members one (most - count) at)
    ≡ option_and_then (λ rest. after_value (more_members one (most - (count + 1))) (past_mark 125 rest) (past_mark 44 rest)) (behind (named_value one at))
member_here one most count at lt =
    let more : most - count ≡ suc (most - (count + 1)) = omega arith in
    rw more (members_more one (most - (count + 1)) at)

-- what begins with a quote is a string
pub quoted_value : (depth : ℕ) (text : List ℕ) → begins 34 text ≡ true → value depth text ≡ as_part string (string_at text)
unfolding value
quoted_value zero text is = rw is refl
quoted_value (suc depth) text is = rw is refl
