-- An array of exactly three values, that is a whole text.
use Rattle.std.proofs.Common.{◌≡◌, ℕ, zero, suc, ◌<◌, Bool, true, false, List, codes, drop, length, nat_eq, Option, Some, None, if◌then◌else◌, refl, ap, ◌∙◌, arith}
use Rattle.std.specs.List.{starts_with}
use Rattle.std.specs.Option.{option_and_then}
use Rattle.json_bytes.specs.Marks.{begins, past_mark, past_space}
use Rattle.json_bytes.specs.Numbers.{Decimal, number_at}
use Rattle.json_bytes.specs.Strings as strings
use Rattle.json_bytes.specs.Values.{Items, Json, Members, Read, array, array_at, as_part, boolean, item, items, json_of, nested_at, no_items, null, number, object, object_at, other_value, rest_of_items, string, three_items, triple_of, value, value_with, whole}
use Rattle.json_bytes.proofs.MemberLemmas.{bracket_alone, either_mark, word_by}

abbrev pub Triple : Type 0
Triple = Json × Json × Json

-- what the items of an array are, where nothing stands behind it
abbrev pub ended_by : Bool → Option Triple → Option Triple
ended_by ended three = if ended then three else None

abbrev pub closed_with : (Items → Option Triple) → Read Items → Option Triple
closed_with f None = None
closed_with f (Some r) = ended_by (nat_eq (length (past_space r.1)) 0) (f r.0)

whole_array : (ended : Bool) (all : Items) → triple_of (if ended then Some (array all) else None) ≡ ended_by ended (three_items all)
whole_array true all = refl
whole_array false all = refl

of_items : (read : Read Items) → triple_of (whole (as_part array read)) ≡ closed_with three_items read
of_items None = refl
of_items (Some r) = whole_array (nat_eq (length (past_space r.1)) 0) r.0

nothing : (ended : Bool) (three : Option Triple) → three ≡ None → ended_by ended three ≡ None
nothing true three is = is
nothing false three is = refl

made : (f : Items → Option Triple) (g : Items → Items) (read : Read Items) → closed_with f (as_part g read) ≡ closed_with (λ all. f (g all)) read
made f g None = refl
made f g (Some r) = refl

never : (f : Items → Option Triple) → ((all : Items) → f all ≡ None) → (read : Read Items) → closed_with f read ≡ None
never f none None = refl
never f none (Some r) = nothing (nat_eq (length (past_space r.1)) 0) (f r.0) (none r.0)

-- behind a comma no array ends
marked_by : (byte : ℕ) (text end : List ℕ) (b : Bool) → begins byte (past_space text) ≡ b → past_mark byte text ≡ Some end → begins byte (past_space text) ≡ true
marked_by byte text end true has is = has
marked_by byte text end false has is = let none : past_mark byte text ≡ None = rw has refl in cc

marked : (byte : ℕ) (text end : List ℕ) → past_mark byte text ≡ Some end → begins byte (past_space text) ≡ true
marked byte text end is = marked_by byte text end (begins byte (past_space text)) refl is

not_both : (text : List ℕ) (b : Bool) → begins 93 text ≡ b → begins 44 text ≡ true → begins 93 text ≡ false
not_both text false has comma = has
not_both text true has comma = let other = either_mark text has in cc

comma_only : (text end : List ℕ) → past_mark 44 text ≡ Some end → past_mark 93 text ≡ None
comma_only text end is =
    let not : begins 93 (past_space text) ≡ false = not_both (past_space text) (begins 93 (past_space text)) refl (marked 44 text end is) in
    rw not refl

-- one item more
pub one_item : (f : Items → Option Triple) (one : List ℕ → Read Json) (most : ℕ) (at rest next : List ℕ) (v : Json) → one at ≡ Some (v, rest) → past_mark 44 rest ≡ Some next
    → closed_with f (items one (suc most) at) ≡ closed_with (λ all. f (item v all)) (items one most next)
one_item f one most at rest next v is comma =
    let only = comma_only rest next comma in
    rw (is, only, comma) (made f (item v) (items one most next))

pub no_value : (f : Items → Option Triple) (one : List ℕ → Read Json) (most : ℕ) (at : List ℕ) → one at ≡ None → closed_with f (items one (suc most) at) ≡ None
no_value f one most at is = rw is refl

alone_by : (f : Items → Option Triple) (more : List ℕ → Read Items) (v : Json) (rest : List ℕ) (end : Option (List ℕ)) → f (item v no_items) ≡ None → past_mark 44 rest ≡ None
    → closed_with f (rest_of_items more v rest end) ≡ None
alone_by f more v rest (Some end) none comma = nothing (nat_eq (length (past_space end)) 0) (f (item v no_items)) none
alone_by f more v rest None none comma = rw comma refl

pub no_comma : (f : Items → Option Triple) (one : List ℕ → Read Json) (most : ℕ) (at rest : List ℕ) (v : Json) → f (item v no_items) ≡ None → one at ≡ Some (v, rest) → past_mark 44 rest ≡ None
    → closed_with f (items one (suc most) at) ≡ None
no_comma f one most at rest v none is comma = rw is (alone_by f (items one most) v rest (past_mark 93 rest) none comma)

pub last_item : (f : Items → Option Triple) (one : List ℕ → Read Json) (most : ℕ) (at rest end : List ℕ) (v : Json) → one at ≡ Some (v, rest) → past_mark 93 rest ≡ Some end
    → closed_with f (items one (suc most) at) ≡ ended_by (nat_eq (length (past_space end)) 0) (f (item v no_items))
last_item f one most at rest end v is closes = rw (is, closes) refl

-- there is at least one item
abbrev pub IsNoneOfItems : (Items → Option Triple) → Type 0
IsNoneOfItems f = (v : Json) (all : Items) → f (item v all) ≡ None

behind_comma : (f : Items → Option Triple) (more : List ℕ → Read Items) (v : Json) (next : Option (List ℕ)) → IsNoneOfItems f
    → closed_with f (option_and_then (λ text. as_part (item v) (more text)) next) ≡ None
behind_comma f more v None none = refl
behind_comma f more v (Some text) none = made f (item v) (more text) ∙ never (λ all. f (item v all)) (none v) (more text)

behind_value : (f : Items → Option Triple) (more : List ℕ → Read Items) (v : Json) (rest : List ℕ) (end : Option (List ℕ)) → IsNoneOfItems f
    → closed_with f (rest_of_items more v rest end) ≡ None
behind_value f more v rest (Some end) none = nothing (nat_eq (length (past_space end)) 0) (f (item v no_items)) (none v no_items)
behind_value f more v rest None none = behind_comma f more v (past_mark 44 rest) none

of_read : (f : Items → Option Triple) (more : List ℕ → Read Items) (read : Read Json) → IsNoneOfItems f
    → closed_with f (option_and_then (λ r. rest_of_items more r.0 r.1 (past_mark 93 r.1)) read) ≡ None
of_read f more None none = refl
of_read f more (Some r) none = behind_value f more r.0 r.1 (past_mark 93 r.1) none

some_items : (f : Items → Option Triple) (one : List ℕ → Read Json) (most : ℕ) (at : List ℕ) → IsNoneOfItems f → closed_with f (items one most at) ≡ None
some_items f one zero at none = refl
some_items f one (suc most) at none = of_read f (items one most) (one at) none

fourth : (a b v : Json) (one : List ℕ → Read Json) (most : ℕ) (next : Option (List ℕ))
    → closed_with (λ all. three_items (item a (item b all))) (option_and_then (λ text. as_part (item v) (items one most text)) next) ≡ None
fourth a b v one most None = refl
fourth a b v one most (Some text) =
    made (λ all. three_items (item a (item b all))) (item v) (items one most text)
    ∙ some_items (λ all. three_items (item a (item b (item v all)))) one most text (λ x all. refl)

pub too_many : (a b : Json) (one : List ℕ → Read Json) (most : ℕ) (at rest : List ℕ) (v : Json) → one at ≡ Some (v, rest) → past_mark 93 rest ≡ None
    → closed_with (λ all. three_items (item a (item b all))) (items one (suc most) at) ≡ None
too_many a b one most at rest v is more = rw (is, more) (fourth a b v one most (past_mark 44 rest))

-- fewer bytes than three values take
few_comma : (f : Items → Option Triple) (more : List ℕ → Read Items) (v : Json) (next : Option (List ℕ))
    → ((w : Json) (text : List ℕ) → closed_with (λ all. f (item w all)) (more text) ≡ None) → closed_with f (option_and_then (λ text. as_part (item v) (more text)) next) ≡ None
few_comma f more v None none = refl
few_comma f more v (Some text) none = made f (item v) (more text) ∙ none v text

few_end : (f : Items → Option Triple) (more : List ℕ → Read Items) (v : Json) (rest : List ℕ) (end : Option (List ℕ)) → f (item v no_items) ≡ None
    → ((w : Json) (text : List ℕ) → closed_with (λ all. f (item w all)) (more text) ≡ None) → closed_with f (rest_of_items more v rest end) ≡ None
few_end f more v rest (Some end) alone none = nothing (nat_eq (length (past_space end)) 0) (f (item v no_items)) alone
few_end f more v rest None alone none = few_comma f more v (past_mark 44 rest) none

few_read : (f : Items → Option Triple) (more : List ℕ → Read Items) (read : Read Json) → ((v : Json) → f (item v no_items) ≡ None)
    → ((w : Json) (text : List ℕ) → closed_with (λ all. f (item w all)) (more text) ≡ None)
    → closed_with f (option_and_then (λ r. rest_of_items more r.0 r.1 (past_mark 93 r.1)) read) ≡ None
few_read f more None alone none = refl
few_read f more (Some r) alone none = few_end f more r.0 r.1 (past_mark 93 r.1) (alone r.0) none

few_one : (w : Json) (one : List ℕ → Read Json) (at : List ℕ) → closed_with (λ all. three_items (item w all)) (items one 1 at) ≡ None
few_one w one at = few_read (λ all. three_items (item w all)) (items one 0) (one at) (λ v. refl) (λ v text. refl)

pub too_few : (one : List ℕ → Read Json) (most : ℕ) (at : List ℕ) → most < 3 → closed_with three_items (items one most at) ≡ None
too_few one zero at lt = refl
too_few one (suc zero) at lt = few_read three_items (items one 0) (one at) (λ v. refl) (λ v text. refl)
too_few one (suc (suc zero)) at lt = few_read three_items (items one 1) (one at) (λ v. refl) (λ v text. few_one v one text)
too_few one (suc (suc (suc most))) at lt = absurd (omega arith)

-- a text that begins with a bracket is an array
pub array_value : (depth : ℕ) (text : List ℕ) → begins 91 text ≡ true → value (suc depth) text ≡ as_part array (array_at (value depth) text)
unfolding value
array_value depth text is = let other = bracket_alone text is in rw (other.0, other.1, is) refl

pub opened : (text first : List ℕ) → begins 91 (past_space text) ≡ true → past_mark 91 (past_space text) ≡ Some first → past_mark 93 first ≡ None
    → triple_of (json_of text) ≡ closed_with three_items (items (value 63) (length first) first)
opened text first is opens more =
    let inside : array_at (value 63) (past_space text) ≡ items (value 63) (length first) first = rw (opens, more) refl in
    ap (λ read. triple_of (whole read)) (array_value 63 (past_space text) is) ∙ of_items (array_at (value 63) (past_space text)) ∙ ap (closed_with three_items) inside

pub opened_empty : (text first end : List ℕ) → begins 91 (past_space text) ≡ true → past_mark 91 (past_space text) ≡ Some first → past_mark 93 first ≡ Some end
    → triple_of (json_of text) ≡ None
opened_empty text first end is opens closes =
    let inside : array_at (value 63) (past_space text) ≡ Some (no_items, end) = rw (opens, closes) refl in
    ap (λ read. triple_of (whole read)) (array_value 63 (past_space text) is) ∙ of_items (array_at (value 63) (past_space text)) ∙ ap (closed_with three_items) inside
    ∙ nothing (nat_eq (length (past_space end)) 0) None refl

pub opened_broken : (text : List ℕ) → begins 91 (past_space text) ≡ true → past_mark 91 (past_space text) ≡ None → triple_of (json_of text) ≡ None
opened_broken text is broken =
    let inside : array_at (value 63) (past_space text) ≡ None = rw broken refl in
    ap (λ read. triple_of (whole read)) (array_value 63 (past_space text) is) ∙ of_items (array_at (value 63) (past_space text)) ∙ ap (closed_with three_items) inside

-- and any other is none
other_by : (ended : Bool) (v : Json) → triple_of (Some v) ≡ None → triple_of (if ended then Some v else None) ≡ None
other_by true v is = is
other_by false v is = refl

not_string : (read : Read (List ℕ)) → triple_of (whole (as_part string read)) ≡ None
not_string None = refl
not_string (Some r) = other_by (nat_eq (length (past_space r.1)) 0) (string r.0) refl

not_object : (read : Read Members) → triple_of (whole (as_part object read)) ≡ None
not_object None = refl
not_object (Some r) = other_by (nat_eq (length (past_space r.1)) 0) (object r.0) refl

not_word : (a b c : Bool) (text : List ℕ) → triple_of (whole (word_by a b c text)) ≡ None
not_word true b c text = other_by (nat_eq (length (past_space (drop 4 text))) 0) (boolean true) refl
not_word false true c text = other_by (nat_eq (length (past_space (drop 5 text))) 0) (boolean false) refl
not_word false false true text = other_by (nat_eq (length (past_space (drop 4 text))) 0) null refl
not_word false false false text = refl

not_nested : (one : List ℕ → Read Json) (text : List ℕ) (braced : Bool) → begins 91 text ≡ false → begins 123 text ≡ braced → triple_of (whole (nested_at one text)) ≡ None
not_nested one text true other is = rw (other, is) (not_object (object_at one text))
not_nested one text false other is =
    rw (other, is) (not_word (starts_with nat_eq text (codes "true")) (starts_with nat_eq text (codes "false")) (starts_with nat_eq text (codes "null")) text)

not_other : (one : List ℕ → Read Json) (text : List ℕ) (read : Option (Decimal × List ℕ)) → begins 91 text ≡ false
    → triple_of (whole (other_value (nested_at one) text read)) ≡ None
not_other one text None other = not_nested one text (begins 123 text) other refl
not_other one text (Some r) other = other_by (nat_eq (length (past_space r.1)) 0) (number r.0) refl

not_by : (one : List ℕ → Read Json) (text : List ℕ) (quoted : Bool) → begins 34 text ≡ quoted → begins 91 text ≡ false
    → triple_of (whole (value_with (nested_at one) text)) ≡ None
not_by one text true is other = rw is (not_string (strings.items 0 (drop 1 text)))
not_by one text false is other = rw is (not_other one text (number_at text) other)

pub not_opened : (text : List ℕ) → begins 91 (past_space text) ≡ false → triple_of (json_of text) ≡ None
unfolding value
not_opened text other = not_by (value 63) (past_space text) (begins 34 (past_space text)) refl other
