-- The values of JSON, and the texts that they are. RFC 8259, sections 2 to 5.
use Rattle.std.specs.Prelude.{ℕ, zero, suc, Bool, true, false, List, codes, length, drop, nat_eq, ◌==◌, Option, Some, None, if◌then◌else◌}
use Rattle.std.specs.Cmp.Lexicographic.{pointwise}
use Rattle.std.specs.List.{starts_with}
use Rattle.std.specs.Option.{option_and_then, option_map}
use Rattle.json_bytes.specs.Marks.{begins, past_mark, past_space}
use Rattle.json_bytes.specs.Numbers.{Decimal, number_at}
use Rattle.json_bytes.specs.Strings.{string_at}

-- A value: a number by its text, a string by the bytes that it means.
mutual
  pub data Json : Type 0 where
    null : Json
    boolean : Bool → Json
    number : Decimal → Json
    string : List ℕ → Json
    array : Items → Json
    object : Members → Json

  pub data Items : Type 0 where
    no_items : Items
    item : Json → Items → Items

  pub data Members : Type 0 where
    no_members : Members
    member : List ℕ → Json → Members → Members

-- What stands at the front of a text, and behind it.
abbrev pub Read : Type 0 → Type 0
Read A = Option (A × List ℕ)

-- The same, made into something else.
abbrev pub as_part : {A B : Type 0} → (A → B) → Read A → Read B
as_part f read = option_map (λ r. (f r.0, r.1)) read

-- *( value-separator value ) end-array, behind a value.
abbrev pub rest_of_items : (List ℕ → Read Items) → Json → List ℕ → Option (List ℕ) → Read Items
rest_of_items more value text (Some behind) = Some (item value no_items, behind)
rest_of_items more value text None = option_and_then (λ next. as_part (item value) (more next)) (past_mark 44 text)

-- Values with commas between, up to the bracket; at most so many of them.
abbrev pub items : (List ℕ → Read Json) → ℕ → List ℕ → Read Items
items value zero text = None
items value (suc most) text =
    option_and_then (λ r. rest_of_items (items value most) r.0 r.1 (past_mark 93 r.1)) (value text)

-- array = begin-array [ value *( value-separator value ) ] end-array. There are no more values than bytes.
abbrev pub behind_bracket : (List ℕ → Read Json) → List ℕ → Option (List ℕ) → Read Items
behind_bracket value text (Some behind) = Some (no_items, behind)
behind_bracket value text None = items value (length text) text

abbrev pub array_at : (List ℕ → Read Json) → List ℕ → Read Items
array_at value text = option_and_then (λ inner. behind_bracket value inner (past_mark 93 inner)) (past_mark 91 text)

-- member = string name-separator value
abbrev pub named_value : (List ℕ → Read Json) → List ℕ → Read (List ℕ × Json)
named_value value text =
    option_and_then (λ name. option_and_then (λ text. as_part (λ v. (name.0, v)) (value text)) (past_mark 58 name.1))
    (string_at text)

abbrev pub rest_of_members : (List ℕ → Read Members) → List ℕ × Json → List ℕ → Option (List ℕ) → Read Members
rest_of_members more named text (Some behind) = Some (member named.0 named.1 no_members, behind)
rest_of_members more named text None =
    option_and_then (λ next. as_part (member named.0 named.1) (more next)) (past_mark 44 text)

abbrev pub members : (List ℕ → Read Json) → ℕ → List ℕ → Read Members
members value zero text = None
members value (suc most) text =
    option_and_then (λ r. rest_of_members (members value most) r.0 r.1 (past_mark 125 r.1)) (named_value value text)

-- object = begin-object [ member *( value-separator member ) ] end-object
abbrev pub behind_brace : (List ℕ → Read Json) → List ℕ → Option (List ℕ) → Read Members
behind_brace value text (Some behind) = Some (no_members, behind)
behind_brace value text None = members value (length text) text

abbrev pub object_at : (List ℕ → Read Json) → List ℕ → Read Members
object_at value text = option_and_then (λ inner. behind_brace value inner (past_mark 125 inner)) (past_mark 123 text)

-- false, true, null
abbrev pub word_at : List ℕ → Read Json
word_at text =
    if starts_with nat_eq text (codes "true") then Some (boolean true, drop 4 text)
    else if starts_with nat_eq text (codes "false") then Some (boolean false, drop 5 text)
    else if starts_with nat_eq text (codes "null") then Some (null, drop 4 text)
    else None

-- An array or an object, with values inside that are read so, or a word.
abbrev pub nested_at : (List ℕ → Read Json) → List ℕ → Read Json
nested_at inner text =
    if begins 91 text then as_part array (array_at inner text)
    else if begins 123 text then as_part object (object_at inner text)
    else word_at text

-- value = false / null / true / object / array / number / string
abbrev pub other_value : (List ℕ → Read Json) → List ℕ → Option (Decimal × List ℕ) → Read Json
other_value nested text (Some found) = Some (number found.0, found.1)
other_value nested text None = nested text

abbrev pub value_with : (List ℕ → Read Json) → List ℕ → Read Json
value_with nested text =
    if begins 34 text then as_part string (string_at text) else other_value nested text (number_at text)

-- The value at the front, with arrays and objects at most so deep, the outermost one counted (ours).
unfoldable pub value : ℕ → List ℕ → Read Json
value zero text = value_with word_at text
value (suc depth) text = value_with (nested_at (value depth)) text

abbrev pub deepest : ℕ
deepest = 64

-- JSON-text = ws value ws: the value that a whole text is.
abbrev pub whole : Read Json → Option Json
whole None = None
whole (Some read) = if length (past_space read.1) == 0 then Some read.0 else None

abbrev pub json_of : List ℕ → Option Json
json_of text = whole (value deepest (past_space text))

-- What was read, and what stands behind it.
abbrev pub found : {A : Type 0} → Read A → Option A
found read = option_map (λ r. r.0) read

abbrev pub behind : {A : Type 0} → Read A → Option (List ℕ)
behind read = option_map (λ r. r.1) read

-- The value of the last member of this name (ours).
abbrev pub last_named : List ℕ → Option Json → Members → Option Json
last_named name before no_members = before
last_named name before (member other value more) =
    last_named name (if pointwise nat_eq other name then Some value else before) more

abbrev pub member_of : List ℕ → Option Json → Option Json
member_of name None = None
member_of name (Some null) = None
member_of name (Some (boolean b)) = None
member_of name (Some (number n)) = None
member_of name (Some (string s)) = None
member_of name (Some (array values)) = None
member_of name (Some (object all)) = last_named name None all

-- A number, and a string.
abbrev pub number_of : Option Json → Option Decimal
number_of None = None
number_of (Some null) = None
number_of (Some (boolean b)) = None
number_of (Some (number n)) = Some n
number_of (Some (string s)) = None
number_of (Some (array values)) = None
number_of (Some (object all)) = None

abbrev pub string_of : Option Json → Option (List ℕ)
string_of None = None
string_of (Some null) = None
string_of (Some (boolean b)) = None
string_of (Some (number n)) = None
string_of (Some (string s)) = Some s
string_of (Some (array values)) = None
string_of (Some (object all)) = None

-- Three values, where there are all three.
abbrev pub tripled : Option Json → Option Json → Option Json → Option (Json × Json × Json)
tripled a b c = option_and_then (λ x. option_and_then (λ y. option_map (λ z. (x, y, z)) c) b) a

-- An array of exactly three values.
abbrev pub three_items : Items → Option (Json × Json × Json)
three_items no_items = None
three_items (item a no_items) = None
three_items (item a (item b no_items)) = None
three_items (item a (item b (item c no_items))) = Some (a, b, c)
three_items (item a (item b (item c (item d more)))) = None

abbrev pub triple_of : Option Json → Option (Json × Json × Json)
triple_of None = None
triple_of (Some null) = None
triple_of (Some (boolean b)) = None
triple_of (Some (number n)) = None
triple_of (Some (string s)) = None
triple_of (Some (array values)) = three_items values
triple_of (Some (object all)) = None
