-- What stands behind a value at the front of a text, where more stands behind the text, unless the text ends with the value.
use Rattle.std.proofs.Common.{◌≡◌, ℕ, zero, suc, ◌+◌, ◌<◌, ◌≤◌, Bool, true, false, codes, List, [], ◌∷◌, ◌++◌, length, drop, nat_eq, Option, Some, None, if◌then◌else◌, ◌⊎◌, inl, inr, refl, ap, subst, sym, ◌∙◌, arith, length-append}
use Rattle.std.specs.List.{prefix_len, starts_with}
use Rattle.std.specs.Option.{option_and_then}
use Rattle.std.proofs.lemmas.Bool.Decides.{nat_tests}
use Rattle.std.proofs.lemmas.List.{drop-append-le, length-drop}
use Rattle.std.proofs.lemmas.Option.{same_Some}
use Rattle.json_bytes.specs.Strings.{string_at}
use Rattle.json_bytes.specs.Marks.{begins, is_space, past_mark, past_space}
use Rattle.json_bytes.proofs.MemberLemmas.{IsNested, brace_alone, bracket_alone, first_byte}
use Rattle.json_bytes.proofs.ValueLemmas.{after_value, members_more, named_behind, nested_array, nested_object, nested_word, value_nested, value_number, value_string, value_word}
use Rattle.json_bytes.proofs.ValueLemmas as lemmas
use Rattle.json_bytes.specs.Values as values
use Rattle.json_bytes.specs.Values.{Json, Read, array_at, behind, behind_brace, behind_bracket, boolean, members, named_value, nested_at, null, object_at, value, word_at}
use Rattle.json_bytes.specs.Numbers.{Decimal, number_at}
use Rattle.json_bytes.proofs.FrontLemmas.{starts_more, begins_more, begun, marked, mark_more, no_mark, is_stop, Stops, stops_some, number_more}
use Rattle.json_bytes.proofs.StringFronts.{string_more}

-- the words
abbrev word_read : Bool → Bool → Bool → List ℕ → Option (List ℕ)
word_read one two three text = if one then Some (drop 4 text) else if two then Some (drop 5 text) else if three then Some (drop 4 text) else None

word_by : (one two three : Bool) (text : List ℕ)
    → behind {A = Json} (if one then Some (boolean true, drop 4 text) else if two then Some (boolean false, drop 5 text) else if three then Some (null, drop 4 text) else None)
    ≡ word_read one two three text
word_by true two three text = refl
word_by false true three text = refl
word_by false false true text = refl
word_by false false false text = refl

drop_by : (n : ℕ) (text rest more : List ℕ) → drop n text ≡ rest → 0 < length rest → drop n (text ++ more) ≡ rest ++ more
drop_by n text rest more is some =
    drop-append-le n text more (omega (arith, length-drop n text, ap length is, some)) ∙ ap (λ t. t ++ more) is

four_long : (one two three : Bool) (text rest : List ℕ) → word_read one two three text ≡ Some rest → 0 < length rest → 4 < length text
four_long true two three text rest is some = omega (arith, length-drop 4 text, ap length (same_Some (drop 4 text) rest is), some)
four_long false true three text rest is some = omega (arith, length-drop 5 text, ap length (same_Some (drop 5 text) rest is), some)
four_long false false true text rest is some = omega (arith, length-drop 4 text, ap length (same_Some (drop 4 text) rest is), some)
four_long false false false text rest is some = cc

word_read_more : (one two three : Bool) (text rest more : List ℕ) → word_read one two three text ≡ Some rest → 0 < length rest → word_read one two three (text ++ more) ≡ Some (rest ++ more)
word_read_more true two three text rest more is some = ap (λ t. Some t) (drop_by 4 text rest more (same_Some (drop 4 text) rest is) some)
word_read_more false true three text rest more is some = ap (λ t. Some t) (drop_by 5 text rest more (same_Some (drop 5 text) rest is) some)
word_read_more false false true text rest more is some = ap (λ t. Some t) (drop_by 4 text rest more (same_Some (drop 4 text) rest is) some)
word_read_more false false false text rest more is some = cc

word_more : (text rest more : List ℕ) → behind (word_at text) ≡ Some rest → 0 < length rest → behind (word_at (text ++ more)) ≡ Some (rest ++ more)
word_more text rest more is some =
    let one = starts_with nat_eq text (codes "true") in
    let two = starts_with nat_eq text (codes "false") in
    let three = starts_with nat_eq text (codes "null") in
    let own : word_read one two three text ≡ Some rest = sym (word_by one two three text) ∙ is in
    let long = four_long one two three text rest own some in
    let all = text ++ more in
    word_by (starts_with nat_eq all (codes "true")) (starts_with nat_eq all (codes "false")) (starts_with nat_eq all (codes "null")) all
    ∙ ap (λ b. word_read b (starts_with nat_eq all (codes "false")) (starts_with nat_eq all (codes "null")) all) (starts_more (codes "true") text more (omega arith))
    ∙ ap (λ b. word_read one b (starts_with nat_eq all (codes "null")) all) (starts_more (codes "false") text more (omega arith))
    ∙ ap (λ b. word_read one two b all) (starts_more (codes "null") text more (omega arith))
    ∙ word_read_more one two three text rest more own some

-- a text that a mark stands at the front of ends a number
space_or : (byte b : ℕ) (bs : List ℕ) (space : Bool) → is_space b ≡ space → (byte ≡ 44) ⊎ ((byte ≡ 93) ⊎ (byte ≡ 125)) → begins byte (past_space (b ∷ bs)) ≡ true → is_stop b ≡ true
space_or byte b bs true is marks found = rw is refl
space_or byte b bs false is marks found =
    let len : prefix_len is_space (b ∷ bs) ≡ 0 = rw (is, prefix_len) refl in
    let here : begins byte (b ∷ bs) ≡ true = sym (ap (λ n. begins byte (drop n (b ∷ bs))) len) ∙ found in
    let same : b ≡ byte = first_byte byte b bs here in
    elim marks [
      | inl comma ↦ rw (same, comma) refl
      | inr others ↦ elim others [ inl bracket ↦ rw (same, bracket) refl | inr brace ↦ rw (same, brace) refl ]
    ]

pub mark_stops : (byte : ℕ) (text rest : List ℕ) → (byte ≡ 44) ⊎ ((byte ≡ 93) ⊎ (byte ≡ 125)) → past_mark byte text ≡ Some rest → Stops text
mark_stops byte [] rest marks is = cc
mark_stops byte (b ∷ bs) rest marks is =
    space_or byte b bs (is_space b) refl marks ((marked (begins byte (past_space (b ∷ bs))) (past_space (drop 1 (past_space (b ∷ bs)))) rest is).0)

-- values that are read so stay where more stands behind them
abbrev pub Stays : (List ℕ → Option (List ℕ)) → List ℕ → Type 0
Stays one more = (text rest : List ℕ) → one text ≡ Some rest → Stops rest → one (text ++ more) ≡ Some (rest ++ more)

some_next : (next : List ℕ → Option (List ℕ)) (text rest : List ℕ) → ((r : List ℕ) → next [] ≡ Some r → ⊥) → next text ≡ Some rest → 0 < length text
some_next next [] rest empty is = absurd (empty rest is)
some_next next (b ∷ bs) rest empty is = omega arith

-- what comes behind a value: the end, or a comma and more
after_by : (close : ℕ) (closes : (close ≡ 93) ⊎ (close ≡ 125)) (next next_more : List ℕ → Option (List ℕ)) (at rest more : List ℕ) (end comma : Option (List ℕ))
    → past_mark close at ≡ end → past_mark 44 at ≡ comma
    → ((t r : List ℕ) → next t ≡ Some r → Stops r → next_more (t ++ more) ≡ Some (r ++ more))
    → ((r : List ℕ) → next [] ≡ Some r → ⊥)
    → after_value next end comma ≡ Some rest → Stops rest
    → Stops at × (after_value next_more (past_mark close (at ++ more)) (past_mark 44 (at ++ more)) ≡ Some (rest ++ more))
after_by close closes next next_more at rest more (Some end) comma ends commas later empty is stops =
    let same : end ≡ rest = same_Some end rest is in
    let found = mark_more close at end more ends in
    let next_is = found.same (stops_some end (subst Stops (sym same) stops)) ∙ ap (λ t. t ++ more) same in (
      mark_stops close at end (inr closes) ends,
      ap (λ e. after_value next_more e (past_mark 44 (at ++ more))) found.is ∙ ap (λ t. Some t) next_is,
    )
after_by close closes next next_more at rest more None None ends commas later empty is stops = cc
after_by close closes next next_more at rest more None (Some t) ends commas later empty is stops =
    let found = mark_more 44 at t more commas in
    let some : 0 < length t = some_next next t rest empty is in (
      mark_stops 44 at t (inl refl) commas,
      ap (λ e. after_value next_more e (past_mark 44 (at ++ more))) (no_mark close at more ends found.some)
          ∙ ap (option_and_then next_more) found.is ∙ ap next_more (found.same some) ∙ later t rest is stops,
    )

mark_some : (byte : ℕ) (text rest : List ℕ) → past_mark byte text ≡ Some rest → 0 < length text
mark_some byte [] rest is = cc
mark_some byte (b ∷ bs) rest is = omega arith

-- items
abbrev Empty : (List ℕ → Option (List ℕ)) → Type 0
Empty one = (rest : List ℕ) → one [] ≡ Some rest → ⊥

none_then : (f : List ℕ → Option (List ℕ)) (o : Option (List ℕ)) (rest : List ℕ) → ((r : List ℕ) → o ≡ Some r → ⊥) → option_and_then f o ≡ Some rest → ⊥
none_then f None rest none is = cc
none_then f (Some r) rest none is = none r refl

items_empty : (one : List ℕ → Read Json) (most : ℕ) → Empty (λ t. behind (one t)) → Empty (λ t. behind (values.items one most t))
items_empty one zero none rest is = cc
items_empty one (suc most) none rest is =
    none_then (λ rest. after_value (λ next. behind (values.items one most next)) (past_mark 93 rest) (past_mark 44 rest)) (behind (one [])) rest none (sym (lemmas.items_more one most []) ∙ is)

items_by : (one : List ℕ → Read Json) (more : List ℕ) (few many : ℕ) (text rest : List ℕ) (first : Option (List ℕ)) → behind (one text) ≡ first
    → Stays (λ t. behind (one t)) more → Empty (λ t. behind (values.items one few t))
    → ((t r : List ℕ) → behind (values.items one few t) ≡ Some r → Stops r → behind (values.items one many (t ++ more)) ≡ Some (r ++ more))
    → option_and_then (λ rest. after_value (λ next. behind (values.items one few next)) (past_mark 93 rest) (past_mark 44 rest)) first ≡ Some rest → Stops rest
    → option_and_then (λ rest. after_value (λ next. behind (values.items one many next)) (past_mark 93 rest) (past_mark 44 rest)) (behind (one (text ++ more))) ≡ Some (rest ++ more)
items_by one more few many text rest None is stays empty later found stops = cc
items_by one more few many text rest (Some at) is stays empty later found stops =
    let parts = after_by 93 (inl refl) (λ t. behind (values.items one few t)) (λ t. behind (values.items one many t)) at rest more (past_mark 93 at) (past_mark 44 at) refl refl
    later empty found stops in
    ap (option_and_then (λ rest. after_value (λ next. behind (values.items one many next)) (past_mark 93 rest) (past_mark 44 rest))) (stays text at is (parts.0)) ∙ parts.1

items_stay : (one : List ℕ → Read Json) (more : List ℕ) (few many : ℕ) → few ≤ many → Stays (λ t. behind (one t)) more → Empty (λ t. behind (one t))
    → (text rest : List ℕ) → behind (values.items one few text) ≡ Some rest → Stops rest → behind (values.items one many (text ++ more)) ≡ Some (rest ++ more)
items_stay one more zero many le stays none text rest is stops = cc
items_stay one more (suc few) zero le stays none text rest is stops = absurd (omega arith)
items_stay one more (suc few) (suc many) le stays none text rest is stops =
    lemmas.items_more one many (text ++ more)
    ∙ items_by one more few many text rest (behind (one text)) refl stays (items_empty one few none)
    (λ t r found ends. items_stay one more few many (omega arith) stays none t r found ends) (sym (lemmas.items_more one few text) ∙ is) stops

-- members
named_by : (one : List ℕ → Read Json) (text rest more : List ℕ) (name : Option (List ℕ × List ℕ)) (colon : Option (List ℕ)) (at : List ℕ)
    → past_mark 58 at ≡ colon → Stays (λ t. behind (one t)) more → Empty (λ t. behind (one t)) → option_and_then (λ t. behind (one t)) colon ≡ Some rest → Stops rest
    → option_and_then (λ t. behind (one t)) (past_mark 58 (at ++ more)) ≡ Some (rest ++ more)
named_by one text rest more name None at is stays none found stops = cc
named_by one text rest more name (Some t) at is stays none found stops =
    let mark = mark_more 58 at t more is in
    let some : 0 < length t = some_next (λ t. behind (one t)) t rest none found in
    ap (option_and_then (λ t. behind (one t))) mark.is ∙ ap (λ t. behind (one t)) (mark.same some) ∙ stays t rest found stops

name_by : (one : List ℕ → Read Json) (text rest more : List ℕ) (name : Option (List ℕ × List ℕ)) → string_at text ≡ name → Stays (λ t. behind (one t)) more → Empty (λ t. behind (one t))
    → option_and_then (λ rest. option_and_then (λ t. behind (one t)) (past_mark 58 rest)) (behind name) ≡ Some rest → Stops rest
    → option_and_then (λ rest. option_and_then (λ t. behind (one t)) (past_mark 58 rest)) (behind (string_at (text ++ more))) ≡ Some (rest ++ more)
name_by one text rest more None is stays none found stops = cc
name_by one text rest more (Some r) is stays none found stops =
    ap (λ s. option_and_then (λ rest. option_and_then (λ t. behind (one t)) (past_mark 58 rest)) (behind s)) (string_more text more r is)
    ∙ named_by one text rest more (Some r) (past_mark 58 (r.1)) (r.1) refl stays none found stops

named_stays : (one : List ℕ → Read Json) (more : List ℕ) → Stays (λ t. behind (one t)) more → Empty (λ t. behind (one t)) → Stays (λ t. behind (named_value one t)) more
named_stays one more stays none text rest is stops =
    named_behind one (text ++ more) ∙ name_by one text rest more (string_at text) refl stays none (sym (named_behind one text) ∙ is) stops

named_empty : (one : List ℕ → Read Json) → Empty (λ t. behind (named_value one t))
named_empty one rest is = let no : None ≡ Some rest = is in cc

members_empty : (one : List ℕ → Read Json) (most : ℕ) → Empty (λ t. behind (members one most t))
members_empty one zero rest is = cc
members_empty one (suc most) rest is =
    none_then (λ rest. after_value (λ next. behind (members one most next)) (past_mark 125 rest) (past_mark 44 rest)) (behind (named_value one [])) rest (named_empty one) (sym (members_more one most []) ∙ is)

members_by : (one : List ℕ → Read Json) (more : List ℕ) (few many : ℕ) (text rest : List ℕ) (first : Option (List ℕ)) → behind (named_value one text) ≡ first
    → Stays (λ t. behind (named_value one t)) more
    → ((t r : List ℕ) → behind (members one few t) ≡ Some r → Stops r → behind (members one many (t ++ more)) ≡ Some (r ++ more))
    → option_and_then (λ rest. after_value (λ next. behind (members one few next)) (past_mark 125 rest) (past_mark 44 rest)) first ≡ Some rest → Stops rest
    → option_and_then (λ rest. after_value (λ next. behind (members one many next)) (past_mark 125 rest) (past_mark 44 rest)) (behind (named_value one (text ++ more))) ≡ Some (rest ++ more)
members_by one more few many text rest None is stays later found stops = cc
members_by one more few many text rest (Some at) is stays later found stops =
    let parts = after_by 125 (inr refl) (λ t. behind (members one few t)) (λ t. behind (members one many t)) at rest more (past_mark 125 at) (past_mark 44 at) refl refl
    later (members_empty one few) found stops in
    ap (option_and_then (λ rest. after_value (λ next. behind (members one many next)) (past_mark 125 rest) (past_mark 44 rest))) (stays text at is (parts.0)) ∙ parts.1

members_stay : (one : List ℕ → Read Json) (more : List ℕ) (few many : ℕ) → few ≤ many → Stays (λ t. behind (named_value one t)) more
    → (text rest : List ℕ) → behind (members one few text) ≡ Some rest → Stops rest → behind (members one many (text ++ more)) ≡ Some (rest ++ more)
members_stay one more zero many le stays text rest is stops = cc
members_stay one more (suc few) zero le stays text rest is stops = absurd (omega arith)
members_stay one more (suc few) (suc many) le stays text rest is stops =
    members_more one many (text ++ more)
    ∙ members_by one more few many text rest (behind (named_value one text)) refl stays
    (λ t r found ends. members_stay one more few many (omega arith) stays t r found ends) (sym (members_more one few text) ∙ is) stops

-- what is read between a mark that opens and one that closes
abbrev inside_of : ℕ → (ℕ → List ℕ → Option (List ℕ)) → List ℕ → Option (List ℕ) → Option (List ℕ)
inside_of close all inner (Some end) = Some end
inside_of close all inner None = all (length inner) inner

inner_by : (close : ℕ) (all : ℕ → List ℕ → Option (List ℕ)) (inner rest more : List ℕ) (end : Option (List ℕ)) → past_mark close inner ≡ end → past_space inner ≡ inner
    → ((n : ℕ) → Empty (all n))
    → ((few many : ℕ) → few ≤ many → (t r : List ℕ) → all few t ≡ Some r → Stops r → all many (t ++ more) ≡ Some (r ++ more))
    → inside_of close all inner end ≡ Some rest → Stops rest
    → (0 < length inner) × (inside_of close all (inner ++ more) (past_mark close (inner ++ more)) ≡ Some (rest ++ more))
inner_by close all inner rest more (Some end) is tight empty later found stops =
    let same : end ≡ rest = same_Some end rest found in
    let mark = mark_more close inner end more is in
    let next_is = mark.same (stops_some end (subst Stops (sym same) stops)) ∙ ap (λ t. t ++ more) same in
    (mark_some close inner end is, ap (inside_of close all (inner ++ more)) mark.is ∙ ap (λ t. Some t) next_is)
inner_by close all inner rest more None is tight empty later found stops =
    let some : 0 < length inner = some_next (all (length inner)) inner rest (empty (length inner)) found in (
      some,
      ap (inside_of close all (inner ++ more)) (no_mark close inner more is (rw tight some))
          ∙ later (length inner) (length (inner ++ more)) (omega (arith, length-append inner more)) inner rest found stops,
    )

opened_by : (mark close : ℕ) (all : ℕ → List ℕ → Option (List ℕ)) (text rest more : List ℕ) (inner : Option (List ℕ)) → past_mark mark text ≡ inner
    → ((n : ℕ) → Empty (all n))
    → ((few many : ℕ) → few ≤ many → (t r : List ℕ) → all few t ≡ Some r → Stops r → all many (t ++ more) ≡ Some (r ++ more))
    → option_and_then (λ inner. inside_of close all inner (past_mark close inner)) inner ≡ Some rest → Stops rest
    → option_and_then (λ inner. inside_of close all inner (past_mark close inner)) (past_mark mark (text ++ more)) ≡ Some (rest ++ more)
opened_by mark close all text rest more None is empty later found stops = cc
opened_by mark close all text rest more (Some inner) is empty later found stops =
    let opens = mark_more mark text inner more is in
    let parts = inner_by close all inner rest more (past_mark close inner) refl opens.tight empty later found stops in
    ap (option_and_then (λ inner. inside_of close all inner (past_mark close inner))) opens.is
    ∙ ap (λ t. inside_of close all t (past_mark close t)) (opens.same (parts.0)) ∙ parts.1

array_inside : (one : List ℕ → Read Json) (inner : List ℕ) (end : Option (List ℕ)) → behind (behind_bracket one inner end) ≡ inside_of 93 (λ n t. behind (values.items one n t)) inner end
array_inside one inner (Some end) = refl
array_inside one inner None = refl

array_by : (one : List ℕ → Read Json) (inner : Option (List ℕ)) → behind (option_and_then (λ inner. behind_bracket one inner (past_mark 93 inner)) inner)
    ≡ option_and_then (λ inner. inside_of 93 (λ n t. behind (values.items one n t)) inner (past_mark 93 inner)) inner
array_by one None = refl
array_by one (Some inner) = array_inside one inner (past_mark 93 inner)

array_stays : (one : List ℕ → Read Json) (more : List ℕ) → Stays (λ t. behind (one t)) more → Empty (λ t. behind (one t)) → Stays (λ t. behind (array_at one t)) more
array_stays one more stays none text rest is stops =
    array_by one (past_mark 91 (text ++ more))
    ∙ opened_by 91 93 (λ n t. behind (values.items one n t)) text rest more (past_mark 91 text) refl (λ n. items_empty one n none)
    (λ few many le t r found ends. items_stay one more few many le stays none t r found ends) (sym (array_by one (past_mark 91 text)) ∙ is) stops

object_inside : (one : List ℕ → Read Json) (inner : List ℕ) (end : Option (List ℕ)) → behind (behind_brace one inner end) ≡ inside_of 125 (λ n t. behind (members one n t)) inner end
object_inside one inner (Some end) = refl
object_inside one inner None = refl

object_by : (one : List ℕ → Read Json) (inner : Option (List ℕ)) → behind (option_and_then (λ inner. behind_brace one inner (past_mark 125 inner)) inner)
    ≡ option_and_then (λ inner. inside_of 125 (λ n t. behind (members one n t)) inner (past_mark 125 inner)) inner
object_by one None = refl
object_by one (Some inner) = object_inside one inner (past_mark 125 inner)

object_stays : (one : List ℕ → Read Json) (more : List ℕ) → Stays (λ t. behind (one t)) more → Empty (λ t. behind (one t)) → Stays (λ t. behind (object_at one t)) more
object_stays one more stays none text rest is stops =
    object_by one (past_mark 123 (text ++ more))
    ∙ opened_by 123 125 (λ n t. behind (members one n t)) text rest more (past_mark 123 text) refl (λ n. members_empty one n)
    (λ few many le t r found ends. members_stay one more few many le (named_stays one more stays none) t r found ends) (sym (object_by one (past_mark 123 text)) ∙ is) stops

-- a word is three else
first_of_word : (b w : ℕ) (bs word : List ℕ) → starts_with nat_eq (b ∷ bs) (w ∷ word) ≡ true → b ≡ w
first_of_word b w bs word is = grind (arith, nat_tests)

abbrev IsWord : List ℕ → Type 0
IsWord text = IsNested text × ((begins 91 text ≡ false) × (begins 123 text ≡ false))

word_cases : (b : ℕ) (bs rest : List ℕ) (one two three : Bool) → starts_with nat_eq (b ∷ bs) (codes "true") ≡ one → starts_with nat_eq (b ∷ bs) (codes "false") ≡ two
    → starts_with nat_eq (b ∷ bs) (codes "null") ≡ three → word_read one two three (b ∷ bs) ≡ Some rest → IsWord (b ∷ bs)
word_cases b bs rest true two three p q r is = subst (λ n. IsWord (n ∷ bs)) (sym (first_of_word b 116 bs (codes "rue") p)) ((refl, refl), (refl, refl))
word_cases b bs rest false true three p q r is = subst (λ n. IsWord (n ∷ bs)) (sym (first_of_word b 102 bs (codes "alse") q)) ((refl, refl), (refl, refl))
word_cases b bs rest false false true p q r is = subst (λ n. IsWord (n ∷ bs)) (sym (first_of_word b 110 bs (codes "ull") r)) ((refl, refl), (refl, refl))
word_cases b bs rest false false false p q r is = cc

word_alone : (text rest : List ℕ) → behind (word_at text) ≡ Some rest → IsWord text
word_alone [] rest is = let never : None ≡ Some rest = is in cc
word_alone (b ∷ bs) rest is =
    let text = b ∷ bs in
    let one = starts_with nat_eq text (codes "true") in
    let two = starts_with nat_eq text (codes "false") in
    let three = starts_with nat_eq text (codes "null") in
    word_cases b bs rest one two three refl refl refl (sym (word_by one two three text) ∙ is)

-- an array, an object or a word
record Nested (one : List ℕ → Read Json) (text rest : List ℕ) : Type 0 where
  alone : IsNested text
  is : behind (nested_at one text) ≡ Some rest

not_empty : (bracket brace : Bool) (one : List ℕ → Read Json) (text rest more : List ℕ) → begins 91 text ≡ bracket → begins 123 text ≡ brace
    → Stays (λ t. behind (one t)) more → Empty (λ t. behind (one t)) → behind (nested_at one text) ≡ Some rest → Stops rest → Nested one (text ++ more) (rest ++ more)
not_empty true brace one text rest more is other stays none found stops =
    let opens : begins 91 (text ++ more) ≡ true = begins_more 91 text more (begun 91 text is) ∙ is in
    record {
      alone = bracket_alone (text ++ more) opens;
      is = nested_array one (text ++ more) opens ∙ array_stays one more stays none text rest (sym (nested_array one text is) ∙ found) stops;
    }
not_empty false true one text rest more is other stays none found stops =
    let opens : begins 123 (text ++ more) ≡ true = begins_more 123 text more (begun 123 text other) ∙ other in
    let alone = brace_alone (text ++ more) opens in
    record {
      alone = alone.0;
      is = nested_object one (text ++ more) (alone.1) opens ∙ object_stays one more stays none text rest (sym (nested_object one text is other) ∙ found) stops;
    }
not_empty false false one text rest more is other stays none found stops =
    let word = word_more text rest more (sym (nested_word one text is other) ∙ found) (stops_some rest stops) in
    let alone = word_alone (text ++ more) (rest ++ more) word in
    record { alone = alone.0; is = nested_word one (text ++ more) (alone.1.0) (alone.1.1) ∙ word }

-- a value
pub value_empty : (depth : ℕ) → Empty (λ t. behind (value depth t))
unfolding value
value_empty zero rest is = let no : None ≡ Some rest = is in cc
value_empty (suc depth) rest is = let no : None ≡ Some rest = is in cc

behind_string : (text rest more : List ℕ) (read : Option (List ℕ × List ℕ)) → string_at text ≡ read → behind read ≡ Some rest → behind (string_at (text ++ more)) ≡ Some (rest ++ more)
behind_string text rest more None is found = cc
behind_string text rest more (Some r) is found = ap behind (string_more text more r is) ∙ ap (λ t. Some (t ++ more)) (same_Some (r.1) rest found)

value_by : (depth : ℕ) (text rest more : List ℕ) (quote : Bool) (number : Option (Decimal × List ℕ)) → begins 34 text ≡ quote → number_at text ≡ number
    → ((d : ℕ) → depth ≡ d + 1 → Stays (λ t. behind (value d t)) more)
    → behind (value depth text) ≡ Some rest → Stops rest → behind (value depth (text ++ more)) ≡ Some (rest ++ more)
value_by depth text rest more true number is told deeper found stops =
    let quote : begins 34 (text ++ more) ≡ true = begins_more 34 text more (begun 34 text is) ∙ is in
    value_string depth (text ++ more) quote ∙ behind_string text rest more (string_at text) refl (sym (value_string depth text is) ∙ found)
value_by depth text rest more false (Some r) is told deeper found stops =
    let own : behind (number_at text) ≡ Some (r.1) = ap behind told in
    let same : r.1 ≡ rest = same_Some (r.1) rest (sym (value_number depth text (r.1) is own) ∙ found) in
    let read = number_more text more (r.0) (r.1) told (subst Stops (sym same) stops) in
    let some : 0 < length text = some_next (λ t. behind (number_at t)) text (r.1) (λ rest none. let no : None ≡ Some rest = none in cc) own in
    value_number depth (text ++ more) (r.1 ++ more) (begins_more 34 text more some ∙ is) (ap behind read.is) ∙ ap (λ t. Some (t ++ more)) same
value_by zero text rest more false None is told deeper found stops =
    let none : behind (number_at text) ≡ None = ap behind told in
    let word = word_more text rest more (sym (value_word 0 text refl is none) ∙ found) (stops_some rest stops) in
    let alone = word_alone (text ++ more) (rest ++ more) word in
    value_word 0 (text ++ more) refl (alone.0.0) (ap behind (alone.0.1)) ∙ word
value_by (suc depth) text rest more false None is told deeper found stops =
    let none : behind (number_at text) ≡ None = ap behind told in
    let less : suc depth ≡ depth + 1 = omega arith in
    let nested = not_empty (begins 91 text) (begins 123 text) (value depth) text rest more refl refl (deeper depth less) (value_empty depth)
    (sym (value_nested (suc depth) depth text less is none) ∙ found) stops in
    value_nested (suc depth) depth (text ++ more) less (nested.alone.0) (ap behind (nested.alone.1)) ∙ nested.is

pub value_stays : (depth : ℕ) (more : List ℕ) → Stays (λ t. behind (value depth t)) more
value_stays zero more text rest is stops =
    value_by 0 text rest more (begins 34 text) (number_at text) refl refl (λ d never. absurd (omega arith)) is stops
value_stays (suc depth) more text rest is stops =
    value_by (suc depth) text rest more (begins 34 text) (number_at text) refl refl
    (λ d deep. let same : depth ≡ d = omega arith in subst (λ n. Stays (λ t. behind (value n t)) more) same (value_stays depth more)) is stops
