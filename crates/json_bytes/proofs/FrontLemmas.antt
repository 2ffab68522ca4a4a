-- What is read at the front of a text is read there too where more stands behind the text, unless the text ends with it:
-- marks and numbers.
use Rattle.std.proofs.Common.{◌≡◌, ℕ, suc, ◌+◌, ◌*◌, ◌/◌, ◌^◌, ◌<◌, ◌≤◌, ◌||◌, ◌==◌, Bool, true, false, cond, List, [], ◌∷◌, ◌++◌, length, take, drop, min, nat_eq, Option, Some, None, if◌then◌else◌, ◌⊎◌, inl, inr, refl, ap, subst, sym, ◌∙◌, arith}
use Rattle.std.specs.Cmp.Lexicographic.{pointwise}
use Rattle.std.specs.List.{prefix_len, starts_with}
use Rattle.std.proofs.lemmas.Bool.{ne_eqb}
use Rattle.std.proofs.lemmas.Bool.Decides.{nat_tests}
use Rattle.std.proofs.lemmas.List.{drop-append-le, length-drop, take-append-le}
use Rattle.std.proofs.lemmas.List.Folds.{prefix_len-append}
use Rattle.std.proofs.lemmas.Option.{same_Some, some_pair_parts}
use Rattle.std.specs.Str.Parse.{digits_value}
use Rattle.std.specs.Char.{is_ascii_digit}
use Rattle.json_bytes.specs.Marks.{begins, is_space, past_mark, past_space}
use Rattle.json_bytes.specs.Values.{behind}
use Rattle.json_bytes.specs.Numbers.{Decimal, decimal_at, digits_len, digits_of, exponent_of, fraction_of, greatest, lowers, number_at, past_digits, past_exponent, past_fraction, past_minus, past_sign, raises, scaled, whole_len}

-- the same many bytes pass a test
pub len_more : (p : ℕ → Bool) (text more : List ℕ) → prefix_len p text < length text → prefix_len p (text ++ more) ≡ prefix_len p text
len_more p text more short =
    let len = prefix_len p text in
    prefix_len-append p text more ∙ ap (λ b. cond b (length text + prefix_len p more) len)
    (ne_eqb _ _ (λ (whole : len ≡ length text). omega (arith, whole, short)))

pub rest_more : (p : ℕ → Bool) (text more : List ℕ) → 0 < length (drop (prefix_len p text) text)
    → drop (prefix_len p (text ++ more)) (text ++ more) ≡ drop (prefix_len p text) text ++ more
rest_more p text more some =
    let short : prefix_len p text < length text = omega (arith, length-drop (prefix_len p text) text, some) in
    ap (λ n. drop n (text ++ more)) (len_more p text more short) ∙ drop-append-le (prefix_len p text) text more (omega arith)

-- a text begins so
pub starts_more : (word text more : List ℕ) → length word ≤ length text → starts_with nat_eq (text ++ more) word ≡ starts_with nat_eq text word
starts_more word text more long = ap (pointwise nat_eq word) (take-append-le (length word) text more long)

pub begins_more : (byte : ℕ) (text more : List ℕ) → 0 < length text → begins byte (text ++ more) ≡ begins byte text
begins_more byte text more some = starts_more (byte ∷ []) text more (omega arith)

-- space, and a mark
pub space_more : (text more : List ℕ) → 0 < length (past_space text) → past_space (text ++ more) ≡ past_space text ++ more
space_more text more some = rest_more is_space text more some

space_by : (b : ℕ) (bs : List ℕ) (space : Bool) → is_space b ≡ space → past_space (past_space bs) ≡ past_space bs → past_space (past_space (b ∷ bs)) ≡ past_space (b ∷ bs)
space_by b bs true is once =
    let len : prefix_len is_space (b ∷ bs) ≡ suc (prefix_len is_space bs) = rw (is, prefix_len) (omega arith) in
    let same : past_space (b ∷ bs) ≡ past_space bs = ap (λ n. drop n (b ∷ bs)) len in
    ap past_space same ∙ once ∙ sym same
space_by b bs false is once =
    let len : prefix_len is_space (b ∷ bs) ≡ 0 = rw (is, prefix_len) refl in
    let same : past_space (b ∷ bs) ≡ b ∷ bs = ap (λ n. drop n (b ∷ bs)) len in
    ap past_space same

space_once : (text : List ℕ) → past_space (past_space text) ≡ past_space text
space_once [] = refl
space_once (b ∷ bs) = space_by b bs (is_space b) refl (space_once bs)

one_behind : (text more : List ℕ) → 0 < length text → drop 1 (text ++ more) ≡ drop 1 text ++ more
one_behind text more some = drop-append-le 1 text more (omega arith)

pub begun : (byte : ℕ) (text : List ℕ) → begins byte text ≡ true → 0 < length text
begun byte [] is = cc
begun byte (b ∷ bs) is = omega arith

pub marked : (found : Bool) (behind rest : List ℕ) → (if found then Some behind else None) ≡ Some rest → (found ≡ true) × (behind ≡ rest)
marked true behind rest is = (refl, same_Some behind rest is)
marked false behind rest is = cc

-- what stands behind a mark: the same and more, unless the text ends with the mark
pub record Behind (byte : ℕ) (text rest more : List ℕ) : Type 0 where
  pub found : List ℕ
  pub is : past_mark byte (text ++ more) ≡ Some found
  pub same : 0 < length rest → found ≡ rest ++ more
  pub some : 0 < length (past_space text)
  pub tight : past_space rest ≡ rest

pub mark_more : (byte : ℕ) (text rest more : List ℕ) → past_mark byte text ≡ Some rest → Behind byte text rest more
mark_more byte text rest more is =
    let at = past_space text in
    let parts = marked (begins byte at) (past_space (drop 1 at)) rest is in
    let some = begun byte at (parts.0) in
    let here = space_more text more some in
    let test : begins byte (at ++ more) ≡ true = begins_more byte at more some ∙ parts.0 in
    let own : past_mark byte (text ++ more) ≡ Some (past_space (drop 1 (at ++ more))) =
    ap (λ t. if begins byte t then Some (past_space (drop 1 t)) else None) here
    ∙ ap (λ b. if b then Some (past_space (drop 1 (at ++ more))) else None) test in
    record {
      found = past_space (drop 1 (at ++ more));
      is = own;
      same = λ long. ap past_space (one_behind at more some) ∙ space_more (drop 1 at) more (rw (parts.1) long) ∙ ap (λ t. t ++ more) (parts.1);
      some = some;
      tight = subst (λ t. past_space t ≡ t) (parts.1) (space_once (drop 1 at));
    }

-- no mark stands where none stood
none_by : (found : Bool) (behind : List ℕ) → (if found then Some behind else None) ≡ None → found ≡ false
none_by true behind is = cc
none_by false behind is = refl

pub no_mark : (byte : ℕ) (text more : List ℕ) → past_mark byte text ≡ None → 0 < length (past_space text) → past_mark byte (text ++ more) ≡ None
no_mark byte text more is some =
    let at = past_space text in
    let test : begins byte (at ++ more) ≡ false = begins_more byte at more some ∙ none_by (begins byte at) (past_space (drop 1 at)) is in
    ap (λ t. if begins byte t then Some (past_space (drop 1 t)) else None) (space_more text more some)
    ∙ ap (λ b. if b then Some (past_space (drop 1 (at ++ more))) else None) test

-- a byte that no number goes on with
abbrev pub is_stop : ℕ → Bool
is_stop b = is_space b || b == 44 || b == 93 || b == 125

abbrev pub Stops : List ℕ → Type 0
Stops [] = ⊥
Stops (b ∷ bs) = is_stop b ≡ true

pub stops_some : (rest : List ℕ) → Stops rest → 0 < length rest
stops_some [] stops = absurd stops
stops_some (b ∷ bs) stops = omega arith

-- of what passes a test at the front as much passes
passed_more : (p : ℕ → Bool) (text more : List ℕ) → 0 < length (drop (prefix_len p text) text) → take (prefix_len p (text ++ more)) (text ++ more) ≡ take (prefix_len p text) text
passed_more p text more some =
    let short : prefix_len p text < length text = omega (arith, length-drop (prefix_len p text) text, some) in
    ap (λ n. take n (text ++ more)) (len_more p text more short) ∙ take-append-le (prefix_len p text) text more (omega arith)

-- a sign
sign_by : (signed : Bool) (text more : List ℕ) → 0 < length text → (if signed then drop 1 (text ++ more) else text ++ more) ≡ (if signed then drop 1 text else text) ++ more
sign_by true text more some = one_behind text more some
sign_by false text more some = refl

sign_more : (text more : List ℕ) → 0 < length text → past_sign (text ++ more) ≡ past_sign text ++ more
sign_more text more some =
    ap (λ b. if b || begins 43 (text ++ more) then drop 1 (text ++ more) else text ++ more) (begins_more 45 text more some)
    ∙ ap (λ b. if begins 45 text || b then drop 1 (text ++ more) else text ++ more) (begins_more 43 text more some)
    ∙ sign_by (begins 45 text || begins 43 text) text more some

pub minus_more : (text more : List ℕ) → 0 < length text → past_minus (text ++ more) ≡ past_minus text ++ more
minus_more text more some =
    ap (λ b. if b then drop 1 (text ++ more) else text ++ more) (begins_more 45 text more some) ∙ sign_by (begins 45 text) text more some

no_sign : (text : List ℕ) → 0 < length (past_sign text) → 0 < length text
no_sign [] some = some
no_sign (b ∷ bs) some = omega arith

some_left : (n : ℕ) (text : List ℕ) → 0 < length (drop n text) → 0 < length text
some_left n text some = omega (arith, length-drop n text, some)

-- the exponent: where it has no digits its sign tells nothing
abbrev exponent_in : Bool → List ℕ → List ℕ
exponent_in letter text = if letter then digits_of (past_sign (drop 1 text)) else []

abbrev behind_exponent : List ℕ → List ℕ → List ℕ
behind_exponent digits text = if length digits == 0 then text else past_digits (past_sign (drop 1 text))

pub record ExponentMore (text more : List ℕ) : Type 0 where
  pub digits : exponent_of (text ++ more) ≡ exponent_of text
  pub rest : past_exponent (text ++ more) ≡ past_exponent text ++ more
  pub sign : (exponent_of text ≡ []) ⊎ (begins 45 (drop 1 (text ++ more)) ≡ begins 45 (drop 1 text))

letter_more : (text more : List ℕ) → 0 < length text → (begins 101 (text ++ more) || begins 69 (text ++ more)) ≡ (begins 101 text || begins 69 text)
letter_more text more some =
    ap (λ b. b || begins 69 (text ++ more)) (begins_more 101 text more some) ∙ ap (λ b. begins 101 text || b) (begins_more 69 text more some)

no_letter_stops : (text : List ℕ) → (begins 101 text || begins 69 text) ≡ true → Stops text → ⊥
no_letter_stops [] is stops = stops
no_letter_stops (b ∷ bs) is stops = grind (arith, nat_tests)

-- where there is no letter, it has no digits
no_exponent : (text more : List ℕ) → 0 < length text → (begins 101 text || begins 69 text) ≡ false → ExponentMore text more
no_exponent text more some none =
    let own : exponent_of text ≡ [] = ap (λ b. exponent_in b text) none in
    let whole : exponent_of (text ++ more) ≡ [] = ap (λ b. exponent_in b (text ++ more)) (letter_more text more some ∙ none) in
    record {
      digits = whole ∙ sym own;
      rest = ap (λ d. behind_exponent d (text ++ more)) whole ∙ ap (λ d. behind_exponent d text ++ more) (sym own);
      sign = inl own;
    }

-- where there is one and digits behind it, what stands behind these is some
an_exponent : (text more : List ℕ) → 0 < length text → (begins 101 text || begins 69 text) ≡ true → (digits : Bool)
    → (length (digits_of (past_sign (drop 1 text))) == 0) ≡ digits → Stops (past_exponent text) → ExponentMore text more
an_exponent text more some letter true none stops =
    let own : exponent_of text ≡ digits_of (past_sign (drop 1 text)) = ap (λ b. exponent_in b text) letter in
    let rest : past_exponent text ≡ text =
    ap (λ d. behind_exponent d text) own ∙ ap (λ (b : Bool). if b then text else past_digits (past_sign (drop 1 text))) none in
    absurd (no_letter_stops text letter (subst Stops rest stops))
an_exponent text more some letter false digits stops =
    let signed = past_sign (drop 1 text) in
    let own : exponent_of text ≡ digits_of signed = ap (λ b. exponent_in b text) letter in
    let rest : past_exponent text ≡ past_digits signed =
    ap (λ d. behind_exponent d text) own ∙ ap (λ (b : Bool). if b then text else past_digits signed) digits in
    let left : 0 < length (past_digits signed) = stops_some (past_digits signed) (subst Stops rest stops) in
    let behind : 0 < length (drop 1 text) = no_sign (drop 1 text) (some_left (digits_len signed) signed left) in
    let next : past_sign (drop 1 (text ++ more)) ≡ signed ++ more = ap past_sign (one_behind text more some) ∙ sign_more (drop 1 text) more behind in
    let whole : exponent_of (text ++ more) ≡ digits_of signed =
    ap (λ b. exponent_in b (text ++ more)) (letter_more text more some ∙ letter) ∙ ap digits_of next ∙ passed_more is_ascii_digit signed more left in
    record {
      digits = whole ∙ sym own;
      rest = ap (λ d. behind_exponent d (text ++ more)) whole
          ∙ ap (λ (b : Bool). if b then text ++ more else past_digits (past_sign (drop 1 (text ++ more)))) digits
          ∙ ap past_digits next ∙ rest_more is_ascii_digit signed more left ∙ ap (λ t. t ++ more) (sym rest);
      sign = inr (ap (begins 45) (one_behind text more some) ∙ begins_more 45 (drop 1 text) more behind);
    }

exponent_by : (text more : List ℕ) → 0 < length text → (letter : Bool) → (begins 101 text || begins 69 text) ≡ letter → Stops (past_exponent text) → ExponentMore text more
exponent_by text more some true is stops = an_exponent text more some is (length (digits_of (past_sign (drop 1 text))) == 0) refl stops
exponent_by text more some false is stops = no_exponent text more some is

exponent_left : (text : List ℕ) → Stops (past_exponent text) → 0 < length text
exponent_left [] stops = absurd stops
exponent_left (b ∷ bs) stops = omega arith

pub exponent_more : (text more : List ℕ) → Stops (past_exponent text) → ExponentMore text more
exponent_more text more stops = exponent_by text more (exponent_left text stops) (begins 101 text || begins 69 text) refl stops

-- the fraction
abbrev fraction_in : Bool → List ℕ → List ℕ
fraction_in point text = if point then digits_of (drop 1 text) else []

abbrev behind_fraction : List ℕ → List ℕ → List ℕ
behind_fraction digits text = if length digits == 0 then text else past_digits (drop 1 text)

pub record FractionMore (text more : List ℕ) : Type 0 where
  pub digits : fraction_of (text ++ more) ≡ fraction_of text
  pub rest : past_fraction (text ++ more) ≡ past_fraction text ++ more

no_fraction : (text more : List ℕ) → 0 < length text → begins 46 text ≡ false → FractionMore text more
no_fraction text more some none =
    let own : fraction_of text ≡ [] = ap (λ b. fraction_in b text) none in
    let whole : fraction_of (text ++ more) ≡ [] = ap (λ b. fraction_in b (text ++ more)) (begins_more 46 text more some ∙ none) in
    record {
      digits = whole ∙ sym own;
      rest = ap (λ d. behind_fraction d (text ++ more)) whole ∙ ap (λ d. behind_fraction d text ++ more) (sym own);
    }

-- a point with nothing behind it ends no number
point_stays : (text : List ℕ) → begins 46 text ≡ true → Stops (past_exponent text) → ⊥
point_stays [] is stops = stops
point_stays (b ∷ bs) is stops =
    let none : (begins 101 (b ∷ bs) || begins 69 (b ∷ bs)) ≡ false = grind (arith, nat_tests) in
    let own : exponent_of (b ∷ bs) ≡ [] = ap (λ c. exponent_in c (b ∷ bs)) none in
    let rest : past_exponent (b ∷ bs) ≡ b ∷ bs = ap (λ d. behind_exponent d (b ∷ bs)) own in
    let here : Stops (b ∷ bs) = subst Stops rest stops in
    grind (arith, nat_tests)

a_fraction : (text more : List ℕ) → 0 < length text → begins 46 text ≡ true → (digits : Bool) → (length (digits_of (drop 1 text)) == 0) ≡ digits
    → Stops (past_exponent (past_fraction text)) → FractionMore text more
a_fraction text more some point true none stops =
    let own : fraction_of text ≡ digits_of (drop 1 text) = ap (λ b. fraction_in b text) point in
    let rest : past_fraction text ≡ text = ap (λ d. behind_fraction d text) own ∙ ap (λ (b : Bool). if b then text else past_digits (drop 1 text)) none in
    absurd (point_stays text point (subst (λ t. Stops (past_exponent t)) rest stops))
a_fraction text more some point false digits stops =
    let own : fraction_of text ≡ digits_of (drop 1 text) = ap (λ b. fraction_in b text) point in
    let rest : past_fraction text ≡ past_digits (drop 1 text) =
    ap (λ d. behind_fraction d text) own ∙ ap (λ (b : Bool). if b then text else past_digits (drop 1 text)) digits in
    let left : 0 < length (past_digits (drop 1 text)) = exponent_left (past_digits (drop 1 text)) (subst (λ t. Stops (past_exponent t)) rest stops) in
    let next = one_behind text more some in
    let whole : fraction_of (text ++ more) ≡ digits_of (drop 1 text) =
    ap (λ b. fraction_in b (text ++ more)) (begins_more 46 text more some ∙ point) ∙ ap digits_of next ∙ passed_more is_ascii_digit (drop 1 text) more left in
    record {
      digits = whole ∙ sym own;
      rest = ap (λ d. behind_fraction d (text ++ more)) whole
          ∙ ap (λ (b : Bool). if b then text ++ more else past_digits (drop 1 (text ++ more))) digits
          ∙ ap past_digits next ∙ rest_more is_ascii_digit (drop 1 text) more left ∙ ap (λ t. t ++ more) (sym rest);
    }

fraction_by : (text more : List ℕ) → 0 < length text → (point : Bool) → begins 46 text ≡ point → Stops (past_exponent (past_fraction text)) → FractionMore text more
fraction_by text more some true is stops = a_fraction text more some is (length (digits_of (drop 1 text)) == 0) refl stops
fraction_by text more some false is stops = no_fraction text more some is

fraction_left : (text : List ℕ) → Stops (past_exponent (past_fraction text)) → 0 < length text
fraction_left [] stops = absurd stops
fraction_left (b ∷ bs) stops = omega arith

pub fraction_more : (text more : List ℕ) → Stops (past_exponent (past_fraction text)) → FractionMore text more
fraction_more text more stops = fraction_by text more (fraction_left text stops) (begins 46 text) refl stops

-- the whole digits
whole_by : (zero_first : Bool) (text more : List ℕ) → 0 < length (drop (if zero_first then 1 else digits_len text) text)
    → (if zero_first then 1 else digits_len (text ++ more)) ≡ (if zero_first then 1 else digits_len text)
whole_by true text more some = refl
whole_by false text more some = len_more is_ascii_digit text more (omega (arith, length-drop (digits_len text) text, some))

pub whole_more : (text more : List ℕ) → 0 < length (drop (whole_len text) text) → whole_len (text ++ more) ≡ whole_len text
whole_more text more some =
    ap (λ (b : Bool). if b then 1 else digits_len (text ++ more)) (begins_more 48 text more (some_left (whole_len text) text some)) ∙ whole_by (begins 48 text) text more some

-- a number: what its text is worth, and what stands behind it
abbrev decimal_made : Bool → List ℕ → List ℕ → Decimal
decimal_made negative whole behind = record {
  negative = negative;
  whole = whole;
  fraction = fraction_of behind;
  falls = begins 45 (drop 1 (past_fraction behind));
  exponent = exponent_of (past_fraction behind);
}

abbrev decimal_read : Bool → Bool → List ℕ → List ℕ → Option (Decimal × List ℕ)
decimal_read none negative whole behind = if none then None else Some (decimal_made negative whole behind, past_exponent (past_fraction behind))

pub record NumberMore (text rest more : List ℕ) (number : Decimal) : Type 0 where
  pub found : Decimal
  pub is : number_at (text ++ more) ≡ Some (found, rest ++ more)
  pub negative : found.negative ≡ number.negative
  pub whole : found.whole ≡ number.whole
  pub fraction : found.fraction ≡ number.fraction
  pub exponent : found.exponent ≡ number.exponent
  pub sign : (number.exponent ≡ []) ⊎ (found.falls ≡ number.falls)

record DecimalRead (none : Bool) (made number : Decimal) (behind rest : List ℕ) : Type 0 where
  some : none ≡ false
  number_is : made ≡ number
  rest_is : behind ≡ rest

decimal_parts : (none : Bool) (made number : Decimal) (behind rest : List ℕ) → ◌≡◌ {A = Option (Decimal × List ℕ)} (if none then None else Some (made, behind)) (Some (number, rest))
    → DecimalRead none made number behind rest
decimal_parts true made number behind rest is = cc
decimal_parts false made number behind rest is =
    let parts = some_pair_parts made number behind rest is in record { some = refl; number_is = parts.0; rest_is = parts.1 }

no_minus : (text : List ℕ) → 0 < length (past_minus text) → 0 < length text
no_minus [] some = some
no_minus (b ∷ bs) some = omega arith

sign_by_parts : (digits : List ℕ) (number : Decimal) (found whole own : Bool) → digits ≡ number.exponent → own ≡ number.falls → found ≡ whole → (digits ≡ []) ⊎ (whole ≡ own)
    → (number.exponent ≡ []) ⊎ (found ≡ number.falls)
sign_by_parts digits number found whole own is falls same (inl none) = inl (sym is ∙ none)
sign_by_parts digits number found whole own is falls same (inr one) = inr (same ∙ one ∙ falls)

pub number_more : (text more : List ℕ) (number : Decimal) (rest : List ℕ) → number_at text ≡ Some (number, rest) → Stops rest → NumberMore text rest more number
number_more text more number rest is stops =
    let signed = past_minus text in
    let len = whole_len signed in
    let behind = drop len signed in
    let at = past_fraction behind in
    let negative = begins 45 text in
    let parts = decimal_parts (len == 0) (decimal_made negative (take len signed) behind) number (past_exponent at) rest is in
    let ends : Stops (past_exponent at) = subst Stops (sym parts.rest_is) stops in
    let fraction = fraction_more behind more ends in
    let exponent = exponent_more at more ends in
    let some_behind = fraction_left behind ends in
    let some_signed = some_left len signed some_behind in
    let some = no_minus text some_signed in
    let short : len ≤ length signed = omega (arith, length-drop len signed, some_behind) in
    let all = signed ++ more in
    let found = decimal_made negative (take len signed) (behind ++ more) in
    let letters : exponent_of (past_fraction (behind ++ more)) ≡ exponent_of at = ap exponent_of fraction.rest ∙ exponent.digits in
    record {
      found = found;
      is = ap (λ b. decimal_at b (past_minus (text ++ more))) (begins_more 45 text more some)
          ∙ ap (decimal_at negative) (minus_more text more some)
          ∙ ap (λ n. decimal_read (n == 0) negative (take n all) (drop n all)) (whole_more signed more some_behind)
          ∙ ap (λ b. decimal_read b negative (take len all) (drop len all)) parts.some
          ∙ ap (λ t. decimal_read false negative t (drop len all)) (take-append-le len signed more short)
          ∙ ap (decimal_read false negative (take len signed)) (drop-append-le len signed more short)
          ∙ ap (λ r. Some (found, r)) (ap past_exponent fraction.rest ∙ exponent.rest ∙ ap (λ r. r ++ more) parts.rest_is);
      negative = ap (λ (d : Decimal). d.negative) parts.number_is;
      whole = ap (λ (d : Decimal). d.whole) parts.number_is;
      fraction = fraction.digits ∙ ap (λ (d : Decimal). d.fraction) parts.number_is;
      exponent = letters ∙ ap (λ (d : Decimal). d.exponent) parts.number_is;
      sign = sign_by_parts (exponent_of at) number (begins 45 (drop 1 (past_fraction (behind ++ more)))) (begins 45 (drop 1 (at ++ more))) (begins 45 (drop 1 at))
          (ap (λ (d : Decimal). d.exponent) parts.number_is) (ap (λ (d : Decimal). d.falls) parts.number_is) (ap (λ t. begins 45 (drop 1 t)) fraction.rest) exponent.sign;
    }

-- they are worth the same
no_sign_told : (falls : Bool) → (if falls then 0 else digits_value 10 []) ≡ 0
no_sign_told true = refl
no_sign_told false = refl

no_sign_taken : (falls : Bool) → (if falls then digits_value 10 [] else 0) ≡ 0
no_sign_taken true = refl
no_sign_taken false = refl

abbrev worth : ℕ → Bool → List ℕ → List ℕ → ℕ → ℕ → ℕ
worth decimals negative whole fraction up down =
    if negative then 0 else min greatest (digits_value 10 (whole ++ fraction) * 10 ^ (decimals + up) / 10 ^ (length fraction + down))

powers_same : (a b : Decimal) → a.exponent ≡ b.exponent → (b.exponent ≡ []) ⊎ (a.falls ≡ b.falls) → (raises a ≡ raises b) × (lowers a ≡ lowers b)
powers_same a b is (inl none) =
    let up : (d : Decimal) → d.exponent ≡ [] → raises d ≡ 0 = λ d e. ap (λ ds. if d.falls then 0 else digits_value 10 ds) e ∙ no_sign_told d.falls in
    let down : (d : Decimal) → d.exponent ≡ [] → lowers d ≡ 0 = λ d e. ap (λ ds. if d.falls then digits_value 10 ds else 0) e ∙ no_sign_taken d.falls in
    (up a (is ∙ none) ∙ sym (up b none), down a (is ∙ none) ∙ sym (down b none))
powers_same a b is (inr same) = (
  ap (λ f. if f then 0 else digits_value 10 a.exponent) same ∙ ap (λ ds. if b.falls then 0 else digits_value 10 ds) is,
  ap (λ f. if f then digits_value 10 a.exponent else 0) same ∙ ap (λ ds. if b.falls then digits_value 10 ds else 0) is,
)

pub same_worth : (decimals : ℕ) (text rest more : List ℕ) (number : Decimal) (more_is : NumberMore text rest more number) → scaled decimals more_is.found ≡ scaled decimals number
same_worth decimals text rest more number more_is =
    let found = more_is.found in
    let powers = powers_same found number more_is.exponent more_is.sign in
    ap (λ n. worth decimals n found.whole found.fraction (raises found) (lowers found)) more_is.negative
    ∙ ap (λ w. worth decimals number.negative w found.fraction (raises found) (lowers found)) more_is.whole
    ∙ ap (λ f. worth decimals number.negative number.whole f (raises found) (lowers found)) more_is.fraction
    ∙ ap (λ u. worth decimals number.negative number.whole number.fraction u (lowers found)) (powers.0)
    ∙ ap (worth decimals number.negative number.whole number.fraction (raises number)) (powers.1)
