-- The text of a string, item by item.
use Rattle.std.proofs.Common.{◌≡◌, ℕ, zero, suc, ◌+◌, ◌-◌, ◌*◌, ◌<◌, ◌≤◌, unwrap_or, nat_le, List, [], ◌∷◌, ◌++◌, length, drop, take, get_or, Bool, true, false, ◌&&◌, nat_eq, append-nil, Option, Some, None, refl, ap, sym, subst, ◌∙◌, arith, append_assoc}
use Rattle.std.specs.List.{prefix_len, starts_with}
use Rattle.std.specs.Option.{option_map}
use Rattle.std.proofs.lemmas.Bool.{le-leb}
use Rattle.std.proofs.lemmas.Str.{encode_ascii}
use Rattle.std.proofs.lemmas.Bool.Decides.{nat_tests}
use Rattle.std.proofs.lemmas.List.{take_all}
use Rattle.json_bytes.specs.Marks.{begins}
use Rattle.json_bytes.specs.Strings.{alone, bytes_of, character_at, escaped, hex_digit, is_high, is_plain, item_at, items, joined, string_at, unit_at, with_front}
use Rattle.json_bytes.specs.Values.{behind}
use Rattle.json_bytes.specs.declared.strings.Meaning.{Meaning}
use Rattle.json_bytes.specs.declared.strings.Meaning.TheVariants as meaning
use Rattle.json_bytes.proofs.MemberLemmas.{first_byte}
use Rattle.json_bytes.proofs.PieceLemmas.{take_few}

-- bytes that belong to the item before are passed over
pub passed_over : (belong : ℕ) (text : List ℕ) → items belong text ≡ items 0 (drop belong text)
passed_over zero text = refl
passed_over (suc belong) [] = refl
passed_over (suc belong) (b ∷ bs) = passed_over belong bs

-- a text is read behind its first item
one_more : (b : ℕ) (bs : List ℕ) (meaning : Meaning) (len : ℕ) → nat_eq b 34 ≡ false → item_at (b ∷ bs) ≡ Some (meaning, len) → 0 < len
    → items 0 (b ∷ bs) ≡ with_front (bytes_of meaning) (items 0 (drop len (b ∷ bs)))
one_more b bs meaning zero other is some = absurd (omega arith)
one_more b bs meaning (suc len) other is some =
    let here : suc len - 1 ≡ len = omega arith in
    let goes : items 0 (b ∷ bs) ≡ with_front (bytes_of meaning) (items (suc len - 1) bs) = rw (other, is) refl in
    goes ∙ ap (λ n. with_front (bytes_of meaning) (items n bs)) here ∙ ap (with_front (bytes_of meaning)) (passed_over len bs)

pub behind_item : (text : List ℕ) (meaning : Meaning) (len : ℕ) → 0 < len → len ≤ length text → nat_eq (get_or text 0 0) 34 ≡ false → item_at text ≡ Some (meaning, len)
    → items 0 text ≡ with_front (bytes_of meaning) (items 0 (drop len text))
behind_item [] meaning len some within other is = absurd (omega arith)
behind_item (b ∷ bs) meaning len some within other is = one_more b bs meaning len other is some

pub with_len : (found : Option (Meaning × ℕ)) (len : ℕ) → option_map (λ f. f.1) found ≡ Some len → (m : Meaning) × (found ≡ Some (m, len))
with_len None len is = cc
with_len (Some f) len is = (f.0, ap (λ o. Some (f.0, unwrap_or o 0)) is)

no_len : (found : Option (Meaning × ℕ)) → option_map (λ f. f.1) found ≡ None → found ≡ None
no_len None is = refl
no_len (Some f) is = cc

-- what isn't read ends the text
pub no_item : (text : List ℕ) → nat_eq (length text) 0 ≡ false → nat_eq (get_or text 0 0) 34 ≡ false → option_map (λ f. f.1) (item_at text) ≡ None → items 0 text ≡ None
no_item [] some other is = cc
no_item (b ∷ bs) some other is = rw (other, no_len (item_at (b ∷ bs)) is) refl

-- what stands behind isn't changed by what is put in front
pub same_behind : (front : List ℕ) (read : Option (List ℕ × List ℕ)) → behind (with_front front read) ≡ behind read
same_behind front None = refl
same_behind front (Some r) = refl

pub fronts : (one two : List ℕ) (read : Option (List ℕ × List ℕ)) → with_front one (with_front two read) ≡ with_front (one ++ two) read
fronts one two None = refl
fronts one two (Some r) = ap (λ bytes. Some (bytes, r.1)) (sym (append_assoc one two r.0))

pub no_front : (read : Option (List ℕ × List ℕ)) → with_front [] read ≡ read
no_front None = refl
no_front (Some r) = refl

-- a byte that stands by itself
plain_item : (b : ℕ) (bs : List ℕ) → is_plain b ≡ true → item_at (b ∷ bs) ≡ Some (meaning.Byte b, 1)
plain_item b bs plain = grind arith

plain_other : (b : ℕ) → is_plain b ≡ true → nat_eq b 34 ≡ false
plain_other b plain = grind arith

-- a text is read behind such bytes at its front
abbrev ReadBehind : List ℕ → Type 0
ReadBehind text =
    items 0 text ≡ with_front (take (prefix_len is_plain text) text) (items 0 (drop (prefix_len is_plain text) text))

past_first : (b : ℕ) (bs : List ℕ) (plain : Bool) → is_plain b ≡ plain → ReadBehind bs → ReadBehind (b ∷ bs)
past_first b bs true e more =
    let here = behind_item (b ∷ bs) (meaning.Byte b) 1 (omega arith) (omega arith) (plain_other b e) (plain_item b bs e) in
    let len : prefix_len is_plain (b ∷ bs) ≡ suc (prefix_len is_plain bs) = rw (e, prefix_len) (omega arith) in
    subst (λ n. items 0 (b ∷ bs) ≡ with_front (take n (b ∷ bs)) (items 0 (drop n (b ∷ bs)))) (sym len)
    (here ∙ ap (with_front (b ∷ [])) more
    ∙ fronts (b ∷ []) (take (prefix_len is_plain bs) bs) (items 0 (drop (prefix_len is_plain bs) bs)))
past_first b bs false e more =
    let len : prefix_len is_plain (b ∷ bs) ≡ 0 = rw (e, prefix_len) refl in
    subst (λ n. items 0 (b ∷ bs) ≡ with_front (take n (b ∷ bs)) (items 0 (drop n (b ∷ bs)))) (sym len)
    (sym (no_front (items 0 (b ∷ bs))))

pub behind_plain : (text : List ℕ)
    → items 0 text ≡ with_front (take (prefix_len is_plain text) text) (items 0 (drop (prefix_len is_plain text) text))
behind_plain [] = refl
behind_plain (b ∷ bs) = past_first b bs (is_plain b) refl (behind_plain bs)

pub plain_first : (before text : List ℕ) → 0 < length text → is_plain (get_or text 0 0) ≡ true
    → with_front before (items 0 text) ≡ with_front (before ++ get_or text 0 0 ∷ []) (items 0 (take (length text - 1) (drop 1 text)))
plain_first before [] some plain = absurd (omega arith)
plain_first before (b ∷ bs) some plain =
    ap (with_front before) (behind_item (b ∷ bs) (meaning.Byte b) 1 (omega arith) (omega arith) (plain_other b plain) (plain_item b bs plain))
    ∙ fronts before (b ∷ []) (items 0 bs) ∙ ap (λ t. with_front (before ++ b ∷ []) (items 0 t)) (sym (take_all (length (b ∷ bs) - 1) bs (omega arith)))

-- a string is read behind its quote and such bytes, and ends at the next quote
pub quote_read : (text inner plain rest : List ℕ) → begins 34 text ≡ true → inner ≡ drop 1 text → plain ≡ take (prefix_len is_plain inner) inner
    → rest ≡ drop (prefix_len is_plain inner) inner → string_at text ≡ with_front plain (items 0 rest)
quote_read text inner plain rest is inside front back = rw is (ap (items 0) (sym inside) ∙ behind_plain inner ∙ rw (← front, ← back) refl)

pub quote_inner : (text inner : List ℕ) → begins 34 text ≡ true → inner ≡ drop 1 text → string_at text ≡ items 0 inner
quote_inner text inner is inside = rw is (ap (items 0) (sym inside))

quote_here : (b : ℕ) (bs : List ℕ) → begins 34 (b ∷ bs) ≡ true → items 0 (b ∷ bs) ≡ Some ([], bs)
quote_here b bs is = let same : b ≡ 34 = first_byte 34 b bs is in rw same refl

pub quote_ends : (plain text : List ℕ) → begins 34 text ≡ true → with_front plain (items 0 text) ≡ Some (plain, take (length text - 1) (drop 1 text))
quote_ends plain [] is = cc
quote_ends plain (b ∷ bs) is =
    ap (with_front plain) (quote_here b bs is) ∙ ap (λ front. Some (front, bs)) (append-nil plain)
    ∙ ap (λ behind. Some (plain, behind)) (sym (take_all (length (b ∷ bs) - 1) bs (omega arith)))

-- a unit that is no first half of a pair is a character by itself
joined_alone : (first : ℕ) (second : Option ℕ) → is_high first ≡ false
    → joined first second ≡ (meaning.Character (alone first), 6)
joined_alone first None low = refl
joined_alone first (Some second) low = rw low refl

pub alone_at : (text : List ℕ) (first : ℕ) → unit_at text ≡ Some first → is_high first ≡ false
    → character_at text ≡ Some (meaning.Character (alone first), 6)
alone_at text first is low = rw is (ap (λ found. Some found) (joined_alone first (unit_at (drop 6 text)) low))

-- a unit below 128
ascii_six : (e f h l : ℕ) (rest : List ℕ) → hex_digit e ≡ Some h → hex_digit f ≡ Some l → h < 8 → l < 16
    → item_at (92 ∷ 117 ∷ 48 ∷ 48 ∷ e ∷ f ∷ rest) ≡ Some (meaning.Character (16 * h + l), 6)
ascii_six e f h l rest high low small less =
    let text = 92 ∷ 117 ∷ 48 ∷ 48 ∷ e ∷ f ∷ rest in
    let long : nat_le 6 (length text) ≡ true = le-leb 6 (length text) (omega arith) in
    let same : 4096 * 0 + 256 * 0 + 16 * h + l ≡ 16 * h + l = omega arith in
    let unit : unit_at text ≡ Some (16 * h + l) = rw (long, high, low) (ap Some same) in
    let one : is_high (16 * h + l) ≡ false = grind (arith, nat_tests) in
    let itself : alone (16 * h + l) ≡ 16 * h + l = grind (arith, nat_tests) in
    alone_at text (16 * h + l) unit one ∙ ap (λ c. Some (meaning.Character c, 6)) itself

four_bytes : (a b c d : ℕ) (rest : List ℕ) → starts_with nat_eq (a ∷ b ∷ c ∷ d ∷ rest) (92 ∷ 117 ∷ 48 ∷ 48 ∷ []) ≡ true
    → ((a ≡ 92) × (b ≡ 117)) × ((c ≡ 48) × (d ≡ 48))
four_bytes a b c d rest is = ((grind (arith, nat_tests), grind (arith, nat_tests)), (grind (arith, nat_tests), grind (arith, nat_tests)))

pub first_four : (text : List ℕ) → 4 ≤ length text
    → (nat_eq (get_or text 0 0) 92 && (nat_eq (get_or text 1 0) 117 && (nat_eq (get_or text 2 0) 48 && nat_eq (get_or text 3 0) 48)))
    ≡ starts_with nat_eq text (92 ∷ 117 ∷ 48 ∷ 48 ∷ [])
first_four [] long = absurd (omega arith)
first_four (a ∷ []) long = absurd (omega arith)
first_four (a ∷ b ∷ []) long = absurd (omega arith)
first_four (a ∷ b ∷ c ∷ []) long = absurd (omega arith)
first_four (a ∷ b ∷ c ∷ d ∷ rest) long = grind (arith, nat_tests)

pub ascii_item : (text : List ℕ) (h l : ℕ) → 6 ≤ length text → starts_with nat_eq text (92 ∷ 117 ∷ 48 ∷ 48 ∷ []) ≡ true
    → hex_digit (get_or text 4 0) ≡ Some h → hex_digit (get_or text 5 0) ≡ Some l → h < 8 → l < 16 → item_at text ≡ Some (meaning.Character (16 * h + l), 6)
ascii_item [] h l long starts high low small less = absurd (omega arith)
ascii_item (a ∷ []) h l long starts high low small less = absurd (omega arith)
ascii_item (a ∷ b ∷ []) h l long starts high low small less = absurd (omega arith)
ascii_item (a ∷ b ∷ c ∷ []) h l long starts high low small less = absurd (omega arith)
ascii_item (a ∷ b ∷ c ∷ d ∷ []) h l long starts high low small less = absurd (omega arith)
ascii_item (a ∷ b ∷ c ∷ d ∷ e ∷ []) h l long starts high low small less = absurd (omega arith)
ascii_item (a ∷ b ∷ c ∷ d ∷ e ∷ f ∷ rest) h l long starts high low small less =
    let are = four_bytes a b c d (e ∷ f ∷ rest) starts in
    rw (are.0.0, are.0.1, are.1.0, are.1.1) (ascii_six e f h l rest high low small less)

-- and what it means in UTF-8
pub ascii_bytes : (c : ℕ) → c < 128 → bytes_of (meaning.Character c) ≡ c ∷ []
ascii_bytes c small = encode_ascii c small

-- behind an item that means a byte
pub byte_read : (before text : List ℕ) (meaning : Meaning) (byte len : ℕ) → item_at text ≡ Some (meaning, len) → bytes_of meaning ≡ byte ∷ [] → 0 < len
    → len ≤ length text → nat_eq (get_or text 0 0) 34 ≡ false → with_front before (items 0 text) ≡ with_front (before ++ byte ∷ []) (items 0 (drop len text))
byte_read before text meaning byte len is means some within other =
    ap (with_front before) (behind_item text meaning len some within other is)
    ∙ fronts before (bytes_of meaning) (items 0 (drop len text)) ∙ ap (λ bytes. with_front (before ++ bytes) (items 0 (drop len text))) means

-- so many bytes that stand by themselves, as lanes show them
one_plain : (n b : ℕ) (bs : List ℕ) (plain : Bool) → is_plain b ≡ plain → suc n ≤ prefix_len is_plain (b ∷ bs)
    → (n ≤ prefix_len is_plain bs → items 0 bs ≡ with_front (take n bs) (items 0 (drop n bs)))
    → items 0 (b ∷ bs) ≡ with_front (take (suc n) (b ∷ bs)) (items 0 (drop (suc n) (b ∷ bs)))
one_plain n b bs false e few more =
    let none : prefix_len is_plain (b ∷ bs) ≡ 0 = rw (e, prefix_len) refl in
    absurd (omega arith)
one_plain n b bs true e few more =
    let len : prefix_len is_plain (b ∷ bs) ≡ suc (prefix_len is_plain bs) = rw (e, prefix_len) (omega arith) in
    behind_item (b ∷ bs) (meaning.Byte b) 1 (omega arith) (omega arith) (plain_other b e) (plain_item b bs e)
    ∙ ap (with_front (b ∷ [])) (more (omega arith))
    ∙ fronts (b ∷ []) (take n bs) (items 0 (drop n bs))

some_plain : (n : ℕ) (text : List ℕ) → n ≤ prefix_len is_plain text → items 0 text ≡ with_front (take n text) (items 0 (drop n text))
some_plain zero text few = sym (no_front (items 0 text))
some_plain (suc n) [] few = absurd (omega arith)
some_plain (suc n) (b ∷ bs) few = one_plain n b bs (is_plain b) refl few (some_plain n bs)

fewer_by : (n b : ℕ) (bs : List ℕ) (plain : Bool) → is_plain b ≡ plain → prefix_len is_plain (take n bs) ≤ prefix_len is_plain bs
    → prefix_len is_plain (b ∷ take n bs) ≤ prefix_len is_plain (b ∷ bs)
fewer_by n b bs true e less = rw (prefix_len, e) (omega arith)
fewer_by n b bs false e less = rw (prefix_len, e) (omega arith)

fewer : (n : ℕ) (text : List ℕ) → prefix_len is_plain (take n text) ≤ prefix_len is_plain text
fewer zero text = omega arith
fewer (suc n) [] = omega arith
fewer (suc n) (b ∷ bs) = fewer_by n b bs (is_plain b) refl (fewer n bs)

pub lanes_read : (before text : List ℕ) (run : ℕ) → run ≡ prefix_len is_plain (take 16 text) → run ≤ 16
    → with_front before (items 0 text) ≡ with_front (before ++ take run (take 16 text)) (items 0 (drop run text))
lanes_read before text run is few =
    ap (with_front before) (some_plain run text (omega (arith, fewer 16 text)))
    ∙ fronts before (take run text) (items 0 (drop run text))
    ∙ ap (λ bytes. with_front (before ++ bytes) (items 0 (drop run text))) (sym (take_few run 16 text few))

-- a digit from 0 to 7
pub low_digit : (b : ℕ) → 48 ≤ b → b ≤ 55 → hex_digit b ≡ Some (b - 48)
low_digit b from to = grind (arith, nat_tests)

-- an escape of two bytes
escaped_other : (b : ℕ) (same : Bool) (byte : ℕ) → nat_eq b 117 ≡ same → escaped b ≡ Some byte → same ≡ false
escaped_other b false byte e is = refl
escaped_other b true byte e is =
    let here : b ≡ 117 = grind (arith, nat_tests) in
    let none : escaped 117 ≡ Some byte = subst (λ n. escaped n ≡ Some byte) here is in
    cc

no_unit : (b : ℕ) (rest : List ℕ) → nat_eq b 117 ≡ false → starts_with nat_eq (92 ∷ b ∷ rest) (92 ∷ 117 ∷ []) ≡ false
no_unit b rest other = grind (arith, nat_tests)

two_bytes : (b byte : ℕ) (rest : List ℕ) → escaped b ≡ Some byte → item_at (92 ∷ b ∷ rest) ≡ Some (meaning.Byte byte, 2)
two_bytes b byte rest is = rw (no_unit b rest (escaped_other b (nat_eq b 117) byte refl is), is) refl

pub escaped_item : (text : List ℕ) (byte : ℕ) → 2 ≤ length text → get_or text 0 0 ≡ 92 → escaped (get_or text 1 0) ≡ Some byte
    → item_at text ≡ Some (meaning.Byte byte, 2)
escaped_item [] byte long first is = absurd (omega arith)
escaped_item (a ∷ []) byte long first is = absurd (omega arith)
escaped_item (a ∷ b ∷ rest) byte long first is = rw first (two_bytes b byte rest is)
