-- Characters as they stand in a string of JSON, read back as their bytes in UTF-8.
use Rattle.std.proofs.Common.{◌≡◌, ℕ, zero, suc, ◌+◌, ◌-◌, ◌*◌, ◌/◌, ◌%◌, ◌<◌, ◌≤◌, ◌||◌, ◌&&◌, Bool, true, false, All, List, [], ◌∷◌, ◌++◌, codes, length, drop, get_or, encode_utf8_all, nat_eq, nat_le, nat_lt, Option, Some, None, if◌then◌else◌, refl, ap, sym, ◌∙◌, arith, inl, inr, append_assoc, append-nil}
use Rattle.std.specs.Char.{encode_utf8, is_ascii_digit}
use Rattle.std.specs.List.{flat_map}
use Rattle.std.proofs.lemmas.Bool.{cases_lt, le-leb}
use Rattle.std.proofs.lemmas.Bool.Decides.{nat_tests}
use Rattle.std.proofs.lemmas.List.Elements.{All-append, All-cons, All-from_get_or, All-nil}
use Rattle.std.proofs.lemmas.Str.{encode_ascii, inside_one}
use Rattle.json_bytes.specs.Strings as strings
use Rattle.json_bytes.specs.Strings.{alone, character_at, go_on, is_high, is_plain, item_at, items, joined, unit_at, with_front}
use Rattle.json_bytes.specs.declared.strings.Meaning.TheVariants as meaning
use Rattle.output_cast.specs.Json.{control_text, hex_digit, json_character, json_text}

-- ---- what stands in front

fronts : (one two : List ℕ) (read : Option (List ℕ × List ℕ)) → with_front one (with_front two read) ≡ with_front (one ++ two) read
fronts one two None = refl
fronts one two (Some r) = ap (λ bytes. Some (bytes, r.1)) (sym (append_assoc one two r.0))

no_front : (read : Option (List ℕ × List ℕ)) → with_front [] read ≡ read
no_front None = refl
no_front (Some r) = refl

-- ---- bytes that stand by themselves

plain_item : (b : ℕ) (bs : List ℕ) → is_plain b ≡ true → item_at (b ∷ bs) ≡ Some (meaning.Byte b, 1)
plain_item b bs plain = grind arith

plain_other : (b : ℕ) → is_plain b ≡ true → nat_eq b 34 ≡ false
plain_other b plain = grind arith

plain_read : (b : ℕ) (bs : List ℕ) → is_plain b ≡ true → items 0 (b ∷ bs) ≡ with_front (b ∷ []) (items 0 bs)
plain_read b bs plain =
    let goes : items 0 (b ∷ bs) ≡ go_on (λ belong. items belong bs) (item_at (b ∷ bs)) = rw (plain_other b plain) refl in
    goes ∙ ap (go_on (λ belong. items belong bs)) (plain_item b bs plain)

plain_bytes : (bytes rest : List ℕ) → ((k : ℕ) → k < length bytes → is_plain (get_or bytes k 0) ≡ true)
    → items 0 (bytes ++ rest) ≡ with_front bytes (items 0 rest)
plain_bytes [] rest all = sym (no_front (items 0 rest))
plain_bytes (b ∷ bs) rest all =
    plain_read b (bs ++ rest) (all 0 (omega arith))
    ∙ ap (with_front (b ∷ [])) (plain_bytes bs rest (λ k below. all (suc k) (omega arith))) ∙ fronts (b ∷ []) bs (items 0 rest)

-- a character that isn't escaped stands by its bytes
high_plain : (b : ℕ) → 128 ≤ b → is_plain b ≡ true
high_plain b high = grind (arith, nat_tests)

low_plain : (c : ℕ) → nat_eq c 34 ≡ false → nat_eq c 92 ≡ false → (nat_lt c 32 || nat_eq c 127) ≡ false → is_plain c ≡ true
low_plain c quote slash control = grind (arith, nat_tests)

high_bytes : (c : ℕ) → 128 ≤ c → (k : ℕ) → k < length (encode_utf8 c) → 128 ≤ get_or (encode_utf8 c) k 0
high_bytes c high k below = elim (cases_lt (get_or (encode_utf8 c) k 0) 128) [
  | inl low ↦ absurd (omega (arith, inside_one c [] (encode_utf8 c) k (sym (append-nil (encode_utf8 c))) below low))
  | inr is ↦ is
]

one_byte : (c : ℕ) → is_plain c ≡ true → (k : ℕ) → k < length (c ∷ []) → is_plain (get_or (c ∷ []) k 0) ≡ true
one_byte c plain zero below = plain
one_byte c plain (suc k) below = absurd (omega arith)

pub are_plain : (c : ℕ) → is_plain c ≡ true → (k : ℕ) → k < length (encode_utf8 c) → is_plain (get_or (encode_utf8 c) k 0) ≡ true
are_plain c plain = elim (cases_lt c 128) [
  | inl small ↦ rw (encode_ascii c small) (one_byte c plain)
  | inr high ↦ λ k below. high_plain (get_or (encode_utf8 c) k 0) (high_bytes c high k below)
]

-- ---- numbers of controls

low_digit : (n : ℕ) → n < 10 → is_ascii_digit (48 + n) ≡ true
low_digit n small = grind (arith, nat_tests)

high_digit : (n : ℕ) → 10 ≤ n → n < 16 → is_ascii_digit (87 + n) ≡ false
high_digit n ten small = grind (arith, nat_tests)

no_capital : (n : ℕ) → 10 ≤ n → n < 16 → (nat_le 65 (87 + n) && nat_le (87 + n) 70) ≡ false
no_capital n ten small = grind (arith, nat_tests)

a_letter : (n : ℕ) → 10 ≤ n → n < 16 → (nat_le 97 (87 + n) && nat_le (87 + n) 102) ≡ true
a_letter n ten small = grind (arith, nat_tests)

low_back : (n : ℕ) → n < 10 → strings.hex_digit (48 + n) ≡ Some n
low_back n small = let same : 48 + n - 48 ≡ n = omega arith in rw (low_digit n small) (ap Some same)

high_back : (n : ℕ) → 10 ≤ n → n < 16 → strings.hex_digit (87 + n) ≡ Some n
high_back n ten small =
    let same : 87 + n - 87 ≡ n = omega arith in
    rw (high_digit n ten small, no_capital n ten small, a_letter n ten small) (ap Some same)

hex_low : (n : ℕ) → n < 10 → hex_digit n ≡ 48 + n
hex_low n small = grind (arith, nat_tests)

hex_high : (n : ℕ) → 10 ≤ n → hex_digit n ≡ 87 + n
hex_high n ten = grind (arith, nat_tests)

hex_back : (n : ℕ) → n < 16 → strings.hex_digit (hex_digit n) ≡ Some n
hex_back n small = elim (cases_lt n 10) [
  | inl low ↦ ap strings.hex_digit (hex_low n low) ∙ low_back n low
  | inr ten ↦ ap strings.hex_digit (hex_high n ten) ∙ high_back n ten small
]

joined_alone : (first : ℕ) (second : Option ℕ) → is_high first ≡ false → joined first second ≡ (meaning.Character (alone first), 6)
joined_alone first None low = refl
joined_alone first (Some second) low = rw low refl

alone_at : (text : List ℕ) (first : ℕ) → unit_at text ≡ Some first → is_high first ≡ false → character_at text ≡ Some (meaning.Character (alone first), 6)
alone_at text first is low = rw is (ap (λ found. Some found) (joined_alone first (unit_at (drop 6 text)) low))

unit_item : (e f h l : ℕ) (rest : List ℕ) → strings.hex_digit e ≡ Some h → strings.hex_digit f ≡ Some l → h < 8 → l < 16
    → item_at (92 ∷ 117 ∷ 48 ∷ 48 ∷ e ∷ f ∷ rest) ≡ Some (meaning.Character (16 * h + l), 6)
unit_item e f h l rest high low small less =
    let text = 92 ∷ 117 ∷ 48 ∷ 48 ∷ e ∷ f ∷ rest in
    let long : nat_le 6 (length text) ≡ true = le-leb 6 (length text) (omega arith) in
    let same : 4096 * 0 + 256 * 0 + 16 * h + l ≡ 16 * h + l = omega arith in
    let unit : unit_at text ≡ Some (16 * h + l) = rw (long, high, low) (ap Some same) in
    let one : is_high (16 * h + l) ≡ false = grind (arith, nat_tests) in
    let itself : alone (16 * h + l) ≡ 16 * h + l = grind (arith, nat_tests) in
    alone_at text (16 * h + l) unit one ∙ ap (λ c. Some (meaning.Character c, 6)) itself

control_read : (c : ℕ) (rest : List ℕ) → c < 128 → items 0 (control_text c ++ rest) ≡ with_front (encode_utf8 c) (items 0 rest)
control_read c rest small =
    let h = c / 16 in
    let l = c % 16 in
    let whole : 16 * h + l ≡ c = omega arith in
    let tail = 117 ∷ 48 ∷ 48 ∷ hex_digit h ∷ hex_digit l ∷ rest in
    let item : item_at (92 ∷ tail) ≡ Some (meaning.Character (16 * h + l), 6) =
    unit_item (hex_digit h) (hex_digit l) h l rest (hex_back h (omega arith)) (hex_back l (omega arith)) (omega arith) (omega arith) in
    ap (go_on (λ belong. items belong tail)) item ∙ ap (λ n. with_front (encode_utf8 n) (items 0 rest)) whole

control_small : (c : ℕ) → (nat_lt c 32 || nat_eq c 127) ≡ true → c < 128
control_small c is = grind (arith, nat_tests)

-- ---- a character

abbrev told_by : Bool → Bool → Bool → ℕ → List ℕ
told_by quote slash control c =
    if quote then codes "\\\"" else (if slash then codes "\\\\" else (if control then control_text c else encode_utf8 c))

is_byte : (c byte : ℕ) → nat_eq c byte ≡ true → c ≡ byte
is_byte c byte is = grind (arith, nat_tests)

itself : (c byte : ℕ) (rest : List ℕ) → c ≡ byte → byte < 128 → with_front (byte ∷ []) (items 0 rest) ≡ with_front (encode_utf8 c) (items 0 rest)
itself c byte rest is small =
    ap (λ bytes. with_front bytes (items 0 rest)) (sym (encode_ascii byte small)) ∙ ap (λ n. with_front (encode_utf8 n) (items 0 rest)) (sym is)

read_by : (c : ℕ) (rest : List ℕ) (quote slash control : Bool) → nat_eq c 34 ≡ quote → nat_eq c 92 ≡ slash → (nat_lt c 32 || nat_eq c 127) ≡ control
    → items 0 (told_by quote slash control c ++ rest) ≡ with_front (encode_utf8 c) (items 0 rest)
read_by c rest true slash control is s t = itself c 34 rest (is_byte c 34 is) (omega arith)
read_by c rest false true control is s t = itself c 92 rest (is_byte c 92 s) (omega arith)
read_by c rest false false true is s t = control_read c rest (control_small c t)
read_by c rest false false false is s t = plain_bytes (encode_utf8 c) rest (are_plain c (low_plain c is s t))

character_read : (c : ℕ) (rest : List ℕ) → items 0 (json_character c ++ rest) ≡ with_front (encode_utf8 c) (items 0 rest)
unfolding json_character
character_read c rest = read_by c rest (nat_eq c 34) (nat_eq c 92) (nat_lt c 32 || nat_eq c 127) refl refl refl

-- a text is read back up to the quote behind it
pub text_read : (text rest : List ℕ) → items 0 (json_text text ++ 34 ∷ rest) ≡ Some (encode_utf8_all text, rest)
unfolding json_text
text_read [] rest = refl
text_read (c ∷ cs) rest =
    ap (items 0) (append_assoc (json_character c) (flat_map json_character cs) (34 ∷ rest))
    ∙ character_read c (flat_map json_character cs ++ 34 ∷ rest) ∙ ap (with_front (encode_utf8 c)) (text_read cs rest)

-- ---- no LF stands in it

abbrev pub NoFeed : ℕ → Type 0
NoFeed b = nat_eq b 10 ≡ false

abbrev pub IsUnbroken : List ℕ → Type 0
IsUnbroken text = All NoFeed text

plain_no_feed : (b : ℕ) → is_plain b ≡ true → nat_eq b 10 ≡ false
plain_no_feed b plain = grind (arith, nat_tests)

hex_no_feed : (n : ℕ) → nat_eq (hex_digit n) 10 ≡ false
hex_no_feed n = grind (arith, nat_tests)

unbroken_by : (c : ℕ) (quote slash control : Bool) → nat_eq c 34 ≡ quote → nat_eq c 92 ≡ slash → (nat_lt c 32 || nat_eq c 127) ≡ control
    → IsUnbroken (told_by quote slash control c)
unbroken_by c true slash control is s t = All-cons NoFeed 92 (34 ∷ []) refl (All-cons NoFeed 34 [] refl (All-nil NoFeed))
unbroken_by c false true control is s t = All-cons NoFeed 92 (92 ∷ []) refl (All-cons NoFeed 92 [] refl (All-nil NoFeed))
unbroken_by c false false true is s t =
    let last = All-cons NoFeed (hex_digit (c % 16)) [] (hex_no_feed (c % 16)) (All-nil NoFeed) in
    let digits = All-cons NoFeed (hex_digit (c / 16)) (hex_digit (c % 16) ∷ []) (hex_no_feed (c / 16)) last in
    All-append NoFeed (codes "\\u00") (hex_digit (c / 16) ∷ hex_digit (c % 16) ∷ [])
    (All-cons NoFeed 92 (117 ∷ 48 ∷ 48 ∷ []) refl (All-cons NoFeed 117 (48 ∷ 48 ∷ []) refl (All-cons NoFeed 48 (48 ∷ []) refl (All-cons NoFeed 48 [] refl (All-nil NoFeed))))) digits
unbroken_by c false false false is s t =
    All-from_get_or NoFeed (encode_utf8 c) 0 (λ k below. plain_no_feed (get_or (encode_utf8 c) k 0) (are_plain c (low_plain c is s t) k below))

character_unbroken : (c : ℕ) → IsUnbroken (json_character c)
unfolding json_character
character_unbroken c = unbroken_by c (nat_eq c 34) (nat_eq c 92) (nat_lt c 32 || nat_eq c 127) refl refl refl

pub text_unbroken : (text : List ℕ) → IsUnbroken (json_text text)
unfolding json_text
text_unbroken [] = All-nil NoFeed
text_unbroken (c ∷ cs) = All-append NoFeed (json_character c) (flat_map json_character cs) (character_unbroken c) (text_unbroken cs)
