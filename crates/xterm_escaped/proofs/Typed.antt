-- Characters that are written in UTF-8 are read back.
use Rattle.std.proofs.Common.{◌≡◌, ◌⊎◌, ℕ, ◌+◌, ◌-◌, ◌*◌, ◌/◌, ◌%◌, ◌<◌, ◌≤◌, Bool, true, false, List, [], ◌∷◌, encode_utf8, refl, ap, subst, inl, inr, arith}
use Rattle.std.specs.Prelude.{nat_lt, ◌==◌, if◌then◌else◌}
use Rattle.std.specs.Char.{InScalarRange}
use Rattle.std.proofs.lemmas.Bool.{cases_lt}
use Rattle.std.proofs.lemmas.Bool.Decides.{nat_tests}
use lib.Utf8.{encode}
use Rattle.characters.specs.declared.utf8.Reading.{Reading}
use Rattle.characters.specs.declared.utf8.Reading.TheVariants.{Character, More, Broken}
use Rattle.characters.specs.Utf8.{IsFront, Spells, begins, code_point, is_trailing, is_whole, may_follow, reading, row_of}
use Rattle.characters.proofs.Bytes.{lead, second, within, two_scalar, three_scalar, four_scalar}
use Rattle.vt_parser.specs.Syntax.{is_graphic}
use Rattle.xterm_escaped.proofs.Cells.{IsTyped}

-- ---- what is written is read

-- by the first two bytes
record Reads (a b long : ℕ) : Type 0 where
  begun : begins a ≡ true
  follows : may_follow (a ∷ []) b ≡ true
  whole : ((row_of a).length == 2) ≡ (long == 2)
  third : ((row_of a).length == 3) ≡ (long == 3)
  fourth : ((row_of a).length == 4) ≡ (long == 4)

two_reads : (a b : ℕ) → 0xC2 ≤ a → a ≤ 0xDF → 0x80 ≤ b → b ≤ 0xBF → Reads a b 2
unfolding row_of
two_reads a b low high from to = record {
  begun = grind (arith, nat_tests);
  follows = grind (arith, nat_tests);
  whole = grind (arith, nat_tests);
  third = grind (arith, nat_tests);
  fourth = grind (arith, nat_tests);
}

three_reads : (a b : ℕ) → 0xE0 ≤ a → a ≤ 0xEF → 0x80 ≤ b → b ≤ 0xBF → (a ≡ 0xE0 → 0xA0 ≤ b) → (a ≡ 0xED → b ≤ 0x9F) → Reads a b 3
unfolding row_of
three_reads a b low high from to first last = record {
  begun = grind (arith, nat_tests);
  follows = grind (arith, nat_tests);
  whole = grind (arith, nat_tests);
  third = grind (arith, nat_tests);
  fourth = grind (arith, nat_tests);
}

four_reads : (a b : ℕ) → 0xF0 ≤ a → a ≤ 0xF4 → 0x80 ≤ b → b ≤ 0xBF → (a ≡ 0xF0 → 0x90 ≤ b) → (a ≡ 0xF4 → b ≤ 0x8F) → Reads a b 4
unfolding row_of
four_reads a b low high from to first last = record {
  begun = grind (arith, nat_tests);
  follows = grind (arith, nat_tests);
  whole = grind (arith, nat_tests);
  third = grind (arith, nat_tests);
  fourth = grind (arith, nat_tests);
}

trails : (bits : ℕ) → is_trailing (128 + bits % 64) ≡ true
trails bits = grind (arith, nat_tests)

two_spell : (a b c : ℕ) → Reads a b 2 → 64 * (a - 0xC0) + (b - 0x80) ≡ c → Spells (a ∷ b ∷ []) c
two_spell a b c reads is = (reads.begun, simp (reads.follows, reads.whole) (ap Character is))

three_spell : (a b bits c : ℕ) → Reads a b 3 → 4096 * (a - 0xE0) + 64 * (b - 0x80) + (128 + bits % 64 - 0x80) ≡ c → Spells (a ∷ b ∷ (128 + bits % 64) ∷ []) c
three_spell a b bits c reads is = (
  reads.begun,
  (simp (reads.follows, reads.whole), simp (trails bits, reads.third) (ap Character is)),
)

four_spell : (a b more bits c : ℕ) → Reads a b 4
    → 262144 * (a - 0xF0) + 4096 * (b - 0x80) + 64 * (128 + more % 64 - 0x80) + (128 + bits % 64 - 0x80) ≡ c
    → Spells (a ∷ b ∷ (128 + more % 64) ∷ (128 + bits % 64) ∷ []) c
four_spell a b more bits c reads is = (
  reads.begun,
  (simp (reads.follows, reads.whole), (simp (trails more, reads.third), simp (trails bits, reads.fourth) (ap Character is))),
)

below : (c : ℕ) → InScalarRange c → c ≤ 0x10FFFF
below c (inl low) = omega arith
below c (inr high) = high.1

no_surrogate : (c : ℕ) → InScalarRange c → c < 0xE000 → c < 0xD800
no_surrogate c (inl low) less = low
no_surrogate c (inr high) less = absurd (omega (arith, high.0))

pub spelt : (c : ℕ) → 0x80 ≤ c → InScalarRange c → Spells (encode_utf8 c) c
unfolding encode
spelt c low is =
    let most = below c is in
    let one : nat_lt c 128 ≡ false = grind (arith, nat_tests) in
    elim (cases_lt c 2048) [
      | inl two ↦ (let test : nat_lt c 2048 ≡ true = grind (arith, nat_tests) in
          simp (one, test)
          (two_spell (192 + c / 64) (128 + c % 64) c (two_reads (192 + c / 64) (128 + c % 64) (omega arith) (omega arith) (omega arith) (omega arith)) (omega arith)))
      | inr more ↦ (let second_test : nat_lt c 2048 ≡ false = grind (arith, nat_tests) in elim (cases_lt c 65536) [
        | inl three ↦ (let test : nat_lt c 65536 ≡ true = grind (arith, nat_tests) in
            let gap = no_surrogate c is in
            simp (one, second_test, test)
            (three_spell (224 + c / 4096) (128 + c / 64 % 64) c c
            (three_reads (224 + c / 4096) (128 + c / 64 % 64) (omega arith) (omega arith) (omega arith) (omega arith) (λ e. omega arith) (λ e. omega arith)) (omega arith)))
        | inr four ↦ (let test : nat_lt c 65536 ≡ false = grind (arith, nat_tests) in
            simp (one, second_test, test)
            (four_spell (240 + c / 262144) (128 + c / 4096 % 64) (c / 64) c c
            (four_reads (240 + c / 262144) (128 + c / 4096 % 64) (omega arith) (omega arith) (omega arith) (omega arith) (λ e. omega arith) (λ e. omega arith)) (omega arith)))
      ])
    ]

-- ---- what is read can be written

-- a graphic character of ASCII, or a scalar value from U+0080 on
abbrev pub IsTypeable : ℕ → Type 0
IsTypeable c = (is_graphic c ≡ true) ⊎ ((0x80 ≤ c) × InScalarRange c)

pub typed : (c : ℕ) → IsTypeable c → IsTyped c
typed c (inl graphic) = inl graphic
typed c (inr scalar) = inr (spelt c scalar.0 scalar.1)

abbrev character_in : Reading → ℕ
character_in (Character c) = c
character_in More = 0
character_in Broken = 0

-- a scalar value from U+0080 on
abbrev pub IsUpper : ℕ → Type 0
IsUpper c = (0x80 ≤ c) × InScalarRange c

by_tests : (goes whole : Bool) (code c : ℕ) → (if goes then (if whole then Character code else More) else Broken) ≡ Character c
    → (goes ≡ true → whole ≡ true → IsUpper code) → IsUpper c
by_tests true true code c e ok = subst IsUpper (ap character_in e) (ok refl refl)
by_tests true false code c e ok = absurd cc
by_tests false whole code c e ok = absurd cc

-- by the first byte: what is read is no character of ASCII
record IsHigh (a : ℕ) : Type 0 where
  three : (row_of a).length ≡ 3 → a ≡ 0xE0 → 0xA0 ≤ (row_of a).low

high_lead : (a : ℕ) → begins a ≡ true → IsHigh a
unfolding row_of
high_lead a is = record { three = λ long same. grind (arith, nat_tests) }

long_is : (n m : ℕ) → (n == m) ≡ true → n ≡ m
long_is n m e = grind (arith, nat_tests)

read_two : (a b : ℕ) → begins a ≡ true → may_follow (a ∷ []) b ≡ true → (row_of a).length ≡ 2 → IsUpper (code_point (a ∷ b ∷ []))
read_two a b begun follows long =
    let l = lead a begun in let low = l.two_low long in let high = l.two_high long in let s = second a b l follows in
    (omega (arith, s.0, s.1), two_scalar a b low high s.0 s.1)

read_three : (a b c : ℕ) → begins a ≡ true → may_follow (a ∷ []) b ≡ true → (row_of a).length ≡ 3 → is_trailing c ≡ true
    → IsUpper (code_point (a ∷ b ∷ c ∷ []))
read_three a b c begun follows long trailing =
    let l = lead a begun in let h = high_lead a begun in
    let low = l.three_low long in let high = l.three_high long in
    let s = second a b l follows in
    let from = s.0 in let to = s.1 in
    let bounds = within _ _ b follows in let over = bounds.0 in let under = bounds.1 in
    let t = within 0x80 0xBF c trailing in let t_low = t.0 in let t_high = t.1 in
    let least = h.three long in
    let most = l.no_surrogate long in (
      elim (cases_lt 0xE0 a) [ inl more ↦ omega arith | inr first ↦ (let same : a ≡ 0xE0 = omega arith in let enough = least same in omega arith) ],
      three_scalar a b c low high from to (λ e. let fewer = most e in omega arith) t_low t_high,
    )

read_four : (a b c d : ℕ) → begins a ≡ true → may_follow (a ∷ []) b ≡ true → (row_of a).length ≡ 4 → is_trailing c ≡ true → is_trailing d ≡ true
    → IsUpper (code_point (a ∷ b ∷ c ∷ d ∷ []))
read_four a b c d begun follows long third fourth =
    let l = lead a begun in
    let low = l.four_low long in let high = l.four_high long in
    let s = second a b l follows in
    let from = s.0 in let to = s.1 in
    let bounds = within _ _ b follows in let over = bounds.0 in let under = bounds.1 in
    let t = within 0x80 0xBF c third in let t_low = t.0 in let t_high = t.1 in
    let u = within 0x80 0xBF d fourth in let u_low = u.0 in let u_high = u.1 in
    let bottom = l.bottom long in
    let top = l.top long in (
      elim (cases_lt 0xF0 a) [ inl more ↦ omega arith | inr first ↦ (let same : a ≡ 0xF0 = omega arith in let enough = bottom same in omega arith) ],
      four_scalar a b c d low high from to (λ e. let fewer = top e in omega arith) (λ e. let enough = bottom e in omega arith) t_low t_high u_low u_high,
    )

pub read_upper : (pending : List ℕ) (byte c : ℕ) → IsFront pending → reading pending byte ≡ Character c → IsUpper c
read_upper [] byte c front e = absurd cc
read_upper (a ∷ []) byte c front e =
    by_tests (may_follow (a ∷ []) byte) (is_whole (a ∷ byte ∷ [])) (code_point (a ∷ byte ∷ [])) c e
    (λ goes whole. read_two a byte front goes (long_is (row_of a).length 2 whole))
read_upper (a ∷ b ∷ []) byte c front e =
    by_tests (may_follow (a ∷ b ∷ []) byte) (is_whole (a ∷ b ∷ byte ∷ [])) (code_point (a ∷ b ∷ byte ∷ [])) c e
    (λ goes whole. read_three a b byte front.0 front.1 (long_is (row_of a).length 3 whole) goes)
read_upper (a ∷ b ∷ d ∷ []) byte c front e =
    by_tests (may_follow (a ∷ b ∷ d ∷ []) byte) (is_whole (a ∷ b ∷ d ∷ byte ∷ [])) (code_point (a ∷ b ∷ d ∷ byte ∷ [])) c e
    (λ goes whole. read_four a b d byte front.0 front.1 (long_is (row_of a).length 4 whole) front.2 goes)
read_upper (a ∷ b ∷ d ∷ f ∷ rest) byte c front e = absurd front

pub read_typeable : (pending : List ℕ) (byte c : ℕ) → IsFront pending → reading pending byte ≡ Character c → IsTypeable c
read_typeable pending byte c front e = inr (read_upper pending byte c front e)
