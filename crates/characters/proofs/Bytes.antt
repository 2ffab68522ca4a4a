-- What the bytes of a character are by its first one, and that they make a scalar value.
use Rattle.std.proofs.Common.{◌≡◌, ℕ, ◌+◌, ◌-◌, ◌*◌, ◌≤◌, true, inl, inr, arith}
use Rattle.std.specs.Char.{InScalarRange}
use Rattle.std.proofs.lemmas.Bool.{cases_lt}
use Rattle.std.proofs.lemmas.Bool.Decides.{nat_tests}
use Rattle.characters.specs.Utf8.{is_within, row_of, begins}

-- by the length that the first byte tells, its own range and that of the second byte
pub record Lead (a : ℕ) : Type 0 where
  pub low : 0x80 ≤ (row_of a).low
  pub high : (row_of a).high ≤ 0xBF
  pub least : 2 ≤ (row_of a).length
  pub most : (row_of a).length ≤ 4
  pub two_low : (row_of a).length ≡ 2 → 0xC2 ≤ a
  pub two_high : (row_of a).length ≡ 2 → a ≤ 0xDF
  pub three_low : (row_of a).length ≡ 3 → 0xE0 ≤ a
  pub three_high : (row_of a).length ≡ 3 → a ≤ 0xEF
  pub no_surrogate : (row_of a).length ≡ 3 → a ≡ 0xED → (row_of a).high ≤ 0x9F
  pub four_low : (row_of a).length ≡ 4 → 0xF0 ≤ a
  pub four_high : (row_of a).length ≡ 4 → a ≤ 0xF4
  pub bottom : (row_of a).length ≡ 4 → a ≡ 0xF0 → 0x90 ≤ (row_of a).low
  pub top : (row_of a).length ≡ 4 → a ≡ 0xF4 → (row_of a).high ≤ 0x8F

pub lead : (a : ℕ) → begins a ≡ true → Lead a
unfolding row_of
lead a is = record {
  low = grind (arith, nat_tests);
  high = grind (arith, nat_tests);
  least = grind (arith, nat_tests);
  most = grind (arith, nat_tests);
  two_low = λ n. grind (arith, nat_tests);
  two_high = λ n. grind (arith, nat_tests);
  three_low = λ n. grind (arith, nat_tests);
  three_high = λ n. grind (arith, nat_tests);
  no_surrogate = λ n same. grind (arith, nat_tests);
  four_low = λ n. grind (arith, nat_tests);
  four_high = λ n. grind (arith, nat_tests);
  bottom = λ n same. grind (arith, nat_tests);
  top = λ n same. grind (arith, nat_tests);
}

-- a byte in a range
pub within : (low high byte : ℕ) → is_within low high byte ≡ true → (low ≤ byte) × (byte ≤ high)
within low high byte is = (grind (arith, nat_tests), grind (arith, nat_tests))

-- the second byte of a first one
pub second : (a b : ℕ) → Lead a → is_within (row_of a).low (row_of a).high b ≡ true → (0x80 ≤ b) × (b ≤ 0xBF)
second a b l is = let w = within _ _ b is in let low = l.low in let high = l.high in (omega arith, omega arith)

pub two_scalar : (a b : ℕ) → 0xC2 ≤ a → a ≤ 0xDF → 0x80 ≤ b → b ≤ 0xBF → InScalarRange (64 * (a - 0xC0) + (b - 0x80))
two_scalar a b al ah bl bh = inl (omega arith)

pub three_scalar : (a b c : ℕ) → 0xE0 ≤ a → a ≤ 0xEF → 0x80 ≤ b → b ≤ 0xBF → (a ≡ 0xED → b ≤ 0x9F) → 0x80 ≤ c → c ≤ 0xBF
    → InScalarRange (4096 * (a - 0xE0) + 64 * (b - 0x80) + (c - 0x80))
three_scalar a b c al ah bl bh surrogate cl ch = elim (cases_lt a 0xED) [
  | inl low ↦ inl (omega arith)
  | inr more ↦ elim (cases_lt 0xED a) [
    | inl above ↦ inr (omega arith, omega arith)
    | inr here ↦ let same : a ≡ 0xED = omega arith in let less = surrogate same in inl (omega arith)
  ]
]

pub four_scalar : (a b c d : ℕ) → 0xF0 ≤ a → a ≤ 0xF4 → 0x80 ≤ b → b ≤ 0xBF → (a ≡ 0xF4 → b ≤ 0x8F)
    → (a ≡ 0xF0 → 0x90 ≤ b) → 0x80 ≤ c → c ≤ 0xBF → 0x80 ≤ d → d ≤ 0xBF
    → InScalarRange (262144 * (a - 0xF0) + 4096 * (b - 0x80) + 64 * (c - 0x80) + (d - 0x80))
four_scalar a b c d al ah bl bh top bottom cl ch dl dh =
    elim (cases_lt 0xF0 a) [
      | inl above ↦ elim (cases_lt a 0xF4) [
        | inl below ↦ inr (omega arith, omega arith)
        | inr last ↦ let same : a ≡ 0xF4 = omega arith in let less = top same in inr (omega arith, omega arith)
      ]
      | inr first ↦ let same : a ≡ 0xF0 = omega arith in let more = bottom same in inr (omega arith, omega arith)
    ]
