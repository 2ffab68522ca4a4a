-- Marks that are bits of a number.
use Rattle.std.proofs.Common.{◌≡◌, ℕ, ◌<◌, ap, arith, ◌∙◌}
use Rattle.std.specs.Prelude.{max}
use Rattle.std.specs.Int.{bit_at}
use Rattle.std.specs.Int.Bits.{bit_or}
use Rattle.std.proofs.lemmas.Nat.Bits.{bit_at-lt, bit_at_or}

high_left : (n : ℕ) → n < 2 → max 1 n ≡ 1
high_left n lt = omega (arith, lt)

high_right : (n : ℕ) → n < 2 → max n 1 ≡ 1
high_right n lt = omega (arith, lt)

-- a mark stays where others come ..
pub mark_stays : (marks more i : ℕ) → bit_at marks i ≡ 1 → bit_at (bit_or marks more) i ≡ 1
mark_stays marks more i is = bit_at_or marks more i ∙ ap (λ n. max n (bit_at more i)) is ∙ high_left (bit_at more i) (bit_at-lt more i)

-- .. and these are there too
pub mark_comes : (marks more i : ℕ) → bit_at more i ≡ 1 → bit_at (bit_or marks more) i ≡ 1
mark_comes marks more i is = bit_at_or marks more i ∙ ap (λ n. max (bit_at marks i) n) is ∙ high_right (bit_at marks i) (bit_at-lt marks i)
