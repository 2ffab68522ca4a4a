-- The dots of a pattern of Braille.
use Rattle.std.proofs.Common.{◌≡◌, ℕ, ◌+◌, ◌-◌, ◌<◌, ◌∷◌, true, ap, sym, add-one, arith, decimal, if◌then◌else◌}
use Rattle.std.specs.Prelude.{nat_lt}
use Rattle.std.proofs.lemmas.Bool.Decides.{nat_tests}
use Rattle.xterm_picture.specs.Strokes.{difference, dot_left, dot_top, is_raised, left_before, top_before}

pub left_more : (pattern dot : ℕ)
    → left_before pattern (dot + 1) ≡ (if is_raised pattern dot then dot_left dot else left_before pattern dot)
left_more pattern dot = ap (left_before pattern) (add-one dot)

pub top_more : (pattern dot : ℕ)
    → top_before pattern (dot + 1) ≡ (if is_raised pattern dot then dot_top dot else top_before pattern dot)
top_more pattern dot = ap (top_before pattern) (add-one dot)

-- a number that is less than another
pub below : (one other : ℕ) → one < other → 45 ∷ decimal (other - one) ≡ difference one other
below one other less =
    let test : nat_lt one other ≡ true = grind (arith, nat_tests, less) in
    sym (ap (λ b. if b then 45 ∷ decimal (other - one) else decimal (one - other)) test)
