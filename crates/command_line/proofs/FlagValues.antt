-- The values of flags: what is read as seconds, a number or a size is a plain word.
use Rattle.std.proofs.Common.{◌≡◌, ℕ, ◌&&◌, Bool, true, false, [], ◌∷◌, Option, Some, None, zero, drop, position, ◌==◌, length, min, nat_lt, ◌+◌, arith, suc, take, refl, sym, ◌∙◌, ap, subst, if◌then◌else◌}
use Rattle.std.proofs.lemmas.Bool.{eqb-true}
use Rattle.std.proofs.lemmas.Bool.Decides.{nat_tests}
use Rattle.std.specs.Char.{is_ascii_digit}
use Rattle.std.specs.Int.{IsInRange}
use Rattle.std.specs.Str.Parse.{digits_value}
use Rattle.std.specs.List.{after_first, before_first, list_all, position_or_len}
use Rattle.std.specs.Option.{option_and_then, option_map}
use Rattle.clap.specs.Words.{Text}
use Rattle.tape_core.specs.Seconds.{last_moment, micros, seconds_of}
use Rattle.tape_seek.specs.Requests.{place_of}
use Rattle.command_line.specs.CommandLine.{every_allowed, every_of, size_cut, size_from, size_named}
use Rattle.command_line.specs.Lines.{IsPlain}
use Rattle.command_line.specs.declared.player.Measure.{Measure}
use Rattle.command_line.proofs.PlainWords.{first_true, second_true}

-- ---- the values of flags

pub is_false : (b : Bool) → (b ≡ true → ⊥) → b ≡ false
is_false true h = absurd (h refl)
is_false false h = refl

pub no_value : {X Y : Type 0} (f : X → Y) (x : X) (b : Bool) → option_map f (if b && false then Some x else None) ≡ None
no_value f x true = refl
no_value f x false = refl

pub no_digit : (n : ℕ) (rest : Text) → list_all is_ascii_digit (take (1 + n) (45 ∷ rest)) ≡ false
no_digit n rest =
    let more : 1 + n ≡ suc n = omega arith in
    ap (λ k. list_all is_ascii_digit (take k (45 ∷ rest))) more

pub no_seconds : (rest : Text) → seconds_of (45 ∷ rest) ≡ None
unfolding seconds_of
no_seconds rest =
    let whole = before_first (λ b. b == 46) (45 ∷ rest) in
    let decimals = after_first (λ b. b == 46) (45 ∷ rest) in
    ap (λ c. option_map (λ us. min us last_moment)
    (if nat_lt 0 (length whole) && (c && list_all is_ascii_digit decimals) then Some (micros whole decimals) else None))
    (no_digit (position_or_len (λ b. b == 46) rest) rest)
    ∙ no_value (λ us. min us last_moment) (micros whole decimals) (nat_lt 0 (length whole))

pub some_seconds : (rest : Text) (moment : ℕ) → seconds_of (45 ∷ rest) ≡ Some moment → ⊥
some_seconds rest moment e =
    let bad : None ≡ Some moment = sym (no_seconds rest) ∙ e in
    absurd (cc)

-- a text that is read as seconds begins with a digit
pub seconds_are_plain : (text : Text) (moment : ℕ) → seconds_of text ≡ Some moment → IsPlain text
unfolding seconds_of
seconds_are_plain [] moment e = refl
seconds_are_plain (c ∷ rest) moment e =
    is_false (c == 45) (λ same. some_seconds rest moment (subst (λ x. seconds_of (x ∷ rest) ≡ Some moment) (eqb-true c 45 same) e))

-- ---- the number of chunks that a flag gives

pub digits_if : (text : Text) (count : ℕ) (is : Bool) → is ≡ (nat_lt 0 (length text) && list_all is_ascii_digit text)
    → option_and_then every_allowed (option_map (λ n. min n last_moment) (if is then Some (digits_value 10 text) else None)) ≡ Some count
    → list_all is_ascii_digit text ≡ true
digits_if text count false is e = absurd (cc)
digits_if text count true is e = second_true _ _ (sym is)

-- a number of chunks is written in digits
pub number_in_digits : (text : Text) (count : ℕ) → every_of text ≡ Some count → list_all is_ascii_digit text ≡ true
unfolding every_of
number_in_digits text count e = digits_if text count (nat_lt 0 (length text) && list_all is_ascii_digit text) refl e

pub digit_range : (c : ℕ) → is_ascii_digit c ≡ true → IsInRange 48 57 c
digit_range c e = (grind (arith, nat_tests), grind (arith, nat_tests))

pub number_is_plain : (text : Text) → list_all is_ascii_digit text ≡ true → IsPlain text
number_is_plain [] e = refl
number_is_plain (c ∷ rest) e =
    is_false (c == 45) (λ same. absurd (omega (arith, eqb-true c 45 same, (digit_range c (first_true _ _ e)).0)))

-- ---- the size that a flag gives

pub no_place : (n : ℕ) (rest : Text) → place_of (take n (45 ∷ rest)) ≡ None
no_place zero rest = refl
no_place (suc n) rest =
    no_value (λ n. min n last_moment) (digits_value 10 (take (suc n) (45 ∷ rest))) (nat_lt 0 (length (take (suc n) (45 ∷ rest))))

pub no_columns : (lines : Option ℕ) → size_from None lines ≡ None
no_columns None = refl
no_columns (Some lines) = refl

pub no_cut : (rest : Text) (cross : Option ℕ) → option_and_then (size_cut (45 ∷ rest)) cross ≡ None
no_cut rest None = refl
no_cut rest (Some n) =
    ap (λ columns. size_from columns (place_of (drop (n + 1) (45 ∷ rest)))) (no_place n rest) ∙ no_columns (place_of (drop (n + 1) (45 ∷ rest)))

pub no_size : (rest : Text) → size_named (45 ∷ rest) ≡ None
unfolding size_named
no_size rest = no_cut rest (position (λ byte. byte == 120) (45 ∷ rest))

-- a text that is read as a size begins with a digit
pub size_is_plain : (text : Text) (measure : Measure) → size_named text ≡ Some measure → IsPlain text
unfolding size_named
size_is_plain [] measure e = refl
size_is_plain (c ∷ rest) measure e =
    is_false (c == 45) (λ same.
    let bad : None ≡ Some measure = sym (no_size rest) ∙ subst (λ x. size_named (x ∷ rest) ≡ Some measure) (eqb-true c 45 same) e in
    absurd (cc))
