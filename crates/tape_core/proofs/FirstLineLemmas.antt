-- A first line as script(1) writes it, read from its front.
use Rattle.std.proofs.Common.{◌≡◌, ℕ, ◌+◌, ◌-◌, ◌*◌, ◌≤◌, true, false, Some, Ok, List, [], ◌∷◌, ◌++◌, length, get_or, take, drop, replicate, nat_eq, refl, ap, sym, subst, ◌∙◌, arith, inl, inr, append_assoc, append-nil, length-append}
use Rattle.std.specs.Char.{is_ascii_digit}
use Rattle.std.specs.List.{AllPass}
use Rattle.std.specs.Str.Parse.{digits_value}
use Rattle.std.proofs.lemmas.Bool.Decides.{nat_tests}
use Rattle.std.proofs.lemmas.Int.Digits.{digits_value_push}
use Rattle.std.proofs.lemmas.List.{take_at, take_rest}
use Rattle.std.proofs.lemmas.List.Elements.{All-append, All-cons, All-nil, All-push, All-replicate}
use Rattle.tape_core.specs.declared.timing.Entry.{Entry}
use Rattle.tape_core.specs.Seconds.{IsSeconds}
use Rattle.tape_core.specs.Tape.{longest_delay}
use Rattle.tape_core.specs.Text.{NumberText, is_blank, lines_of}
use Rattle.tape_core.specs.Timing.{IsWithin, entry_of}
use Rattle.tape_core.proofs.DigitLemmas.{digit_of}
use Rattle.tape_core.proofs.ReadBackLemmas.{digits_unbroken, next_line, seconds_unbroken, timing_line_read}

-- The digits in front of the rest are read.
pub record DigitsRead (text rest : List ℕ) (n : ℕ) : Type 0 where
  pub digits : List ℕ
  pub spelled : text ≡ digits ++ rest
  pub all : AllPass is_ascii_digit digits
  pub value : n ≡ digits_value 10 digits
  pub small : n ≤ longest_delay

pub no_digits_read : (text : List ℕ) → DigitsRead text text 0
no_digits_read text = record { digits = []; spelled = refl; all = All-nil (λ b. is_ascii_digit b ≡ true); value = refl; small = omega arith }

is_digit : (b : ℕ) → 48 ≤ b → b ≤ 57 → is_ascii_digit b ≡ true
is_digit b low high = grind (arith, nat_tests)

next_digit_read : (text after : List ℕ) (n b d : ℕ) → DigitsRead text (b ∷ after) n → is_ascii_digit b ≡ true
    → d ≡ b - 48 → n * 10 + d ≤ longest_delay → DigitsRead text after (n * 10 + d)
next_digit_read text after n b d r is of small = record {
  digits = r.digits ++ b ∷ [];
  spelled = r.spelled ∙ sym (append_assoc r.digits (b ∷ []) after);
  all = All-push (λ b. is_ascii_digit b ≡ true) r.digits b r.all is;
  value = omega (arith, r.value, digits_value_push 10 r.digits b, digit_of b is);
  small = small;
}

pub digit_read : (text rest : List ℕ) (n d : ℕ) → DigitsRead text rest n → 1 ≤ length rest → 48 ≤ get_or rest 0 0
    → get_or rest 0 0 ≤ 57 → d ≡ get_or rest 0 0 - 48 → n * 10 + d ≤ longest_delay
    → DigitsRead text (take (length rest - 1) (drop 1 rest)) (n * 10 + d)
digit_read text [] n d r some low high of small = absurd (omega arith)
digit_read text (b ∷ after) n d r some low high of small =
    subst (λ x. DigitsRead text x (n * 10 + d)) (sym (take_rest (b ∷ after) 1)) (next_digit_read text after n b d r (is_digit b low high) of small)

-- six digits in front of the rest
pub six_read : (text : List ℕ) → 6 ≤ length text
    → 48 ≤ get_or text 0 0 → get_or text 0 0 ≤ 57 → 48 ≤ get_or text 1 0 → get_or text 1 0 ≤ 57 → 48 ≤ get_or text 2 0 → get_or text 2 0 ≤ 57
    → 48 ≤ get_or text 3 0 → get_or text 3 0 ≤ 57 → 48 ≤ get_or text 4 0 → get_or text 4 0 ≤ 57 → 48 ≤ get_or text 5 0 → get_or text 5 0 ≤ 57
    → DigitsRead text (take (length text - 6) (drop 6 text))
    (((((((0 * 10 + (get_or text 0 0 - 48)) * 10 + (get_or text 1 0 - 48)) * 10 + (get_or text 2 0 - 48)) * 10 + (get_or text 3 0 - 48)) * 10 + (get_or text 4 0 - 48)) * 10 + (get_or text 5 0 - 48)))
six_read (a ∷ b ∷ c ∷ d ∷ e ∷ f ∷ more) long a0 a9 b0 b9 c0 c9 d0 d9 e0 e9 f0 f9 =
    let text = a ∷ b ∷ c ∷ d ∷ e ∷ f ∷ more in
    let r0 = no_digits_read text in
    let r1 = next_digit_read text (b ∷ c ∷ d ∷ e ∷ f ∷ more) 0 a (a - 48) r0 (is_digit a a0 a9) refl (omega arith) in
    let r2 = next_digit_read text (c ∷ d ∷ e ∷ f ∷ more) _ b (b - 48) r1 (is_digit b b0 b9) refl (omega arith) in
    let r3 = next_digit_read text (d ∷ e ∷ f ∷ more) _ c (c - 48) r2 (is_digit c c0 c9) refl (omega arith) in
    let r4 = next_digit_read text (e ∷ f ∷ more) _ d (d - 48) r3 (is_digit d d0 d9) refl (omega arith) in
    let r5 = next_digit_read text (f ∷ more) _ e (e - 48) r4 (is_digit e e0 e9) refl (omega arith) in
    let r6 = next_digit_read text more _ f (f - 48) r5 (is_digit f f0 f9) refl (omega arith) in
    subst (λ rest. DigitsRead text rest ((((((0 * 10 + (a - 48)) * 10 + (b - 48)) * 10 + (c - 48)) * 10 + (d - 48)) * 10 + (e - 48)) * 10 + (f - 48))) (sym (take_rest text 6)) r6
six_read text long a0 a9 b0 b9 c0 c9 d0 d9 e0 e9 f0 f9 = absurd (omega arith)

-- a text whose first byte is known
pub begins : (text : List ℕ) (b : ℕ) → 1 ≤ length text → get_or text 0 0 ≡ b → text ≡ b ∷ take (length text - 1) (drop 1 text)
begins [] b some is = absurd (omega arith)
begins (x ∷ xs) b some is = ap (λ y. y ∷ xs) is ∙ ap (λ ys. b ∷ ys) (sym (take_rest (x ∷ xs) 1))

-- A number, and seconds, in front of the rest.
abbrev pub NumberFirst : List ℕ → List ℕ → ℕ → Type 0
NumberFirst text rest n = (digits : List ℕ) × (text ≡ digits ++ rest) × NumberText digits n

abbrev pub SecondsFirst : List ℕ → List ℕ → ℕ → Type 0
SecondsFirst text rest us = (seconds : List ℕ) × (text ≡ seconds ++ rest) × IsSeconds seconds us

pub six_decimals_first : (text behind decimals rest : List ℕ) (whole micros : ℕ) → NumberFirst text behind whole
    → behind ≡ 46 ∷ decimals → NumberFirst decimals rest micros
    → length decimals - length rest ≡ 6 → SecondsFirst text rest (whole * 1000000 + micros)
six_decimals_first text behind decimals rest whole micros w point d six =
    let long : length d.0 ≡ 6 = omega (arith, ap length d.1, length-append d.0 rest) in
    let all : take 6 (d.0 ++ replicate 6 48) ≡ d.0 = take_at d.0 (replicate 6 48) 6 long in
    let cut = w.1 ∙ ap (λ x. w.0 ++ x) point ∙ ap (λ x. w.0 ++ 46 ∷ x) d.1 ∙ sym (append_assoc w.0 (46 ∷ d.0) rest) in (
      w.0 ++ 46 ∷ d.0,
      cut,
      record {
        whole = w.0;
        decimals = d.0;
        some = w.2.some;
        whole_digits = w.2.digits;
        decimal_digits = d.2.digits;
        spelled = inr refl;
        value = rw all (omega (arith, w.2.value, d.2.value));
      },
    )

-- A line in front of what stands behind its LF, with its entry.
abbrev pub EntryFirst : List ℕ → List ℕ → Entry → Type 0
EntryFirst text after entry = (line : List ℕ) × (lines_of text ≡ line ∷ lines_of after) × (entry_of line ≡ Ok (Some entry))

pub entry_first : (text behind second end after : List ℕ) (entry : Entry) → SecondsFirst text behind entry.delay
    → behind ≡ 32 ∷ second → NumberFirst second end entry.count → end ≡ 10 ∷ after
    → IsWithin entry → EntryFirst text after entry
entry_first text behind second end after entry s space c feed within =
    let line = s.0 ++ 32 ∷ c.0 in
    let cut : text ≡ line ++ 10 ∷ after = s.1 ∙ ap (λ x. s.0 ++ x) space ∙ ap (λ x. s.0 ++ 32 ∷ x) (c.1 ∙ ap (λ x. c.0 ++ x) feed) ∙ sym (append_assoc s.0 (32 ∷ c.0) (10 ∷ after)) in
    let P : ℕ → Type 0 = λ b. nat_eq b 10 ≡ false in
    let unbroken = All-append P s.0 (32 ∷ c.0) (seconds_unbroken s.0 entry.delay s.2) (All-cons P 32 c.0 refl (digits_unbroken c.0 c.2.digits)) in (
      line,
      ap lines_of cut ∙ next_line line after unbroken,
      timing_line_read line entry (record {
        before = [];
        first = s.0;
        between = 32 ∷ [];
        second = c.0;
        after = [];
        spelled = sym (append-nil (s.0 ++ (32 ∷ []) ++ c.0) ∙ append_assoc s.0 (32 ∷ []) c.0);
        blank_before = All-nil (λ b. is_blank b ≡ true);
        blank_between = All-replicate (λ b. is_blank b ≡ true) 1 32 refl;
        blank_after = All-nil (λ b. is_blank b ≡ true);
        apart = omega arith;
        delayed = inl s.2;
        counted = c.2;
      }) within,
    )
