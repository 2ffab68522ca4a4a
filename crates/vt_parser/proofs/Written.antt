-- Parameters that were written in decimal are read back.
use Rattle.std.proofs.Common.{◌≡◌, ℕ, ◌+◌, ◌-◌, ◌*◌, ◌/◌, ◌%◌, ◌^◌, ◌<◌, ◌≤◌, Bool, true, false, List, [], ◌∷◌, ◌++◌, map, take, refl, ap, ap₂, ◌∙◌, subst, arith}
use Rattle.std.specs.Prelude.{All, Some, decimal}
use Rattle.std.specs.List.{list_all, AllByRecursion}
use Rattle.std.proofs.lemmas.Bool.Decides.{nat_tests}
use Rattle.std.proofs.lemmas.Fmt.{decimal_by_steps}
use Rattle.std.proofs.lemmas.List.{take_all}
use Rattle.std.proofs.lemmas.List.Elements.{All-weaker, recursion_from_All}
use Rattle.std.proofs.lemmas.List.Folds.{list_all-append}
use Rattle.std.proofs.lemmas.List.Splits.{slice_split_none, slice_split_at}
use Rattle.std.proofs.lemmas.List.Sums.{fold-append, AllPass-from_list_all}
use Rattle.vt_parser.specs.declared.commands.Mode.TheVariants.{Ansi}
use Rattle.vt_parser.specs.declared.commands.Command.TheVariants.{Csi}
use Rattle.vt_parser.specs.Syntax.{escape}
use Rattle.vt_parser.specs.Forms.{most_params, is_digit, is_semicolon, is_plain, is_private, after_mark, is_control_sequence_text, decimal_value, parameter, numbers, held, control_sequence_meaning}
use Rattle.vt_parser.specs.Decimals.{params_text}
use Rattle.vt_parser.specs.Fold.{Finishes}
use Rattle.vt_parser.specs.Law.{AreParams, DecimalsAreRead, WrittenSequencesFinish, WrittenPrivatesFinish}
use Rattle.vt_parser.proofs.Whole.{control_sequence_finishes}

-- a test that follows from another one, of each item
list_all_weaker : (test other : ℕ → Bool) (items : List ℕ) → ((item : ℕ) → test item ≡ true → other item ≡ true)
    → list_all test items ≡ true → list_all other items ≡ true
list_all_weaker test other [] each all = refl
list_all_weaker test other (item ∷ items) each all = grind (arith, each item, list_all_weaker test other items each)

-- ---- one number

record IsDecimalOf (number : ℕ) (digits : List ℕ) : Type 0 where
  all : list_all is_digit digits ≡ true
  value : decimal_value digits ≡ number

is_decimal : (number : ℕ) → number < 2 ^ 64 → IsDecimalOf number (decimal number)
is_decimal = decimal_by_steps IsDecimalOf one more
  where
    digit : (number : ℕ) → number < 10 → is_digit (48 + number) ≡ true
    digit number small = grind (arith, nat_tests)

    one : (number : ℕ) → number < 10 → IsDecimalOf number ((48 + number) ∷ [])
    one number small = let first = digit number small in record { all = simp first; value = omega arith }

    more : (number : ℕ) (digits : List ℕ) → 10 ≤ number → IsDecimalOf (number / 10) digits → IsDecimalOf number (digits ++ (48 + number % 10) ∷ [])
    more number digits large front =
        let last = digit (number % 10) (omega arith) in
        let all = front.all in
        let value = front.value in
        record {
          all = list_all-append is_digit digits ((48 + number % 10) ∷ []) ∙ simp (all, last);
          value = fold-append (λ value next. 10 * value + (next - 48)) 0 digits ((48 + number % 10) ∷ []) ∙ omega arith;
        }

parameter-decimal : (number : ℕ) → number ≤ 9999 → parameter (decimal number) ≡ number
parameter-decimal number small = let value = (is_decimal number (omega arith)).value in omega arith

-- ---- the text

plain_digits : (number : ℕ) → number ≤ 9999 → list_all is_plain (decimal number) ≡ true
plain_digits number small =
    list_all_weaker is_digit is_plain (decimal number) (λ byte is. grind (arith, nat_tests)) (is_decimal number (omega arith)).all

unbroken : (number : ℕ) → number ≤ 9999 → All (λ byte. is_semicolon byte ≡ false) (decimal number)
unbroken number small =
    All-weaker (λ byte. is_digit byte ≡ true) (λ byte. is_semicolon byte ≡ false) (λ byte is. grind (arith, nat_tests)) (decimal number)
    (AllPass-from_list_all is_digit (decimal number) (is_decimal number (omega arith)).all)

abbrev pub Small : List ℕ → Type 0
Small numbers = AllByRecursion (λ number. number ≤ 9999) numbers

pub text_plain : (numbers : List ℕ) → Small numbers → list_all is_plain (params_text numbers) ≡ true
text_plain [] small = refl
text_plain (number ∷ []) small = plain_digits number small.0
text_plain (number ∷ next ∷ rest) small =
    let first = plain_digits number small.0 in
    let others = text_plain (next ∷ rest) small.1 in
    list_all-append is_plain (decimal number) (59 ∷ params_text (next ∷ rest)) ∙ simp (first, others)

pub numbers-text : (first : ℕ) (rest : List ℕ) → Small (first ∷ rest) → numbers (params_text (first ∷ rest)) ≡ first ∷ rest
unfolding numbers
numbers-text first [] small =
    ap (map parameter) (slice_split_none is_semicolon (decimal first) (unbroken first small.0))
    ∙ ap (λ number. number ∷ []) (parameter-decimal first small.0)
numbers-text first (second ∷ rest) small =
    ap (map parameter) (slice_split_at is_semicolon (decimal first) 59 (params_text (second ∷ rest)) (unbroken first small.0) refl)
    ∙ ap₂ (λ number numbers. number ∷ numbers) (parameter-decimal first small.0) (numbers-text second rest small.1)

-- ---- what is read

pub unmarked : (text : List ℕ) → list_all is_plain text ≡ true → (is_private text ≡ false) × (after_mark text ≡ text)
unmarked [] all = (refl, refl)
unmarked (byte ∷ rest) all = (grind (arith, nat_tests), grind (arith, nat_tests))

-- ---- the laws

pub decimals_are_read : DecimalsAreRead
decimals_are_read [] are = absurd (omega (arith, are.some))
decimals_are_read (first ∷ rest) are =
    ap (take most_params) (numbers-text first rest (recursion_from_All _ (first ∷ rest) are.small)) ∙ take_all most_params (first ∷ rest) are.few

text_of : (numbers : List ℕ) → AreParams numbers → list_all is_plain (params_text numbers) ≡ true
text_of numbers are = text_plain numbers (recursion_from_All _ numbers are.small)

pub text_joins : (text : List ℕ) → list_all is_plain text ≡ true → list_all is_control_sequence_text text ≡ true
text_joins text plain = list_all_weaker is_plain is_control_sequence_text text (λ byte is. grind (arith, nat_tests)) plain

pub written_sequences_finish : WrittenSequencesFinish
written_sequences_finish numbers last are is =
    let plain = text_of numbers are in
    let bare = unmarked (params_text numbers) plain in
    let no_mark = bare.0 in
    let whole = bare.1 in
    let read = decimals_are_read numbers are in
    let means : control_sequence_meaning (params_text numbers) last ≡ Some (Csi false (held numbers) last) = simp (no_mark, whole, plain, read) in
    subst (Finishes Ansi (escape ∷ 91 ∷ (params_text numbers ++ last ∷ []))) means
    (control_sequence_finishes (params_text numbers) last (text_joins (params_text numbers) plain) is)

pub written_privates_finish : WrittenPrivatesFinish
written_privates_finish numbers last are is =
    let plain = text_of numbers are in
    let read = decimals_are_read numbers are in
    let joins = text_joins (params_text numbers) plain in
    let means : control_sequence_meaning (63 ∷ params_text numbers) last ≡ Some (Csi true (held numbers) last) = simp (plain, read) in
    subst (Finishes Ansi (escape ∷ 91 ∷ 63 ∷ (params_text numbers ++ last ∷ []))) means
    (control_sequence_finishes (63 ∷ params_text numbers) last (simp joins) is)
