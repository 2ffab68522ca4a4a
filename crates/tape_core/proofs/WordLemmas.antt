-- Words as fields, and written numbers as words.
use Rattle.std.proofs.Common.{◌≡◌, ℕ, ◌/◌, ◌%◌, ◌^◌, ◌<◌, true, false, List, [], ◌∷◌, ◌++◌, Option, Some, None, MatchOption, refl, ◌∙◌, sym, arith, length-append}
use Rattle.std.specs.Char.{is_ascii_digit}
use Rattle.std.specs.Fmt.{decimal}
use Rattle.std.specs.List.{AllPass}
use Rattle.std.proofs.lemmas.Bool.Decides.{nat_tests}
use Rattle.std.proofs.lemmas.Fmt.{decimal_is_IsNumeral}
use Rattle.std.proofs.lemmas.List.Elements.{All-append, All-cons, All-weaker}
use Rattle.tape_core.specs.Seconds.{second}
use Rattle.tape_core.specs.Text.{IsWord, NumberText, fields, is_blank, is_plain, number_of}
use Rattle.tape_core.specs.Written.{seconds_form, six_digits}
use Rattle.tape_core.proofs.LineLemmas.{number_text}
use Rattle.tape_core.proofs.ReadBackLemmas.{HasNoBlank, decimal_digits, fields_before_blank, fields_of_word, number_read, six_digits_are}

no_blank : (b : ℕ) → is_plain b ≡ true → is_blank b ≡ false
no_blank b plain = grind (arith, nat_tests)

without_blanks : (word : List ℕ) → IsWord word → HasNoBlank word
without_blanks word is = All-weaker (λ b. is_plain b ≡ true) (λ b. is_blank b ≡ false) no_blank word is.plain

pub one_word : (word : List ℕ) → IsWord word → fields word ≡ word ∷ []
one_word word is = fields_of_word word is.some (without_blanks word is)

pub first_word : (word rest : List ℕ) (b : ℕ) → IsWord word → is_blank b ≡ true → fields (word ++ b ∷ rest) ≡ word ∷ fields rest
first_word word rest b is blank = fields_before_blank word b rest is.some (without_blanks word is) blank

-- a text is read as a number where it is spelled as one
spelled : (text : List ℕ) (o : Option ℕ) → number_of text ≡ o → MatchOption o ((n : ℕ) → NumberText text n → ⊥) (λ n. NumberText text n)
spelled text None is = λ n s. let some = sym is ∙ number_read text n s in cc
spelled text (Some n) is = number_text text n is

pub number_spelled : (text : List ℕ) → MatchOption (number_of text) ((n : ℕ) → NumberText text n → ⊥) (λ n. NumberText text n)
number_spelled text = spelled text (number_of text) refl

digit_is_plain : (b : ℕ) → is_ascii_digit b ≡ true → is_plain b ≡ true
digit_is_plain b digit = grind (arith, nat_tests)

digits_are_plain : (text : List ℕ) → AllPass is_ascii_digit text → AllPass is_plain text
digits_are_plain text digits = All-weaker (λ b. is_ascii_digit b ≡ true) (λ b. is_plain b ≡ true) digit_is_plain text digits

pub decimal_word : (n : ℕ) → n < 2 ^ 64 → IsWord (decimal n)
decimal_word n small = record { some = (decimal_is_IsNumeral n small).0.0; plain = digits_are_plain (decimal n) (decimal_digits n small) }

pub decimal_read : (n : ℕ) → n < 2 ^ 64 → number_of (decimal n) ≡ Some n
decimal_read n small =
    let numeral = decimal_is_IsNumeral n small in
    number_read (decimal n) n (record { some = numeral.0.0; digits = decimal_digits n small; value = sym numeral.1 })

pub seconds_word : (us : ℕ) → us < 2 ^ 64 → IsWord (seconds_form us)
unfolding seconds_form
seconds_word us small =
    let whole = decimal_word (us / second) (omega arith) in
    record {
      some = omega (arith, length-append (decimal (us / second)) (46 ∷ six_digits (us % second)), whole.some);
      plain = All-append (λ b. is_plain b ≡ true) (decimal (us / second)) (46 ∷ six_digits (us % second)) whole.plain
          (All-cons (λ b. is_plain b ≡ true) 46 (six_digits (us % second)) refl (digits_are_plain (six_digits (us % second)) (six_digits_are us)));
    }
