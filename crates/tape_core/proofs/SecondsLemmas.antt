-- The spelled form of seconds and the function that reads it.
use Rattle.std.proofs.Common.{◌≡◌, ℕ, ◌+◌, ◌<◌, Bool, true, false, List, [], ◌∷◌, ◌++◌, length, get_or, drop, Option, Some, None, nat_eq, refl, ap, sym, ◌∙◌, arith, ◌⊎◌, inl, inr, length-append, append-nil, add-zero, min, MatchOption}
use Rattle.std.specs.Char.{is_ascii_digit}
use Rattle.std.specs.Option.{option_map}
use Rattle.std.specs.List.{AllPass, before_first, after_first, position_or_len}
use Rattle.std.proofs.lemmas.Bool.{cases_lt, lt-ltb, ltb-true, eqb-true, and_parts}
use Rattle.std.proofs.lemmas.Bool.Decides.{nat_tests}
use Rattle.std.proofs.lemmas.List.{take_at, drop_at, take_all, drop_all, drop-drop, get_or_append_left, get_or-append-add}
use Rattle.std.proofs.lemmas.Option.{cond_some}
use Rattle.std.proofs.lemmas.List.Sums.{AllPass-from_list_all, list_all-from_AllPass, position_or_len_is, split_at_first, passes_at_first}
use Rattle.tape_core.specs.Seconds.{IsSeconds, last_moment, micros, micros_of, seconds_of}

abbrev pub is_point : ℕ → Bool
is_point b = nat_eq b 46

-- a text is what stands round its first point, if it has one
pub pointed : (text : List ℕ)
    → ((text ≡ before_first is_point text) × (after_first is_point text ≡ [])) ⊎ (text ≡ before_first is_point text ++ 46 ∷ after_first is_point text)
pointed text =
    elim (cases_lt (position_or_len is_point text) (length text)) [
      | inl lt ↦ inr (let at = eqb-true (get_or text (position_or_len is_point text) 0) 46 (passes_at_first is_point text 0 lt) in
          split_at_first is_point text 0 lt ∙ ap (λ b. before_first is_point text ++ b ∷ after_first is_point text) at)
      | inr ge ↦ inl (sym (take_all (position_or_len is_point text) text ge), drop_all (position_or_len is_point text + 1) text (omega arith))
    ]

-- what is read is spelled so
pub spelled_seconds : (text : List ℕ) (us : ℕ) → micros_of text ≡ Some us → IsSeconds text us
spelled_seconds text us h =
    let got = cond_some _ _ _ h in
    let some = and_parts _ _ got.0 in
    let digits = and_parts _ _ some.1 in
    record {
      whole = before_first is_point text;
      decimals = after_first is_point text;
      some = ltb-true 0 _ some.0;
      whole_digits = AllPass-from_list_all is_ascii_digit (before_first is_point text) digits.0;
      decimal_digits = AllPass-from_list_all is_ascii_digit (after_first is_point text) digits.1;
      spelled = pointed text;
      value = sym got.1;
    }

-- a digit is no point
no_point : (c : ℕ) → is_ascii_digit c ≡ true → is_point c ≡ false
no_point c h = grind (arith, nat_tests)

-- before and after the first point of a spelled text
whole_place : (whole rest : List ℕ) → AllPass is_ascii_digit whole
    → ((d : ℕ) → 0 < length rest → is_point (get_or rest 0 d) ≡ true)
    → position_or_len is_point (whole ++ rest) ≡ length whole
whole_place whole rest digits first =
    position_or_len_is is_point (whole ++ rest) (length whole) 0 (omega (arith, length-append whole rest))
    (λ k lt. rw (get_or_append_left whole rest 0 k lt) (no_point _ (digits k 0 lt)))
    (λ lt. let some : 0 < length rest = omega (arith, length-append whole rest) in
    ap (λ n. is_point (get_or (whole ++ rest) n 0)) (sym (add-zero (length whole))) ∙ ap is_point (get_or-append-add whole rest 0 0) ∙ first 0 some)

read_parts : (text whole decimals : List ℕ) → before_first is_point text ≡ whole → after_first is_point text ≡ decimals
    → 0 < length whole → AllPass is_ascii_digit whole → AllPass is_ascii_digit decimals
    → micros_of text ≡ Some (micros whole decimals)
read_parts text whole decimals before after some digits more =
    rw (before, after, lt-ltb 0 (length whole) some, list_all-from_AllPass is_ascii_digit whole digits, list_all-from_AllPass is_ascii_digit decimals more) refl

-- what is spelled so is read
pub read_seconds_text : (text : List ℕ) (us : ℕ) → IsSeconds text us → micros_of text ≡ Some us
read_seconds_text text us s =
    elim s.spelled [
      | inl e ↦ let place = whole_place s.whole [] s.whole_digits (λ d h. absurd (omega arith)) in
          let at : position_or_len is_point text ≡ length s.whole = ap (position_or_len is_point) (e.0 ∙ sym (append-nil s.whole)) ∙ place in
          read_parts text s.whole s.decimals (rw (at, e.0) (take_all (length s.whole) s.whole (omega arith))) (rw (at, e.0, e.1) (drop_all (length s.whole + 1) s.whole (omega arith)))
          s.some s.whole_digits s.decimal_digits ∙ ap Some (sym s.value)
      | inr e ↦ let place = whole_place s.whole (46 ∷ s.decimals) s.whole_digits (λ d h. refl) in
          let at : position_or_len is_point text ≡ length s.whole = ap (position_or_len is_point) e ∙ place in
          read_parts text s.whole s.decimals (rw (at, e) (take_at s.whole (46 ∷ s.decimals) (length s.whole) refl))
          (rw (at, e) (sym (drop-drop 1 (length s.whole) (s.whole ++ 46 ∷ s.decimals)) ∙ ap (drop 1) (drop_at s.whole (46 ∷ s.decimals) (length s.whole) refl)))
          s.some s.whole_digits s.decimal_digits ∙ ap Some (sym s.value)
    ]

-- a text is read where it is spelled so
told : (text : List ℕ) (o : Option ℕ) → micros_of text ≡ o
    → MatchOption (option_map (λ us. min us last_moment) o) ((us : ℕ) → IsSeconds text us → ⊥) (λ us. (value : ℕ) × IsSeconds text value × (us ≡ min value last_moment))
told text None is = λ us s. let some = sym is ∙ read_seconds_text text us s in cc
told text (Some value) is = (value, spelled_seconds text value is, refl)

pub seconds_spelled : (text : List ℕ)
    → MatchOption (seconds_of text) ((us : ℕ) → IsSeconds text us → ⊥) (λ us. (value : ℕ) × IsSeconds text value × (us ≡ min value last_moment))
unfolding seconds_of
seconds_spelled text = told text (micros_of text) refl
