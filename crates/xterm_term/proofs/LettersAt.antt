-- Bytes that are a letter, and bytes that are a sequence between letters.
use Rattle.std.proofs.Common.{◌≡◌, ℕ, ◌+◌, ◌<◌, Bool, true, false, List, [], ◌∷◌, ◌++◌, append_assoc, length, get_or, take, refl, sym, ap, ap₂, subst, ◌∙◌, ◌==◌, arith}
use Rattle.std.specs.Prelude.{Option, None, Some, if◌then◌else◌}
use Rattle.std.specs.Option.{option_and_then, option_map_or}
use Rattle.std.proofs.lemmas.Bool.Decides.{nat_tests}
use Rattle.std.proofs.lemmas.List.{take_more}
use Rattle.characters.specs.declared.utf8.Reading.{Reading}
use Rattle.characters.specs.declared.utf8.Reading.TheVariants as read
use Rattle.characters.specs.Utf8.{Spells, SpellsOn, begins, code_point, is_whole, may_follow, reading}
use Rattle.vt_parser.specs.Forms.{bracket}
use Rattle.vt_parser.specs.Syntax.{escape, is_graphic, is_within}
use Rattle.xterm_term.specs.declared.sets.CharacterSet.{CharacterSet}
use Rattle.xterm_term.specs.Ahead.{Styling, Letters, Parameters, Begun, OpensStyling, begun_after, is_narrow, letter_of, letters_from, styling_after, styling_behind}
use Rattle.xterm_term.specs.Sets.{character_of}

-- what a character is that bytes and one more are read as
pub read_whole : (pending : List ℕ) (byte character : ℕ) → reading pending byte ≡ read.Character character → character ≡ code_point (pending ++ byte ∷ [])
read_whole pending byte character is = by_tests (may_follow pending byte) (is_whole (pending ++ byte ∷ [])) (code_point (pending ++ byte ∷ [])) is
  where
    by_tests : (follows whole : Bool) (there : ℕ)
        → (if follows then (if whole then read.Character there else read.More) else read.Broken) ≡ read.Character character → character ≡ there
    by_tests true true there is = cc
    by_tests true false there is = absurd cc
    by_tests false whole there is = absurd cc

-- ---- bytes that are one letter

-- these bytes lead from a place to letters, and are one letter there
pub record IsLetter (set : CharacterSet) (from : Styling) (bytes : List ℕ) (character : ℕ) : Type 0 where
  pub styled : styling_behind set from bytes ≡ Some Letters
  pub letters : letters_from set from bytes ≡ character ∷ []

-- a graphic character of ASCII
pub graphic_letter : (set : CharacterSet) (byte : ℕ) → is_graphic byte ≡ true → is_narrow (character_of set byte) ≡ true
    → IsLetter set Letters (byte ∷ []) (character_of set byte)
unfolding styling_after
graphic_letter set byte graphic narrow =
    let plain : (byte == escape) ≡ false = grind (arith, nat_tests) in
    let led : styling_after set Letters byte ≡ Some Letters = simp (plain, graphic, narrow) in
    record {
      styled = ap (option_and_then (λ next. styling_behind set next [])) led;
      letters = ap (λ (o : Option Styling). option_map_or (λ next. letter_of set Letters next byte ++ letters_from set next []) o []) led;
    }

-- the last byte of a character, and one before it
last_letter : (set : CharacterSet) (front : List ℕ) (byte character : ℕ) → reading front byte ≡ read.Character character → is_narrow character ≡ true
    → IsLetter set (Begun front) (byte ∷ []) character
unfolding styling_after
last_letter set front byte character is narrow =
    let led : styling_after set (Begun front) byte ≡ Some Letters =
    ap (λ (r : Reading). begun_after r front byte) is ∙ ap (λ (b : Bool). if b then Some Letters else None) narrow in
    record {
      styled = ap (option_and_then (λ next. styling_behind set next [])) led;
      letters =
          ap (λ (o : Option Styling). option_map_or (λ next. letter_of set (Begun front) next byte ++ letters_from set next []) o []) led
          ∙ ap (λ (c : ℕ). c ∷ []) (sym (read_whole front byte character is));
    }

-- a byte that is no letter, and leads to another place
led_to : (set : CharacterSet) (from next : Styling) (byte : ℕ) (rest : List ℕ) (character : ℕ) → styling_after set from byte ≡ Some next
    → letter_of set from next byte ≡ [] → IsLetter set next rest character → IsLetter set from (byte ∷ rest) character
led_to set from next byte rest character led none is = record {
  styled = ap (option_and_then (λ next. styling_behind set next rest)) led ∙ is.styled;
  letters =
      ap (λ (o : Option Styling). option_map_or (λ next. letter_of set from next byte ++ letters_from set next rest) o []) led
      ∙ ap (λ (l : List ℕ). l ++ letters_from set next rest) none ∙ is.letters;
}

spelled_letter : (set : CharacterSet) (front bytes : List ℕ) (character : ℕ) → SpellsOn front bytes character → is_narrow character ≡ true
    → IsLetter set (Begun front) bytes character
unfolding styling_after
spelled_letter set front [] character spells narrow = absurd spells
spelled_letter set front (byte ∷ []) character spells narrow = last_letter set front byte character spells narrow
spelled_letter set front (byte ∷ more ∷ rest) character spells narrow =
    led_to set (Begun front) (Begun (front ++ byte ∷ [])) byte (more ∷ rest) character (ap (λ (r : Reading). begun_after r front byte) spells.0) refl
    (spelled_letter set (front ++ byte ∷ []) (more ∷ rest) character spells.1 narrow)

-- a character of several bytes
pub whole_letter : (set : CharacterSet) (bytes : List ℕ) (character : ℕ) → Spells bytes character → is_narrow character ≡ true
    → IsLetter set Letters bytes character
unfolding styling_after
whole_letter set [] character spells narrow = absurd spells
whole_letter set (byte ∷ rest) character spells narrow =
    let plain : (byte == escape) ≡ false = grind (arith, nat_tests, spells.0) in
    let upper : is_graphic byte ≡ false = grind (arith, nat_tests, spells.0) in
    let opens : begins byte ≡ true = spells.0 in
    led_to set Letters (Begun (byte ∷ [])) byte rest character (simp (plain, upper, opens)) refl
    (spelled_letter set (byte ∷ []) rest character spells.1 narrow)

-- ---- bytes that are no letter

-- these bytes lead from a place to another, and no letter is among them
pub record IsSilent (from to : Styling) (bytes : List ℕ) : Type 0 where
  pub styled : (set : CharacterSet) → styling_behind set from bytes ≡ Some to
  pub letters : (set : CharacterSet) → letters_from set from bytes ≡ []

none_led : {styling : Styling} → None ≡ Some styling → ⊥
none_led is = cc

-- bytes that lead to a place, and others behind them
pub styling_append : (set : CharacterSet) (from styling : Styling) (xs ys : List ℕ) → styling_behind set from xs ≡ Some styling
    → styling_behind set from (xs ++ ys) ≡ styling_behind set styling ys
styling_append set from styling [] ys is = ap (λ o. option_and_then (λ s. styling_behind set s ys) o) is
styling_append set from styling (x ∷ xs) ys is = led (styling_after set from x) (λ next. styling_append set next styling xs ys) is
  where
    led : (o : Option Styling)
        → ((next : Styling) → styling_behind set next xs ≡ Some styling → styling_behind set next (xs ++ ys) ≡ styling_behind set styling ys)
        → option_and_then (λ next. styling_behind set next xs) o ≡ Some styling
        → option_and_then (λ next. styling_behind set next (xs ++ ys)) o ≡ styling_behind set styling ys
    led None on is = absurd (none_led is)
    led (Some next) on is = on next is

pub letters_append : (set : CharacterSet) (from styling : Styling) (xs ys : List ℕ) → styling_behind set from xs ≡ Some styling
    → letters_from set from (xs ++ ys) ≡ letters_from set from xs ++ letters_from set styling ys
letters_append set from styling [] ys is = ap (λ o. option_map_or (λ s. letters_from set s ys) o []) is
letters_append set from styling (x ∷ xs) ys is = led (styling_after set from x) (λ next. letters_append set next styling xs ys) is
  where
    led : (o : Option Styling)
        → ((next : Styling) → styling_behind set next xs ≡ Some styling → letters_from set next (xs ++ ys) ≡ letters_from set next xs ++ letters_from set styling ys)
        → option_and_then (λ next. styling_behind set next xs) o ≡ Some styling
        → option_map_or (λ next. letter_of set from next x ++ letters_from set next (xs ++ ys)) o []
        ≡ option_map_or (λ next. letter_of set from next x ++ letters_from set next xs) o [] ++ letters_from set styling ys
    led None on is = absurd (none_led is)
    led (Some next) on is =
        ap (λ l. letter_of set from next x ++ l) (on next is)
        ∙ sym (append_assoc (letter_of set from next x) (letters_from set next xs) (letters_from set styling ys))

-- one byte more
silent_more : (from middle to : Styling) (bytes : List ℕ) (byte : ℕ) → IsSilent from middle bytes → IsSilent middle to (byte ∷ [])
    → IsSilent from to (bytes ++ byte ∷ [])
silent_more from middle to bytes byte is more = record {
  styled = λ set. styling_append set from middle bytes (byte ∷ []) (is.styled set) ∙ more.styled set;
  letters = λ set.
      letters_append set from middle bytes (byte ∷ []) (is.styled set)
      ∙ ap₂ (λ (front behind : List ℕ). front ++ behind) (is.letters set) (more.letters set);
}

-- the beginning of a sequence, its parameters and its end
pub silent_opens : (bytes : List ℕ) → OpensStyling bytes → IsSilent Letters Parameters (take 2 bytes)
unfolding styling_after
silent_opens [] opens = absurd opens
silent_opens (first ∷ []) opens = absurd opens
silent_opens (first ∷ second ∷ rest) opens =
    subst (IsSilent Letters Parameters) (ap₂ (λ (a b : ℕ). a ∷ b ∷ []) (sym opens.0) (sym opens.1)) both
  where
    both : IsSilent Letters Parameters (escape ∷ bracket ∷ [])
    both = record { styled = λ set. refl; letters = λ set. refl }

silent_parameter : (byte : ℕ) → is_within 48 59 byte ≡ true → IsSilent Parameters Parameters (byte ∷ [])
unfolding styling_after
silent_parameter byte is =
    let not_last : (byte == 109) ≡ false = grind (arith, nat_tests) in
    let led : (set : CharacterSet) → styling_after set Parameters byte ≡ Some Parameters = λ set. simp (not_last, is) in
    record {
      styled = λ set. ap (option_and_then (λ next. styling_behind set next [])) (led set);
      letters = λ set. ap (λ (o : Option Styling). option_map_or (λ next. letter_of set Parameters next byte ++ letters_from set next []) o []) (led set);
    }

silent_last : IsSilent Parameters Letters (109 ∷ [])
unfolding styling_after
silent_last = record { styled = λ set. refl; letters = λ set. refl }

pub silent_on : (bytes : List ℕ) (at : ℕ) → at < length bytes → IsSilent Letters Parameters (take at bytes) → is_within 48 59 (get_or bytes at 0) ≡ true
    → IsSilent Letters Parameters (take (at + 1) bytes)
silent_on bytes at within is parameter =
    subst (IsSilent Letters Parameters) (sym (take_more bytes at 0 within))
    (silent_more Letters Parameters Parameters (take at bytes) (get_or bytes at 0) is (silent_parameter (get_or bytes at 0) parameter))

pub silent_whole : (bytes : List ℕ) (at : ℕ) → at < length bytes → IsSilent Letters Parameters (take at bytes) → get_or bytes at 0 ≡ 109
    → IsSilent Letters Letters (take (at + 1) bytes)
silent_whole bytes at within is last =
    subst (IsSilent Letters Letters) (sym (take_more bytes at 0 within))
    (silent_more Letters Parameters Letters (take at bytes) (get_or bytes at 0) is (subst (λ (byte : ℕ). IsSilent Parameters Letters (byte ∷ [])) (sym last) silent_last))
