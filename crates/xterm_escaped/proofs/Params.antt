-- Parameters that a text can hold, and renditions that are set by them.
use Rattle.std.proofs.Common.{◌≡◌, ℕ, ◌+◌, ◌%◌, ◌^◌, ◌<◌, ◌≤◌, Bool, true, false, List, [], ◌∷◌, ◌++◌, length, refl, sym, ap, ◌∙◌, arith}
use Rattle.std.specs.Prelude.{decimal, nat_le, nat_lt, if◌then◌else◌}
use Rattle.std.specs.List.{list_all}
use Rattle.std.proofs.lemmas.Bool.{and_parts, leb-true}
use Rattle.std.proofs.lemmas.Bool.Decides.{nat_tests}
use Rattle.std.proofs.lemmas.Fmt.{decimal_by_steps}
use Rattle.std.proofs.lemmas.List.{length-append}
use Rattle.std.proofs.lemmas.List.Folds.{list_all-append}
use Rattle.std.proofs.lemmas.List.Sums.{AllPass-from_list_all}
use Rattle.vt_parser.specs.Decimals.{params_text}
use Rattle.vt_parser.specs.Law.{AreParams, WrittenSequencesFinish}
use Rattle.vt_parser.specs.Syntax.{escape}
use Rattle.sheet.specs.declared.rendition.Colour.{Colour}
use Rattle.sheet.specs.declared.rendition.Colour.TheVariants.{Default, Palette, Direct}
use Rattle.sheet.specs.declared.rendition.Rendition.{Rendition}
use Rattle.sheet.specs.Cells.{Cell}
use Rattle.xterm_term.specs.Console.{Console}
use Rattle.xterm_term.specs.Renditions.{renditions_set}
use Rattle.xterm_escaped.specs.EscapedText.{letters_text}
use Rattle.xterm_escaped.proofs.Colours.{IsByteColour, ink_set}
use Rattle.xterm_escaped.proofs.Led.{Leads, ended, leads_as, low_byte, sequence_leads}
use Rattle.xterm_escaped.proofs.Numbers.{attribute_numbers, attributes_set, colour_numbers, number_where}
use Rattle.xterm_escaped.proofs.Shown.{drawing}
use Rattle.xterm_escaped.proofs.Texts.{letters_numbers, letters_written}

-- ---- digits

low_decimal : (number : ℕ) → number < 2 ^ 64 → list_all low_byte (decimal number) ≡ true
low_decimal = decimal_by_steps (λ number digits. list_all low_byte digits ≡ true) one more
  where
    digit : (number : ℕ) → number < 10 → low_byte (48 + number) ≡ true
    digit number small = grind (arith, nat_tests)

    one : (number : ℕ) → number < 10 → list_all low_byte ((48 + number) ∷ []) ≡ true
    one number small = let first = digit number small in simp first

    more : (number : ℕ) (digits : List ℕ) → 10 ≤ number → list_all low_byte digits ≡ true → list_all low_byte (digits ++ (48 + number % 10) ∷ []) ≡ true
    more number digits large front =
        let last = digit (number % 10) (omega arith) in
        list_all-append low_byte digits ((48 + number % 10) ∷ []) ∙ simp (front, last)

-- ---- short lists of small numbers

abbrev small : ℕ → Bool
small n = nat_le n 9999

pub record IsShort (most : ℕ) (numbers : List ℕ) : Type 0 where
  pub few : length numbers ≤ most
  pub all : list_all small numbers ≡ true

short_join : (m n : ℕ) (xs ys : List ℕ) → IsShort m xs → IsShort n ys → IsShort (m + n) (xs ++ ys)
short_join m n xs ys one two =
    let first = one.few in
    let second = two.few in
    let all = one.all in
    let others = two.all in
    let both = length-append xs ys in
    record { few = omega arith; all = list_all-append small xs ys ∙ simp (all, others) }

short_where : (b : Bool) (n : ℕ) → small n ≡ true → IsShort 1 (number_where b n)
short_where true n is = record { few = omega arith; all = simp is }
short_where false n is = record { few = omega arith; all = refl }

pub low_text : (numbers : List ℕ) → list_all small numbers ≡ true → list_all low_byte (params_text numbers) ≡ true
low_text [] all = refl
low_text (number ∷ []) all =
    let parts = and_parts (small number) true all in
    let below = leb-true number 9999 parts.0 in low_decimal number (omega arith)
low_text (number ∷ next ∷ rest) all =
    let parts = and_parts (small number) (list_all small (next ∷ rest)) all in
    let below = leb-true number 9999 parts.0 in
    let first = low_decimal number (omega arith) in
    let others = low_text (next ∷ rest) parts.1 in
    list_all-append low_byte (decimal number) (59 ∷ params_text (next ∷ rest)) ∙ simp (first, others)

pub are_params : (numbers : List ℕ) → 0 < length numbers → IsShort 16 numbers → AreParams numbers
are_params numbers some short =
    let all = AllPass-from_list_all small numbers short.all in
    record { some = some; few = short.few; small = λ k d within. leb-true _ 9999 (all k d within) }

short_attributes : (r : Rendition) → IsShort 8 (attribute_numbers r)
short_attributes r =
    short_join 7 1 _ _ (short_join 6 1 _ _ (short_join 5 1 _ _ (short_join 4 1 _ _ (short_join 3 1 _ _ (short_join 2 1 _ _ (short_join 1 1 _ _
    (short_where r.bold 1 refl) (short_where r.faint 2 refl)) (short_where r.italic 3 refl)) (short_where r.underscore 4 refl)) (short_where r.blink 5 refl))
    (short_where r.reverse 7 refl)) (short_where r.concealed 8 refl)) (short_where r.crossed_out 9 refl)

short_either : (b : Bool) (m : ℕ) (xs ys : List ℕ) → IsShort m xs → IsShort m ys → IsShort m (if b then xs else ys)
short_either true m xs ys one two = one
short_either false m xs ys one two = two

short_one : (n : ℕ) → n ≤ 9999 → IsShort 5 (n ∷ [])
short_one n is = let test : small n ≡ true = grind (arith, nat_tests) in record { few = omega arith; all = simp test }

pub short_colour : (base : ℕ) (colour : Colour) → base ≤ 40 → IsByteColour colour → IsShort 5 (colour_numbers base colour)
short_colour base Default low is = record { few = omega arith; all = refl }
short_colour base (Palette n) low is =
    let first : small (base + 8) ≡ true = grind (arith, nat_tests) in
    let last : small n ≡ true = grind (arith, nat_tests) in
    short_either (nat_lt n 8) 5 _ _ (short_one (base + n) (omega arith))
    (short_either (nat_lt n 16) 5 _ _ (short_one (base + 52 + n) (omega arith)) (record { few = omega arith; all = simp (first, last) }))
short_colour base (Direct red green blue) low is =
    let r_low = is.0 in let g_low = is.1 in let b_low = is.2 in
    let first : small (base + 8) ≡ true = grind (arith, nat_tests) in
    let r : small red ≡ true = grind (arith, nat_tests) in
    let g : small green ≡ true = grind (arith, nat_tests) in
    let b : small blue ≡ true = grind (arith, nat_tests) in
    record { few = omega arith; all = simp (first, r, g, b) }

short_letters : (r : Rendition) → IsByteColour r.ink → IsShort 16 (letters_numbers r)
short_letters r is =
    let both = short_join 8 5 (attribute_numbers r) (colour_numbers 30 r.ink) (short_attributes r) (short_colour 30 r.ink (omega arith) is) in
    let few = both.few in
    let all = both.all in
    record { few = omega arith; all = simp all }

-- ---- SGR

letters_set : (r before : Rendition) → IsByteColour r.ink → renditions_set 0 (letters_numbers r) before ≡ record r { paper = Default }
letters_set r before is = attributes_set r before (colour_numbers 30 r.ink) ∙ ink_set r.ink (record r { ink = Default; paper = Default }) is refl

pub letters_lead : WrittenSequencesFinish → (c : Console) (rows : List (List Cell)) (line column : ℕ) (wrap : Bool) (last r : Rendition) → c.title ≡ false → IsByteColour r.ink
    → Leads (drawing c rows line column wrap last) (letters_text r) (drawing c rows line column wrap (record r { paper = Default }))
letters_lead finish c rows line column wrap last r title is =
    let short = short_letters r is in
    let numbers = letters_numbers r in
    let t : Console = drawing c rows line column wrap (record r { paper = Default }) in
    leads_as (drawing c rows line column wrap last) t t (escape ∷ 91 ∷ (params_text numbers ++ 109 ∷ [])) (letters_text r)
    (sequence_leads finish (drawing c rows line column wrap last) t numbers 109 title
    (are_params numbers (omega arith) short) (low_text numbers short.all) refl
    (λ l. ap (λ q. let u : Console = ended l (drawing c rows line column wrap q) in u) (letters_set r last is)) (λ l. refl))
    (sym (letters_written r)) refl
