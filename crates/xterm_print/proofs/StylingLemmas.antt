-- Characters with sequences between them that select renditions, byte by byte.
use Rattle.std.proofs.Common.{◌≡◌, ℕ, suc, true, ap₂, ◌+◌, ◌<◌, ◌≤◌, List, [], ◌∷◌, ◌++◌, append_assoc, drop, get_or, length, take, refl, ap, sym, ◌∙◌, arith}
use Rattle.std.specs.Prelude.{Option, None, Some}
use Rattle.std.specs.Option.{option_and_then, option_map_or}
use Rattle.std.proofs.Math.Seq.{take-add}
use Rattle.std.proofs.lemmas.List.{append-nil, get_or-take, length-append, length-take-le, take-append-drop, take-take, take_more}
use Rattle.characters.specs.Law.{AsciiIsNarrow}
use Rattle.vt_parser.specs.Syntax.{is_graphic}
use Rattle.xterm_term.specs.Sets.{character_of}
use Rattle.xterm_term.specs.declared.sets.CharacterSet.{CharacterSet}
use Rattle.xterm_term.specs.declared.sets.CharacterSet.TheVariants.{Ascii}
use Rattle.xterm_term.proofs.LettersAt.{IsLetter, graphic_letter}
use Rattle.xterm_term.proofs.Runs.{ascii_is_narrow}
use Rattle.xterm_term.specs.Ahead.{Begun, Escape, Letters, Parameters, Styling, letter_of, letters_from, styling_after, styling_behind}

none_led : {styling : Styling} → None ≡ Some styling → ⊥
none_led is = cc

-- bytes that are all of such ones, and others behind them
pub styling_append : (set : CharacterSet) (from styling : Styling) (xs ys : List ℕ) → styling_behind set from xs ≡ Some styling → styling_behind set from (xs ++ ys) ≡ styling_behind set styling ys
styling_append set from styling [] ys is = ap (λ o. option_and_then (λ s. styling_behind set s ys) o) is
styling_append set from styling (x ∷ xs) ys is = led (styling_after set from x) (λ next. styling_append set next styling xs ys) is
  where
    led : (o : Option Styling) → ((next : Styling) → styling_behind set next xs ≡ Some styling → styling_behind set next (xs ++ ys) ≡ styling_behind set styling ys)
        → option_and_then (λ next. styling_behind set next xs) o ≡ Some styling
        → option_and_then (λ next. styling_behind set next (xs ++ ys)) o ≡ styling_behind set styling ys
    led None on is = absurd (none_led is)
    led (Some next) on is = on next is

pub letters_append : (set : CharacterSet) (from styling : Styling) (xs ys : List ℕ) → styling_behind set from xs ≡ Some styling
    → letters_from set from (xs ++ ys) ≡ letters_from set from xs ++ letters_from set styling ys
letters_append set from styling [] ys is = ap (λ o. option_map_or (λ s. letters_from set s ys) o []) is
letters_append set from styling (x ∷ xs) ys is = led (styling_after set from x) (λ next. letters_append set next styling xs ys) is
  where
    led : (o : Option Styling)
        → ((next : Styling) → styling_behind set next xs ≡ Some styling → letters_from set next (xs ++ ys) ≡ letters_from set next xs ++ letters_from set styling ys)
        → option_and_then (λ next. styling_behind set next xs) o ≡ Some styling
        → option_map_or (λ next. letter_of set from next x ++ letters_from set next (xs ++ ys)) o []
        ≡ option_map_or (λ next. letter_of set from next x ++ letters_from set next xs) o [] ++ letters_from set styling ys
    led None on is = absurd (none_led is)
    led (Some next) on is =
        ap (λ l. letter_of set from next x ++ l) (on next is)
        ∙ sym (append_assoc (letter_of set from next x) (letters_from set next xs) (letters_from set styling ys))

-- a front of them is of such ones too
pub styling_front : (set : CharacterSet) (from styling : Styling) (xs ys : List ℕ) → styling_behind set from (xs ++ ys) ≡ Some styling
    → (middle : Styling) × (styling_behind set from xs ≡ Some middle)
styling_front set from styling [] ys is = (from, refl)
styling_front set from styling (x ∷ xs) ys is = led (styling_after set from x) (λ next. styling_front set next styling xs ys) is
  where
    led : (o : Option Styling) → ((next : Styling) → styling_behind set next (xs ++ ys) ≡ Some styling → (middle : Styling) × (styling_behind set next xs ≡ Some middle))
        → option_and_then (λ next. styling_behind set next (xs ++ ys)) o ≡ Some styling
        → (middle : Styling) × (option_and_then (λ next. styling_behind set next xs) o ≡ Some middle)
    led None on is = absurd (none_led is)
    led (Some next) on is = on next is

-- a front, and bytes behind it that lead from letters to letters
module _ (set : CharacterSet) (bytes : List ℕ) (n more : ℕ) (front : styling_behind set Letters (take n bytes) ≡ Some Letters) where
  pub styling_more : styling_behind set Letters (take more (drop n bytes)) ≡ Some Letters → styling_behind set Letters (take (n + more) bytes) ≡ Some Letters
  styling_more led =
      ap (styling_behind set Letters) (take-add n more bytes) ∙ styling_append set Letters Letters (take n bytes) (take more (drop n bytes)) front ∙ led

  pub letters_more : (letters letters' : List ℕ) → letters ≡ letters_from set Letters (take n bytes)
      → letters' ≡ letters ++ letters_from set Letters (take more (drop n bytes)) → letters' ≡ letters_from set Letters (take (n + more) bytes)
  letters_more letters letters' are joins =
      joins ∙ ap (λ l. l ++ letters_from set Letters (take more (drop n bytes))) are
      ∙ sym (ap (letters_from set Letters) (take-add n more bytes) ∙ letters_append set Letters Letters (take n bytes) (take more (drop n bytes)) front)

-- graphic characters of ASCII are letters as they are
pub graphics_are : AsciiIsNarrow → (bytes : List ℕ) → ((k : ℕ) → k < length bytes → is_graphic (get_or bytes k 0) ≡ true)
    → (styling_behind Ascii Letters bytes ≡ Some Letters) × (letters_from Ascii Letters bytes ≡ bytes)
unfolding character_of
graphics_are narrow [] graphic = (refl, refl)
graphics_are narrow (byte ∷ rest) graphic =
    let is : is_graphic byte ≡ true = graphic 0 (omega arith) in
    let one : IsLetter Ascii Letters (byte ∷ []) byte = graphic_letter Ascii byte is (ascii_is_narrow narrow byte is) in
    let others = graphics_are narrow rest (λ k lt. graphic (suc k) (omega (arith, lt))) in (
      styling_append Ascii Letters Letters (byte ∷ []) rest one.styled ∙ others.0,
      letters_append Ascii Letters Letters (byte ∷ []) rest one.styled ∙ ap₂ (λ l r. l ++ r) one.letters others.1,
    )

pub graphics_front : AsciiIsNarrow → (bytes : List ℕ) (n : ℕ) → n ≤ length bytes → ((k : ℕ) → k < n → is_graphic (get_or bytes k 0) ≡ true)
    → (styling_behind Ascii Letters (take n bytes) ≡ Some Letters) × (letters_from Ascii Letters (take n bytes) ≡ take n bytes)
graphics_front narrow bytes n within graphic =
    graphics_are narrow (take n bytes) (λ k lt.
    let low : k < n = omega (arith, lt, length-take-le n bytes within) in
    ap is_graphic (get_or-take n bytes k 0 low) ∙ graphic k low)

-- a byte is at most one letter
one_letter : (set : CharacterSet) (from next : Styling) (byte : ℕ) → length (letter_of set from next byte) ≤ 1
one_letter set Letters Letters byte = omega arith
one_letter set Letters Escape byte = omega arith
one_letter set Letters Parameters byte = omega arith
one_letter set Letters (Begun front) byte = omega arith
one_letter set Escape next byte = omega arith
one_letter set Parameters next byte = omega arith
one_letter set (Begun front) Letters byte = omega arith
one_letter set (Begun front) Escape byte = omega arith
one_letter set (Begun front) Parameters byte = omega arith
one_letter set (Begun front) (Begun other) byte = omega arith

one_at_most : (set : CharacterSet) (from : Styling) (byte : ℕ) → length (letters_from set from (byte ∷ [])) ≤ 1
one_at_most set from byte = led (styling_after set from byte)
  where
    led : (o : Option Styling) → length (option_map_or (λ next. letter_of set from next byte ++ []) o []) ≤ 1
    led None = omega arith
    led (Some next) = omega (arith, one_letter set from next byte, ap length (append-nil (letter_of set from next byte)))

-- the letters of a front are the first ones, and a byte more has at most one more
pub record IsFront (set : CharacterSet) (bytes letters : List ℕ) (k : ℕ) : Type 0 where
  pub styling : Styling
  pub behind : styling_behind set Letters (take k bytes) ≡ Some styling
  pub rest : List ℕ
  pub whole : letters ≡ letters_from set Letters (take k bytes) ++ rest

pub front_of : (set : CharacterSet) (bytes letters : List ℕ) (n k : ℕ) → k ≤ n → styling_behind set Letters (take n bytes) ≡ Some Letters
    → letters ≡ letters_from set Letters (take n bytes) → IsFront set bytes letters k
front_of set bytes letters n k le styled are =
    let parts : take n bytes ≡ take k bytes ++ drop k (take n bytes) =
    sym (take-append-drop k (take n bytes)) ∙ ap (λ l. l ++ drop k (take n bytes)) (take-take k n bytes le) in
    let middle = styling_front set Letters Letters (take k bytes) (drop k (take n bytes)) (ap (styling_behind set Letters) (sym parts) ∙ styled) in
    record {
      styling = middle.0;
      behind = middle.1;
      rest = letters_from set middle.0 (drop k (take n bytes));
      whole = are ∙ ap (letters_from set Letters) parts ∙ letters_append set Letters middle.0 (take k bytes) (drop k (take n bytes)) middle.1;
    }

pub count_more : (set : CharacterSet) (bytes letters : List ℕ) (k : ℕ) → k < length bytes → IsFront set bytes letters k
    → (length (letters_from set Letters (take k bytes)) ≤ length (letters_from set Letters (take (k + 1) bytes)))
    × (length (letters_from set Letters (take (k + 1) bytes)) ≤ length (letters_from set Letters (take k bytes)) + 1)
count_more set bytes letters k lt front =
    let byte = get_or bytes k 0 in
    let new = letters_from set front.styling (byte ∷ []) in
    let all : letters_from set Letters (take (k + 1) bytes) ≡ letters_from set Letters (take k bytes) ++ new =
    ap (letters_from set Letters) (take_more bytes k 0 lt) ∙ letters_append set Letters front.styling (take k bytes) (byte ∷ []) front.behind in
    let long = ap length all ∙ length-append (letters_from set Letters (take k bytes)) new in
    (omega (arith, long), omega (arith, long, one_at_most set front.styling byte))
