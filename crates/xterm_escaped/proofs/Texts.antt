-- The text of a rendition is that of its parameters.
use Rattle.std.proofs.Common.{◌≡◌, ℕ, ◌+◌, ◌<◌, Bool, true, false, List, [], ◌∷◌, ◌++◌, refl, sym, ap, ap₂, inl, inr, ◌∙◌, arith, append_assoc, append-nil, lit<}
use Rattle.std.specs.Prelude.{codes, decimal, nat_lt, if◌then◌else◌}
use Rattle.std.specs.List.{flat_map}
use Rattle.std.proofs.lemmas.Bool.{cases_lt}
use Rattle.std.proofs.lemmas.Bool.Decides.{nat_tests}
use Rattle.std.proofs.lemmas.Fmt.{decimal_digit}
use Rattle.std.proofs.lemmas.Grind.{flat_map-append}
use Rattle.vt_parser.specs.Syntax.{escape}
use Rattle.vt_parser.specs.Decimals.{params_text}
use Rattle.sheet.specs.declared.rendition.Colour.{Colour}
use Rattle.sheet.specs.declared.rendition.Colour.TheVariants.{Default, Palette, Direct}
use Rattle.sheet.specs.declared.rendition.Rendition.{Rendition}
use Rattle.xterm_rows.specs.Ink.{colour_number}
use Rattle.xterm_escaped.specs.EscapedText.{attributes_text, colour_text, ink_text, is_told, letters_text, palette_text, text_where}
use Rattle.xterm_escaped.proofs.Numbers.{attribute_numbers, colour_numbers, palette_numbers, number_where, further, params_further}

one : (b : Bool) (n : ℕ) (text : List ℕ) → decimal n ≡ text → text_where b (59 ∷ text) ≡ flat_map further (number_where b n)
one true n text e = ap (λ t. 59 ∷ t) (sym e) ∙ sym (append-nil (further n))
one false n text e = refl

join : (xs ys t u : List ℕ) → t ≡ flat_map further xs → u ≡ flat_map further ys → t ++ u ≡ flat_map further (xs ++ ys)
join xs ys t u first second = ap₂ (λ (a b : List ℕ). a ++ b) first second ∙ sym (flat_map-append further xs ys)

digit_text : (n : ℕ) → n < 10 → decimal n ≡ (48 + n) ∷ []
digit_text n small = decimal_digit n small

pub attributes_written : (r : Rendition) → attributes_text r ≡ flat_map further (attribute_numbers r)
unfolding attributes_text
attributes_written r =
    join _ _ _ _ (join _ _ _ _ (join _ _ _ _ (join _ _ _ _ (join _ _ _ _ (join _ _ _ _ (join _ _ _ _
    (one r.bold 1 _ (digit_text 1 (lit< tt))) (one r.faint 2 _ (digit_text 2 (lit< tt)))) (one r.italic 3 _ (digit_text 3 (lit< tt))))
    (one r.underscore 4 _ (digit_text 4 (lit< tt)))) (one r.blink 5 _ (digit_text 5 (lit< tt)))) (one r.reverse 7 _ (digit_text 7 (lit< tt))))
    (one r.concealed 8 _ (digit_text 8 (lit< tt)))) (one r.crossed_out 9 _ (digit_text 9 (lit< tt)))

-- ---- colours

far_written : (base n : ℕ) → (59 ∷ (decimal (base + 8) ++ codes ";5;" ++ decimal n)) ≡ flat_map further ((base + 8) ∷ 5 ∷ n ∷ [])
far_written base n =
    let five = digit_text 5 (lit< tt) in
    ap (λ t. 59 ∷ t)
    (append_assoc (decimal (base + 8)) (59 ∷ 53 ∷ 59 ∷ []) (decimal n)
    ∙ ap₂ (λ (five_text last : List ℕ). decimal (base + 8) ++ 59 ∷ (five_text ++ 59 ∷ last)) (sym five) (sym (append-nil (decimal n))))

palette_written : (base n : ℕ) → (59 ∷ palette_text base n) ≡ flat_map further (palette_numbers base n)
palette_written base n = elim (cases_lt n 8) [
  | inl dim ↦ (let test : nat_lt n 8 ≡ true = grind (arith, nat_tests) in
      ap (λ b. 59 ∷ (if b then decimal (base + n) else (if nat_lt n 16 then decimal (base + 52 + n) else decimal (base + 8) ++ codes ";5;" ++ decimal n))) test
      ∙ sym (append-nil (further (base + n)))
      ∙ sym (ap (λ b. flat_map further (if b then (base + n) ∷ [] else (if nat_lt n 16 then (base + 52 + n) ∷ [] else (base + 8) ∷ 5 ∷ n ∷ []))) test))
  | inr more ↦ (let test : nat_lt n 8 ≡ false = grind (arith, nat_tests) in
      ap (λ b. 59 ∷ (if b then decimal (base + n) else (if nat_lt n 16 then decimal (base + 52 + n) else decimal (base + 8) ++ codes ";5;" ++ decimal n))) test
      ∙ elim (cases_lt n 16) [
        | inl bright ↦ (let second : nat_lt n 16 ≡ true = grind (arith, nat_tests) in
            ap (λ b. 59 ∷ (if b then decimal (base + 52 + n) else decimal (base + 8) ++ codes ";5;" ++ decimal n)) second
            ∙ sym (append-nil (further (base + 52 + n)))
            ∙ sym (ap (λ b. flat_map further (if b then (base + 52 + n) ∷ [] else (base + 8) ∷ 5 ∷ n ∷ [])) second))
        | inr far ↦ (let second : nat_lt n 16 ≡ false = grind (arith, nat_tests) in
            ap (λ b. 59 ∷ (if b then decimal (base + 52 + n) else decimal (base + 8) ++ codes ";5;" ++ decimal n)) second
            ∙ far_written base n
            ∙ sym (ap (λ b. flat_map further (if b then (base + 52 + n) ∷ [] else (base + 8) ∷ 5 ∷ n ∷ [])) second))
      ]
      ∙ sym (ap (λ b. flat_map further (if b then (base + n) ∷ [] else (if nat_lt n 16 then (base + 52 + n) ∷ [] else (base + 8) ∷ 5 ∷ n ∷ []))) test))
]

grouped : (a b c d two : List ℕ) → two ≡ 50 ∷ []
    → a ++ (59 ∷ 50 ∷ 59 ∷ []) ++ b ++ (59 ∷ []) ++ c ++ (59 ∷ []) ++ d ≡ a ++ 59 ∷ (two ++ 59 ∷ (b ++ 59 ∷ (c ++ 59 ∷ (d ++ []))))
grouped a b c d two is =
    append_assoc (a ++ (59 ∷ 50 ∷ 59 ∷ []) ++ b ++ (59 ∷ []) ++ c) (59 ∷ []) d
    ∙ append_assoc (a ++ (59 ∷ 50 ∷ 59 ∷ []) ++ b ++ (59 ∷ [])) c (59 ∷ d)
    ∙ append_assoc (a ++ (59 ∷ 50 ∷ 59 ∷ []) ++ b) (59 ∷ []) (c ++ 59 ∷ d)
    ∙ append_assoc (a ++ (59 ∷ 50 ∷ 59 ∷ [])) b (59 ∷ (c ++ 59 ∷ d))
    ∙ append_assoc a (59 ∷ 50 ∷ 59 ∷ []) (b ++ 59 ∷ (c ++ 59 ∷ d))
    ∙ ap₂ (λ (t last : List ℕ). a ++ 59 ∷ (t ++ 59 ∷ (b ++ 59 ∷ (c ++ 59 ∷ last)))) (sym is) (sym (append-nil d))

pub colour_written : (base : ℕ) (colour : Colour) → is_told colour ≡ true → (59 ∷ colour_text base colour) ≡ flat_map further (colour_numbers base colour)
unfolding colour_text colour_number
colour_written base Default told = absurd cc
colour_written base (Palette n) told = palette_written base n
colour_written base (Direct red green blue) told =
    ap (λ t. 59 ∷ t) (grouped (decimal (base + 8)) (decimal red) (decimal green) (decimal blue) (decimal 2) (digit_text 2 (lit< tt)))

pub none_told : (colour : Colour) → is_told colour ≡ false → colour ≡ Default
unfolding colour_number
none_told Default e = refl
none_told (Palette n) e = absurd (grind (arith, nat_tests))
none_told (Direct red green blue) e = absurd (grind (arith, nat_tests))

pub ink_written : (ink : Colour) → ink_text ink ≡ flat_map further (colour_numbers 30 ink)
ink_written ink = by_test (is_told ink) refl
  where
    by_test : (b : Bool) → is_told ink ≡ b → text_where b (59 ∷ colour_text 30 ink) ≡ flat_map further (colour_numbers 30 ink)
    by_test true told = colour_written 30 ink told
    by_test false none = ap (λ c. flat_map further (colour_numbers 30 c)) (sym (none_told ink none))

-- ---- the whole

abbrev pub letters_numbers : Rendition → List ℕ
letters_numbers r = 0 ∷ (attribute_numbers r ++ colour_numbers 30 r.ink)

pub letters_written : (r : Rendition) → letters_text r ≡ escape ∷ 91 ∷ (params_text (letters_numbers r) ++ 109 ∷ [])
unfolding letters_text
letters_written r =
    let rest = attribute_numbers r ++ colour_numbers 30 r.ink in
    let text = join (attribute_numbers r) (colour_numbers 30 r.ink) (attributes_text r) (ink_text r.ink) (attributes_written r) (ink_written r.ink) in
    ap (λ t. escape ∷ 91 ∷ 48 ∷ (t ++ 109 ∷ [])) text
    ∙ sym (ap (λ t. escape ∷ 91 ∷ (t ++ 109 ∷ [])) (params_further 0 rest ∙ ap (λ t. t ++ flat_map further rest) (digit_text 0 (lit< tt))))
