-- The parameters of colours, and what they set.
use Rattle.std.proofs.Common.{◌≡◌, ℕ, ◌+◌, ◌-◌, ◌<◌, ◌≤◌, true, false, [], ◌∷◌, refl, ap, inl, inr, ◌∙◌, arith}
use Rattle.std.specs.Prelude.{nat_lt, nat_le, ◌==◌, if◌then◌else◌, Some}
use Rattle.std.proofs.lemmas.Bool.{cases_lt}
use Rattle.std.proofs.lemmas.Bool.Decides.{nat_tests}
use Rattle.sheet.specs.declared.rendition.Colour.{Colour}
use Rattle.sheet.specs.declared.rendition.Colour.TheVariants.{Default, Palette, Direct}
use Rattle.sheet.specs.declared.rendition.Rendition.{Rendition}
use Rattle.xterm_term.specs.Renditions.{renditions_set, rendition_set, tells_colour, colour_set, colour_taken, is_within}
use Rattle.xterm_escaped.proofs.Numbers.{colour_numbers}

-- its numbers are those of a byte
abbrev pub IsByteColour : Colour → Type 0
IsByteColour Default = Unit {0}
IsByteColour (Palette n) = n ≤ 255
IsByteColour (Direct red green blue) = (red ≤ 255) × (green ≤ 255) × (blue ≤ 255)

-- one parameter that tells a colour by itself
by_itself : (param : ℕ) (q : Rendition) → tells_colour param ≡ false → nat_le param 21 ≡ false → nat_le param 29 ≡ false
    → renditions_set 0 (param ∷ []) q ≡ colour_set param q
unfolding renditions_set rendition_set
by_itself param q tells low middle = simp (tells, low, middle)

ink_dim : (n : ℕ) (q : Rendition) → n < 8 → renditions_set 0 ((30 + n) ∷ []) q ≡ record q { ink = Palette n }
ink_dim n q small =
    let first : is_within 30 37 (30 + n) ≡ true = grind (arith, nat_tests) in
    let same : 30 + n - 30 ≡ n = omega arith in
    by_itself (30 + n) q (grind (arith, nat_tests)) (grind (arith, nat_tests)) (grind (arith, nat_tests))
    ∙ simp first (ap (λ m. let r : Rendition = record q { ink = Palette m } in r) same)

paper_dim : (n : ℕ) (q : Rendition) → n < 8 → renditions_set 0 ((40 + n) ∷ []) q ≡ record q { paper = Palette n }
paper_dim n q small =
    let first : is_within 30 37 (40 + n) ≡ false = grind (arith, nat_tests) in
    let second : (40 + n == 39) ≡ false = grind (arith, nat_tests) in
    let third : is_within 40 47 (40 + n) ≡ true = grind (arith, nat_tests) in
    let same : 40 + n - 40 ≡ n = omega arith in
    by_itself (40 + n) q (grind (arith, nat_tests)) (grind (arith, nat_tests)) (grind (arith, nat_tests))
    ∙ simp (first, second, third) (ap (λ m. let r : Rendition = record q { paper = Palette m } in r) same)

ink_bright : (n : ℕ) (q : Rendition) → 8 ≤ n → n < 16 → renditions_set 0 ((82 + n) ∷ []) q ≡ record q { ink = Palette n }
ink_bright n q low small =
    let first : is_within 30 37 (82 + n) ≡ false = grind (arith, nat_tests) in
    let second : (82 + n == 39) ≡ false = grind (arith, nat_tests) in
    let third : is_within 40 47 (82 + n) ≡ false = grind (arith, nat_tests) in
    let fourth : (82 + n == 49) ≡ false = grind (arith, nat_tests) in
    let fifth : is_within 90 97 (82 + n) ≡ true = grind (arith, nat_tests) in
    let same : 82 + n - 82 ≡ n = omega arith in
    by_itself (82 + n) q (grind (arith, nat_tests)) (grind (arith, nat_tests)) (grind (arith, nat_tests))
    ∙ simp (first, second, third, fourth, fifth) (ap (λ m. let r : Rendition = record q { ink = Palette m } in r) same)

paper_bright : (n : ℕ) (q : Rendition) → 8 ≤ n → n < 16 → renditions_set 0 ((92 + n) ∷ []) q ≡ record q { paper = Palette n }
paper_bright n q low small =
    let first : is_within 30 37 (92 + n) ≡ false = grind (arith, nat_tests) in
    let second : (92 + n == 39) ≡ false = grind (arith, nat_tests) in
    let third : is_within 40 47 (92 + n) ≡ false = grind (arith, nat_tests) in
    let fourth : (92 + n == 49) ≡ false = grind (arith, nat_tests) in
    let fifth : is_within 90 97 (92 + n) ≡ false = grind (arith, nat_tests) in
    let sixth : is_within 100 107 (92 + n) ≡ true = grind (arith, nat_tests) in
    let same : 92 + n - 92 ≡ n = omega arith in
    by_itself (92 + n) q (grind (arith, nat_tests)) (grind (arith, nat_tests)) (grind (arith, nat_tests))
    ∙ simp (first, second, third, fourth, fifth, sixth) (ap (λ m. let r : Rendition = record q { paper = Palette m } in r) same)

told_palette : (param n : ℕ) (q : Rendition) → tells_colour param ≡ true → nat_le n 255 ≡ true
    → renditions_set 0 (param ∷ 5 ∷ n ∷ []) q ≡ colour_taken param (Some (Palette n)) q
unfolding renditions_set
told_palette param n q tells small = simp (tells, small)

told_direct : (param red green blue : ℕ) (q : Rendition) → tells_colour param ≡ true
    → nat_le red 255 ≡ true → nat_le green 255 ≡ true → nat_le blue 255 ≡ true
    → renditions_set 0 (param ∷ 2 ∷ red ∷ green ∷ blue ∷ []) q ≡ colour_taken param (Some (Direct red green blue)) q
unfolding renditions_set
told_direct param red green blue q tells r g b = simp (tells, r, g, b)

none_more : (q : Rendition) → renditions_set 0 [] q ≡ q
unfolding renditions_set
none_more q = refl

pub ink_set : (ink : Colour) (q : Rendition) → IsByteColour ink → q.ink ≡ Default → renditions_set 0 (colour_numbers 30 ink) q ≡ record q { ink = ink }
ink_set Default q is none = none_more q ∙ ap (λ c. let r : Rendition = record q { ink = c } in r) none
ink_set (Direct red green blue) q is none =
    told_direct 38 red green blue q refl (grind (arith, nat_tests)) (grind (arith, nat_tests)) (grind (arith, nat_tests))
ink_set (Palette n) q is none = elim (cases_lt n 8) [
  | inl dim ↦ (let test : nat_lt n 8 ≡ true = grind (arith, nat_tests) in
      ap (λ b. renditions_set 0 (if b then (30 + n) ∷ [] else (if nat_lt n 16 then (30 + 52 + n) ∷ [] else (30 + 8) ∷ 5 ∷ n ∷ [])) q) test ∙ ink_dim n q dim)
  | inr more ↦ (let test : nat_lt n 8 ≡ false = grind (arith, nat_tests) in
      ap (λ b. renditions_set 0 (if b then (30 + n) ∷ [] else (if nat_lt n 16 then (30 + 52 + n) ∷ [] else (30 + 8) ∷ 5 ∷ n ∷ [])) q) test
      ∙ elim (cases_lt n 16) [
        | inl bright ↦ (let second : nat_lt n 16 ≡ true = grind (arith, nat_tests) in
            ap (λ b. renditions_set 0 (if b then (30 + 52 + n) ∷ [] else (30 + 8) ∷ 5 ∷ n ∷ []) q) second ∙ ink_bright n q more bright)
        | inr far ↦ (let second : nat_lt n 16 ≡ false = grind (arith, nat_tests) in
            ap (λ b. renditions_set 0 (if b then (30 + 52 + n) ∷ [] else (30 + 8) ∷ 5 ∷ n ∷ []) q) second
            ∙ told_palette 38 n q refl (grind (arith, nat_tests)))
      ])
]

pub paper_set : (paper : Colour) (q : Rendition) → IsByteColour paper → q.paper ≡ Default → renditions_set 0 (colour_numbers 40 paper) q ≡ record q { paper = paper }
paper_set Default q is none = none_more q ∙ ap (λ c. let r : Rendition = record q { paper = c } in r) none
paper_set (Direct red green blue) q is none =
    told_direct 48 red green blue q refl (grind (arith, nat_tests)) (grind (arith, nat_tests)) (grind (arith, nat_tests))
paper_set (Palette n) q is none = elim (cases_lt n 8) [
  | inl dim ↦ (let test : nat_lt n 8 ≡ true = grind (arith, nat_tests) in
      ap (λ b. renditions_set 0 (if b then (40 + n) ∷ [] else (if nat_lt n 16 then (40 + 52 + n) ∷ [] else (40 + 8) ∷ 5 ∷ n ∷ [])) q) test ∙ paper_dim n q dim)
  | inr more ↦ (let test : nat_lt n 8 ≡ false = grind (arith, nat_tests) in
      ap (λ b. renditions_set 0 (if b then (40 + n) ∷ [] else (if nat_lt n 16 then (40 + 52 + n) ∷ [] else (40 + 8) ∷ 5 ∷ n ∷ [])) q) test
      ∙ elim (cases_lt n 16) [
        | inl bright ↦ (let second : nat_lt n 16 ≡ true = grind (arith, nat_tests) in
            ap (λ b. renditions_set 0 (if b then (40 + 52 + n) ∷ [] else (40 + 8) ∷ 5 ∷ n ∷ []) q) second ∙ paper_bright n q more bright)
        | inr far ↦ (let second : nat_lt n 16 ≡ false = grind (arith, nat_tests) in
            ap (λ b. renditions_set 0 (if b then (40 + 52 + n) ∷ [] else (40 + 8) ∷ 5 ∷ n ∷ []) q) second
            ∙ told_palette 48 n q refl (grind (arith, nat_tests)))
      ])
]
