-- The parameters of a rendition: how they are written, and what they set.
use Rattle.std.proofs.Common.{◌≡◌, ℕ, ◌+◌, Bool, true, false, List, [], ◌∷◌, ◌++◌, refl, sym, ap, ◌∙◌, append_assoc, append-nil}
use Rattle.std.specs.Prelude.{decimal, nat_lt, if◌then◌else◌}
use Rattle.std.specs.List.{flat_map}
use Rattle.vt_parser.specs.Decimals.{params_text}
use Rattle.sheet.specs.declared.rendition.Colour.{Colour}
use Rattle.sheet.specs.declared.rendition.Colour.TheVariants.{Default, Palette, Direct}
use Rattle.sheet.specs.declared.rendition.Rendition.{Rendition}
use Rattle.sheet.specs.Cells.{plain_on}
use Rattle.xterm_term.specs.Renditions.{renditions_set, rendition_set}

-- ---- how they are written

-- a parameter behind another
abbrev pub further : ℕ → List ℕ
further n = 59 ∷ decimal n

pub params_further : (n : ℕ) (rest : List ℕ) → params_text (n ∷ rest) ≡ decimal n ++ flat_map further rest
params_further n [] = sym (append-nil (decimal n))
params_further n (next ∷ rest) = ap (λ t. decimal n ++ 59 ∷ t) (params_further next rest)

abbrev pub number_where : Bool → ℕ → List ℕ
number_where b number = if b then number ∷ [] else []

-- the parameters of a colour behind 30 or 40
abbrev pub palette_numbers : ℕ → ℕ → List ℕ
palette_numbers base n = if nat_lt n 8 then (base + n) ∷ [] else (if nat_lt n 16 then (base + 52 + n) ∷ [] else (base + 8) ∷ 5 ∷ n ∷ [])

abbrev pub colour_numbers : ℕ → Colour → List ℕ
colour_numbers base Default = []
colour_numbers base (Palette n) = palette_numbers base n
colour_numbers base (Direct red green blue) = (base + 8) ∷ 2 ∷ red ∷ green ∷ blue ∷ []

abbrev pub attribute_numbers : Rendition → List ℕ
attribute_numbers r =
    number_where r.bold 1 ++ number_where r.faint 2 ++ number_where r.italic 3 ++ number_where r.underscore 4 ++ number_where r.blink 5
    ++ number_where r.reverse 7 ++ number_where r.concealed 8 ++ number_where r.crossed_out 9

-- ---- what they set

-- an attribute, where it isn't set yet
module _ (rest : List ℕ) (q : Rendition) where
  bold_set : (b : Bool) → q.bold ≡ false → renditions_set 0 (number_where b 1 ++ rest) q ≡ renditions_set 0 rest (record q { bold = b })
  unfolding renditions_set rendition_set
  bold_set true e = refl
  bold_set false e = ap (λ b. renditions_set 0 rest (record q { bold = b })) e

  faint_set : (b : Bool) → q.faint ≡ false → renditions_set 0 (number_where b 2 ++ rest) q ≡ renditions_set 0 rest (record q { faint = b })
  unfolding renditions_set rendition_set
  faint_set true e = refl
  faint_set false e = ap (λ b. renditions_set 0 rest (record q { faint = b })) e

  italic_set : (b : Bool) → q.italic ≡ false → renditions_set 0 (number_where b 3 ++ rest) q ≡ renditions_set 0 rest (record q { italic = b })
  unfolding renditions_set rendition_set
  italic_set true e = refl
  italic_set false e = ap (λ b. renditions_set 0 rest (record q { italic = b })) e

  underscore_set : (b : Bool) → q.underscore ≡ false → renditions_set 0 (number_where b 4 ++ rest) q ≡ renditions_set 0 rest (record q { underscore = b })
  unfolding renditions_set rendition_set
  underscore_set true e = refl
  underscore_set false e = ap (λ b. renditions_set 0 rest (record q { underscore = b })) e

  blink_set : (b : Bool) → q.blink ≡ false → renditions_set 0 (number_where b 5 ++ rest) q ≡ renditions_set 0 rest (record q { blink = b })
  unfolding renditions_set rendition_set
  blink_set true e = refl
  blink_set false e = ap (λ b. renditions_set 0 rest (record q { blink = b })) e

  reverse_set : (b : Bool) → q.reverse ≡ false → renditions_set 0 (number_where b 7 ++ rest) q ≡ renditions_set 0 rest (record q { reverse = b })
  unfolding renditions_set rendition_set
  reverse_set true e = refl
  reverse_set false e = ap (λ b. renditions_set 0 rest (record q { reverse = b })) e

  concealed_set : (b : Bool) → q.concealed ≡ false → renditions_set 0 (number_where b 8 ++ rest) q ≡ renditions_set 0 rest (record q { concealed = b })
  unfolding renditions_set rendition_set
  concealed_set true e = refl
  concealed_set false e = ap (λ b. renditions_set 0 rest (record q { concealed = b })) e

  crossed_set : (b : Bool) → q.crossed_out ≡ false → renditions_set 0 (number_where b 9 ++ rest) q ≡ renditions_set 0 rest (record q { crossed_out = b })
  unfolding renditions_set rendition_set
  crossed_set true e = refl
  crossed_set false e = ap (λ b. renditions_set 0 rest (record q { crossed_out = b })) e

-- no rendition
none_set : (rest : List ℕ) (q : Rendition) → renditions_set 0 (0 ∷ rest) q ≡ renditions_set 0 rest (plain_on Default)
unfolding renditions_set rendition_set
none_set rest q = refl

-- all of them, one after another
pub attributes_set : (r before : Rendition) (rest : List ℕ)
    → renditions_set 0 (0 ∷ (attribute_numbers r ++ rest)) before ≡ renditions_set 0 rest (record r { ink = Default; paper = Default })
attributes_set r before rest =
    let a1 = number_where r.bold 1 in
    let a2 = number_where r.faint 2 in
    let a3 = number_where r.italic 3 in
    let a4 = number_where r.underscore 4 in
    let a5 = number_where r.blink 5 in
    let a7 = number_where r.reverse 7 in
    let a8 = number_where r.concealed 8 in
    let a9 = number_where r.crossed_out 9 in
    let t9 = a9 ++ rest in
    let t8 = a8 ++ t9 in
    let t7 = a7 ++ t8 in
    let t5 = a5 ++ t7 in
    let t4 = a4 ++ t5 in
    let t3 = a3 ++ t4 in
    let t2 = a2 ++ t3 in
    let q0 : Rendition = plain_on Default in
    let q1 : Rendition = record q0 { bold = r.bold } in
    let q2 : Rendition = record q1 { faint = r.faint } in
    let q3 : Rendition = record q2 { italic = r.italic } in
    let q4 : Rendition = record q3 { underscore = r.underscore } in
    let q5 : Rendition = record q4 { blink = r.blink } in
    let q7 : Rendition = record q5 { reverse = r.reverse } in
    let q8 : Rendition = record q7 { concealed = r.concealed } in
    let joined : attribute_numbers r ++ rest ≡ a1 ++ t2 = grouped a1 a2 a3 a4 a5 a7 a8 a9 rest in
    ap (λ t. renditions_set 0 (0 ∷ t) before) joined
    ∙ none_set (a1 ++ t2) before
    ∙ bold_set t2 q0 r.bold refl ∙ faint_set t3 q1 r.faint refl ∙ italic_set t4 q2 r.italic refl ∙ underscore_set t5 q3 r.underscore refl
    ∙ blink_set t7 q4 r.blink refl ∙ reverse_set t8 q5 r.reverse refl ∙ concealed_set t9 q7 r.concealed refl ∙ crossed_set rest q8 r.crossed_out refl
  where
    grouped : (a b c d e f g h t : List ℕ) → (a ++ b ++ c ++ d ++ e ++ f ++ g ++ h) ++ t ≡ a ++ (b ++ (c ++ (d ++ (e ++ (f ++ (g ++ (h ++ t)))))))
    grouped a b c d e f g h t =
        append_assoc (a ++ b ++ c ++ d ++ e ++ f ++ g) h t ∙ append_assoc (a ++ b ++ c ++ d ++ e ++ f) g (h ++ t)
        ∙ append_assoc (a ++ b ++ c ++ d ++ e) f (g ++ (h ++ t)) ∙ append_assoc (a ++ b ++ c ++ d) e (f ++ (g ++ (h ++ t)))
        ∙ append_assoc (a ++ b ++ c) d (e ++ (f ++ (g ++ (h ++ t)))) ∙ append_assoc (a ++ b) c (d ++ (e ++ (f ++ (g ++ (h ++ t)))))
        ∙ append_assoc a b (c ++ (d ++ (e ++ (f ++ (g ++ (h ++ t))))))
