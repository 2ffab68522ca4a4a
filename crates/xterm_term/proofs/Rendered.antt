-- SGR, parameter by parameter.
use Rattle.std.proofs.Common.{◌≡◌, ℕ, zero, suc, ◌+◌, ◌-◌, ◌<◌, ◌≤◌, true, false, List, [], ◌∷◌, length, drop, refl, sym, ap, ◌∙◌, arith, get_or}
use Rattle.std.proofs.Math.Seq.{drop-cons}
use Rattle.std.proofs.lemmas.List.{drop_all}
use Rattle.sheet.specs.declared.rendition.Rendition.{Rendition}
use Rattle.sheet.specs.declared.rendition.Colour.TheVariants.{Default}
use Rattle.sheet.specs.Cells.{plain_on}
use Rattle.xterm_term.specs.Renditions.{renditions_set, rendition_set, tells_colour, used_up, colour_told, colour_taken}

-- one that is used up
pub skips : (used param : ℕ) (rest : List ℕ) (r : Rendition) → 0 < used → renditions_set used (param ∷ rest) r ≡ renditions_set (used - 1) rest r
unfolding renditions_set
skips zero param rest r some = absurd (omega arith)
skips (suc used) param rest r some = let less : used ≡ suc used - 1 = omega arith in ap (λ (n : ℕ). renditions_set n rest r) less

-- one that tells a colour by those that follow
pub takes_colour : (used param : ℕ) (rest : List ℕ) (r : Rendition) → used ≡ 0 → tells_colour param ≡ true
    → renditions_set used (param ∷ rest) r ≡ renditions_set (used_up rest) rest (colour_taken param (colour_told rest) r)
unfolding renditions_set
takes_colour zero param rest r none tells = simp tells
takes_colour (suc used) param rest r none tells = absurd (omega arith)

-- another one
pub takes_other : (used param : ℕ) (rest : List ℕ) (r : Rendition) → used ≡ 0 → tells_colour param ≡ false
    → renditions_set used (param ∷ rest) r ≡ renditions_set 0 rest (rendition_set param r)
unfolding renditions_set
takes_other zero param rest r none tells = simp tells
takes_other (suc used) param rest r none tells = absurd (omega arith)

-- those from a place on are the one there and those behind it
pub taken_at : (used i : ℕ) (params : List ℕ) (r : Rendition) → i < length params
    → renditions_set used (drop i params) r ≡ renditions_set used (get_or params i 0 ∷ drop (i + 1) params) r
taken_at used i params r within =
    let cons = drop-cons params i 0 within in
    let next : suc i ≡ i + 1 = omega arith in
    ap (λ (l : List ℕ). renditions_set used l r) cons
    ∙ ap (λ (n : ℕ). renditions_set used (get_or params i 0 ∷ drop n params) r) next

pub all_taken : (used : ℕ) (r : Rendition) → renditions_set used [] r ≡ r
unfolding renditions_set
all_taken zero r = refl
all_taken (suc used) r = refl

-- none is left
pub finished : (used i : ℕ) (params : List ℕ) (r out : Rendition) → length params ≤ i → renditions_set used (drop i params) r ≡ out → r ≡ out
finished used i params r out past is =
    sym (all_taken used r) ∙ ap (λ (l : List ℕ). renditions_set used l r) (sym (drop_all i params past)) ∙ is

-- a lone 0 leaves no rendition
pub resets : (params : List ℕ) (r : Rendition) → length params ≡ 1 → get_or params 0 0 ≡ 0 → renditions_set 0 params r ≡ plain_on Default
unfolding renditions_set rendition_set
resets [] r one none = absurd (omega arith)
resets (param ∷ []) r one none = ap (λ (n : ℕ). renditions_set 0 (n ∷ []) r) none
resets (param ∷ next ∷ rest) r one none = absurd (omega arith)
