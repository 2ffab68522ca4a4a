-- A row of spaces that comes in below others, and a text that doesn't end in one.
use Rattle.std.proofs.Common.{◌≡◌, ℕ, ◌+◌, ◌-◌, ◌<◌, ◌≤◌, false, List, [], ◌∷◌, ◌++◌, append_assoc, append-nil, cond, drop, get_or, length, replicate, ap, ap₂, sym, ◌∙◌, arith, inl, inr}
use Rattle.std.proofs.lemmas.Bool.{cases_Bool, cases_lt}
use Rattle.std.proofs.lemmas.List.{drop-replicate, get_or-append-add, get_or-drop, get_or-replicate, length-append, length-drop, length-replicate}
use Rattle.standings.specs.Moved.{EndsInInk, spaces_row}
use Rattle.standings.specs.Rows.{Row}
use Rattle.standings.specs.Standing.{begins, line_text, places_from, places_in, standing}
use Rattle.standings.proofs.FrontLemmas.{begins_before, fits_text, has_text}
use Rattle.standings.proofs.RowLemmas.{too_long}
use Rattle.standings.proofs.SpanLemmas.{all_before, part_alike}

-- spaces behind a line
pub spaces_behind : (line text : List ℕ) (n i : ℕ) → EndsInInk text → i ≤ length line → begins text (line ++ replicate n 32) i ≡ begins text line i
spaces_behind line text n i ink within = elim (cases_lt (length line) (i + length text)) [
  | inr ends ↦ begins_before line (replicate n 32) [] text i ends ∙ ap (λ l. begins text l i) (append-nil line)
  | inl goes ↦
      let whole = line ++ replicate n 32 in
      let none : begins text line i ≡ false = too_long (drop i line) text (omega (arith, goes, length-drop i line)) in
      elim (cases_Bool (begins text whole i)) [
        | inr f ↦ f ∙ sym none
        | inl t ↦
            let k = length text - 1 in
            let j = i + k - length line in
            let there : i + k ≡ length line + j = omega (arith, goes, ink.some) in
            let lt : j < n = omega (arith, fits_text (drop i whole) text t, length-drop i whole, length-append line (replicate n 32), length-replicate {A = ℕ} n 32, goes, ink.some) in
            absurd (ink.last
            (sym (has_text (drop i whole) text k t (omega (arith, ink.some))) ∙ get_or-drop i whole k 0 ∙ ap (λ m. get_or whole m 0) there
            ∙ get_or-append-add line (replicate n 32) j 0 ∙ get_or-replicate n j 32 0 lt))
      ]
]

-- a line may go on in them
line_spaces : (rows : List Row) (columns : ℕ) → (n : ℕ) × (line_text (rows ++ spaces_row columns ∷ []) ≡ line_text rows ++ replicate n 32)
unfolding line_text
line_spaces [] columns = (columns, append-nil (replicate columns 32))
line_spaces (row ∷ rows) columns = elim (cases_Bool row.runs_on) [
  | inl t ↦
      let rest = line_spaces rows columns in
      (rest.0, rw t (ap (λ l. row.characters ++ l) rest.1 ∙ sym (append_assoc row.characters (line_text rows) (replicate rest.0 32))))
  | inr f ↦ (0, rw f (sym (append-nil (row.characters ++ []))))
]

line_long : (row : Row) (rows : List Row) → length row.characters ≤ length (line_text (row ∷ rows))
unfolding line_text
line_long row rows = omega (arith, length-append row.characters (cond row.runs_on (line_text rows) []))

pub from_spaces : (text : List ℕ) (columns : ℕ) → EndsInInk text → (rows : List Row) (above : ℕ)
    → places_from text above (rows ++ spaces_row columns ∷ []) ≡ places_from text above rows
unfolding places_from line_spaces line_text
from_spaces text columns ink [] above =
    let line = line_text (spaces_row columns ∷ []) in
    let on = line_spaces [] columns in
    append-nil (places_in text above line (length (replicate columns 32)))
    ∙ all_before text above line (length (replicate columns 32)) (λ i lt.
    ap (λ l. begins text l i) on.1 ∙ ap (λ l. begins text l 0) (drop-replicate i on.0 32)
    ∙ spaces_behind [] text (on.0 - i) 0 ink (omega arith) ∙ too_long [] text ink.some)
from_spaces text columns ink (row ∷ rows) above =
    let line = line_text (row ∷ rows) in
    let on = line_spaces (row ∷ rows) columns in
    ap₂ (λ a b. a ++ b)
    (part_alike text above line (line_text (row ∷ (rows ++ spaces_row columns ∷ []))) (length row.characters) 0
    (λ i _ lt. ap (λ l. begins text l i) on.1 ∙ spaces_behind line text on.0 i ink (omega (arith, lt, line_long row rows))))
    (from_spaces text columns ink rows (above + 1))

-- where it stands
pub standing_spaces : (text : List ℕ) (columns : ℕ) (rows : List Row) → EndsInInk text → standing text (rows ++ spaces_row columns ∷ []) ≡ standing text rows
standing_spaces text columns rows ink = from_spaces text columns ink rows 0
