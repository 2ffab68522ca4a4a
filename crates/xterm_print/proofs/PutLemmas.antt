-- Letters that may be put over cells, and more of them.
use Rattle.std.proofs.Common.{◌≡◌, ℕ, zero, suc, ◌+◌, ◌-◌, ◌<◌, ◌≤◌, List, [], ◌∷◌, ◌++◌, drop, length, take, ap, subst, sym, ◌∙◌, arith, inl, inr}
use Rattle.std.specs.Prelude.{slice_index_or}
use Rattle.std.proofs.lemmas.Bool.{cases_lt}
use Rattle.std.proofs.lemmas.List.{get_or-append-add, get_or-drop, get_or-take, get_or_append_left, length-append, length-take-le}
use Rattle.sheet.specs.declared.rendition.Colour.TheVariants.{Default}
use Rattle.sheet.specs.Cells.{Cell, blank}
use Rattle.xterm_rows.specs.Runs.{cell_behind}
use Rattle.xterm_print.specs.Pieces.{AreApart, GoOver, IsPlain}

-- .. and more
pub over_all : (text : List ℕ) (cells : List Cell) (letters more : List ℕ) → GoOver text cells letters → length letters + length more ≤ length cells
    → ((k : ℕ) → k < length more → IsPlain (cell_behind cells (length letters + k)))
    → ((k : ℕ) → k < length more → 0 < length letters + k
    → AreApart text (slice_index_or (letters ++ more) (length letters + k - 1) 0) (cell_behind cells (length letters + k)).character)
    → GoOver text cells (letters ++ more)
over_all text cells letters more is room plain apart = record {
  room = omega (arith, room, length-append letters more);
  plain = λ k lt. elim (cases_lt k (length letters)) [
    | inl old ↦ is.plain k old
    | inr new ↦
        let at : length letters + (k - length letters) ≡ k = omega (arith, new) in
        subst (λ j. IsPlain (cell_behind cells j)) at (plain (k - length letters) (omega (arith, lt, new, length-append letters more)))
  ];
  apart = λ k some lt. elim (cases_lt k (length letters)) [
    | inl old ↦
        subst (λ c. AreApart text c (cell_behind cells k).character) (sym (get_or_append_left letters more 0 (k - 1) (omega (arith, old)))) (is.apart k some old)
    | inr new ↦
        let at : length letters + (k - length letters) ≡ k = omega (arith, new) in
        subst (λ j. AreApart text (slice_index_or (letters ++ more) (j - 1) 0) (cell_behind cells j).character) at
        (apart (k - length letters) (omega (arith, lt, new, length-append letters more)) (omega (arith, some, at)))
  ];
}

-- letters that may be put over cells, and one more
pub over_more : (text : List ℕ) (cells : List Cell) (letters : List ℕ) (character : ℕ) → GoOver text cells letters → length letters < length cells
    → IsPlain (cell_behind cells (length letters))
    → (0 < length letters → AreApart text (slice_index_or letters (length letters - 1) 0) (cell_behind cells (length letters)).character)
    → GoOver text cells (letters ++ character ∷ [])
over_more text cells letters character is room plain apart =
    let one = character ∷ [] in
    over_all text cells letters one is (omega (arith, room))
    (λ k lt. let at : length letters ≡ length letters + k = omega (arith, lt) in subst (λ j. IsPlain (cell_behind cells j)) at plain)
    (λ k lt some.
    let at : length letters ≡ length letters + k = omega (arith, lt) in
    let many : 0 < length letters = omega (arith, at, some) in
    subst (λ j. AreApart text (slice_index_or (letters ++ one) (j - 1) 0) (cell_behind cells j).character) at
    (subst (λ c. AreApart text c (cell_behind cells (length letters)).character) (sym (get_or_append_left letters one 0 (length letters - 1) (omega (arith, many))))
    (apart many)))

-- letters behind others may be put over the cells behind theirs
pub over_behind : (text : List ℕ) (cells : List Cell) (letters bytes : List ℕ) (last count : ℕ) → GoOver text cells letters → 0 < length letters
    → last ≡ slice_index_or letters (length letters - 1) 0 → count ≤ length bytes → length letters + count ≤ length cells
    → ((k : ℕ) → k < count → IsPlain (cell_behind (drop (length letters) cells) k))
    → ((k : ℕ) → k < count → AreApart text (slice_index_or (last ∷ bytes) k 0) (cell_behind (drop (length letters) cells) k).character)
    → GoOver text cells (letters ++ take count bytes)
over_behind text cells letters bytes last count is some ends within room plain apart =
    let n = length letters in
    let more = take count bytes in
    let many : length more ≡ count = length-take-le count bytes within in
    let same = λ (k : ℕ). get_or-drop n cells k (blank Default) in
    over_all text cells letters more is (omega (arith, room, many))
    (λ k lt. subst IsPlain (same k) (plain k (omega (arith, lt, many))))
    (λ k lt _. subst (λ c. AreApart text c (cell_behind cells (n + k)).character) (before k (omega (arith, lt, many)))
    (subst (λ (cell : Cell). AreApart text (slice_index_or (last ∷ bytes) k 0) cell.character) (same k) (apart k (omega (arith, lt, many)))))
  where
    before : (k : ℕ) → k < count → slice_index_or (last ∷ bytes) k 0 ≡ slice_index_or (letters ++ take count bytes) (length letters + k - 1) 0
    before zero lt =
        let place : length letters - 1 ≡ length letters + 0 - 1 = omega arith in
        ends ∙ sym (get_or_append_left letters (take count bytes) 0 (length letters - 1) (omega (arith, some)))
        ∙ ap (λ j. slice_index_or (letters ++ take count bytes) j 0) place
    before (suc k) lt =
        let place : length letters + k ≡ length letters + suc k - 1 = omega arith in
        sym (get_or-take count bytes k 0 (omega (arith, lt)))
        ∙ sym (get_or-append-add letters (take count bytes) k 0)
        ∙ ap (λ j. slice_index_or (letters ++ take count bytes) j 0) place
