-- How many characters are before that of a plain cell, told by the column that is read for it.
use Rattle.std.proofs.Common.{◌≡◌, ◌≢◌, ℕ, zero, suc, ◌+◌, ◌-◌, ◌<◌, ◌≤◌, List, [], ◌∷◌, ◌++◌, get_or, length, map, take, ap, sym, ◌∙◌, arith, inl, inr, refl}
use Rattle.std.specs.List.{flat_map}
use Rattle.std.proofs.Math.Seq.{get_or-append_right}
use Rattle.std.proofs.lemmas.Bool.{cases_Bool, cases_lt}
use Rattle.std.proofs.lemmas.List.{get_or-map, get_or-take, get_or_append_left, get_or_past, length-append, length-map, take-take}
use Rattle.sheet.specs.declared.rendition.Colour.TheVariants.{Default}
use Rattle.sheet.specs.Cells.{Cell, blank}
use Rattle.xterm_rows.specs.RowText.{characters}
use Rattle.xterm_print.specs.FindRows.{columns_from, kept_cells, leaves_last, row_read}
use Rattle.xterm_print.specs.Pieces.{IsPlain}
use Rattle.xterm_print.proofs.OverLemmas.{character_plain}

-- each character of a cell stands in the same column
abbrev here : ℕ → Cell → List ℕ
here from cell = map (λ _. from) (characters cell)

here_at : (from : ℕ) (cell : Cell) (more : List ℕ) (j : ℕ) → j < length (here from cell) → get_or (here from cell ++ more) j 0 ≡ from
here_at from cell more j lt =
    get_or_append_left (here from cell) more 0 j lt
    ∙ get_or-map (λ _. from) (characters cell) j 0 0 (omega (arith, lt, length-map (characters cell) (λ _. from)))

-- those of the next cells in other ones
columns_past : (from column : ℕ) (cells : List Cell) (j : ℕ) → 1 ≤ column → column < from → get_or (columns_from from cells) j 0 ≢ column
columns_past from column [] j low high = λ e.
    let none : get_or (columns_from from []) j 0 ≡ 0 = get_or_past [] j 0 (omega arith) in
    omega (arith, e, none, low)
columns_past from column (cell ∷ cells) j low high = λ e.
    let more = columns_from (from + 1) cells in
    elim (cases_lt j (length (here from cell))) [
      | inl lt ↦ omega (arith, sym (here_at from cell more j lt) ∙ e, high)
      | inr past ↦ columns_past (from + 1) column cells (j - length (here from cell)) low (omega (arith, high)) (sym (get_or-append_right (here from cell) more j 0 past) ∙ e)
    ]

-- so where a cell has one character, its column tells how many there are before it
place_in_column : (from : ℕ) (cells : List Cell) (m j : ℕ) → 1 ≤ from → length (characters (get_or cells m (blank Default))) ≡ 1
    → get_or (columns_from from cells) j 0 ≡ from + m → j ≡ length (flat_map characters (take m cells))
place_in_column from [] m j low one is =
    let none : get_or (columns_from from []) j 0 ≡ 0 = get_or_past [] j 0 (omega arith) in
    absurd (omega (arith, is, none, low))
place_in_column from (cell ∷ cells) zero j low one is =
    let more = columns_from (from + 1) cells in
    let same : from + 0 ≡ from = omega arith in
    elim (cases_lt j (length (here from cell))) [
      | inl lt ↦ omega (arith, lt, length-map (characters cell) (λ _. from), one)
      | inr past ↦ absurd (columns_past (from + 1) from cells (j - length (here from cell)) low (omega arith) (sym (get_or-append_right (here from cell) more j 0 past) ∙ is ∙ same))
    ]
place_in_column from (cell ∷ cells) (suc m) j low one is =
    let more = columns_from (from + 1) cells in
    let next : from + suc m ≡ from + 1 + m = omega arith in
    elim (cases_lt j (length (here from cell))) [
      | inl lt ↦ absurd (omega (arith, sym (here_at from cell more j lt) ∙ is))
      | inr past ↦
          let rest = place_in_column (from + 1) cells m (j - length (here from cell)) (omega arith) one (sym (get_or-append_right (here from cell) more j 0 past) ∙ is ∙ next) in
          omega (arith, rest, past, length-map (characters cell) (λ _. from), length-append (characters cell) (flat_map characters (take m cells)))
    ]

-- all cells but the last are kept
kept_at : (cells next : List Cell) (m : ℕ) → m + 1 < length cells → get_or (kept_cells cells next) m (blank Default) ≡ get_or cells m (blank Default)
unfolding kept_cells
kept_at cells next m within = elim (cases_Bool (leaves_last cells next)) [
  | inl t ↦ rw t (get_or-take (length cells - 1) cells m (blank Default) (omega (arith, within)))
  | inr f ↦ rw f refl
]

kept_front : (cells next : List Cell) (m : ℕ) → m + 1 < length cells → take m (kept_cells cells next) ≡ take m cells
unfolding kept_cells
kept_front cells next m within = elim (cases_Bool (leaves_last cells next)) [
  | inl t ↦ rw t (take-take m (length cells - 1) cells (omega (arith, within)))
  | inr f ↦ rw f refl
]

-- in a row that is read
pub place_read : (cells next : List Cell) (m : ℕ) → m + 1 < length cells → IsPlain (get_or cells m (blank Default))
    → get_or (row_read cells next).columns m 0 ≡ m + 1 → m ≡ length (flat_map characters (take m cells))
unfolding row_read
place_read cells next m within plain is =
    let first : m + 1 ≡ 1 + m = omega arith in
    place_in_column 1 (kept_cells cells next) m m (omega arith)
    (ap (λ (cell : Cell). length (characters cell)) (kept_at cells next m within) ∙ ap length (character_plain (get_or cells m (blank Default)) plain))
    (is ∙ first)
    ∙ ap (λ l. length (flat_map characters l)) (kept_front cells next m within)
