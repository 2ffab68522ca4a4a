-- All rows move up by one, and a text begins in none but the others: each place stays.
use Rattle.std.proofs.Common.{◌≡◌, ℕ, ◌+◌, ◌<◌, ◌≤◌, true, List, [], ◌∷◌, ◌++◌, append_assoc, append-nil, cond, drop, filter, length, map, nat_eq, take, refl, ap, ap₂, sym, ◌∙◌, arith, inl, inr}
use Rattle.std.specs.Cmp.Lexicographic.{pointwise}
use Rattle.std.specs.List.{range_with_len}
use Rattle.std.proofs.lemmas.Bool.{cases_Bool}
use Rattle.std.proofs.lemmas.List.{drop-append-le, get_or-drop, get_or_append_left, length-append, length-drop}
use Rattle.std.proofs.lemmas.List.Sums.{sum_by-cons}
use Rattle.standings.specs.Kept.{Keeps}
use Rattle.standings.specs.Moved.{moved_up, spaces_row}
use Rattle.standings.specs.Rows.{Row, empty_row, row_below}
use Rattle.standings.specs.Spans.{places_along}
use Rattle.standings.specs.Standing.{begins, count_left, left_of, line_text, place_at, place_in, places_from, places_in, standing}
use Rattle.standings.specs.declared.place.Place.{Place}
use Rattle.standings.proofs.FrontLemmas.{begins_before, fits_text}
use Rattle.standings.proofs.KeptLemmas.{along_counts, counted}
use Rattle.standings.proofs.MovedLemmas.{below_first}
use Rattle.standings.proofs.PlaceLemmas.{along_parts, standing_along}
use Rattle.standings.proofs.SpanLemmas.{line_at}

-- ---- without the first row each place is a row further up, with the same to the left

count_in : (rows : List Row) (above : ℕ) (left starts : List ℕ)
    → count_left (drop 1 rows) (map (place_in above) starts) left ≡ count_left rows (map (place_in (above + 1)) starts) left
count_in rows above left [] = refl
count_in rows above left (before ∷ starts) =
    let one = λ (all : List Row) (place : Place). cond {A = ℕ} (pointwise nat_eq (left_of all place) left) 1 0 in
    let next : 1 + above ≡ above + 1 = omega arith in
    let same : row_below (drop 1 rows) above ≡ row_below rows (above + 1) = get_or-drop 1 rows above empty_row ∙ ap (row_below rows) next in
    sum_by-cons (one (drop 1 rows)) (place_in above before) (map (place_in above) starts)
    ∙ ap₂ (λ a b. a + b) (ap {B = ℕ} (λ (row : Row). cond {A = ℕ} (pointwise nat_eq (take before row.characters) left) 1 0) same) (count_in rows above left starts)
    ∙ sym (sum_by-cons (one rows) (place_in (above + 1) before) (map (place_in (above + 1)) starts))

count_from : (text : List ℕ) (all : List Row) (left : List ℕ) (rows : List Row) (above : ℕ)
    → count_left (drop 1 all) (places_from text above rows) left ≡ count_left all (places_from text (above + 1) rows) left
unfolding places_from
count_from text all left [] above = refl
count_from text all left (row ∷ rows) above =
    let line = line_text (row ∷ rows) in
    let n = length row.characters in
    counted (drop 1 all) (places_in text above line n) (places_from text (above + 1) rows) left
    ∙ ap₂ (λ a b. a + b) (count_in all above left (filter (begins text line) (range_with_len 0 n))) (count_from text all left rows (above + 1))
    ∙ sym (counted all (places_in text (above + 1) line n) (places_from text (above + 1 + 1) rows) left)

-- ---- rows that come in below take nothing away

-- a line may go on in them
line_on : (rows others : List Row) → (more : List ℕ) × (line_text (rows ++ others) ≡ line_text rows ++ more)
unfolding line_text
line_on [] others = (line_text others, refl)
line_on (row ∷ rows) others = elim (cases_Bool row.runs_on) [
  | inl t ↦
      let rest = line_on rows others in
      (rest.0, rw t (ap (λ l. row.characters ++ l) rest.1 ∙ sym (append_assoc row.characters (line_text rows) rest.0)))
  | inr f ↦ ([], rw f (sym (append-nil (row.characters ++ []))))
]

begins_on : (text line more : List ℕ) (i : ℕ) → i ≤ length line → begins text line i ≡ true → begins text (line ++ more) i ≡ true
begins_on text line more i low here =
    begins_before line more [] text i (omega (arith, low, fits_text (drop i line) text here, length-drop i line))
    ∙ ap (λ l. begins text l i) (append-nil line) ∙ here

keeps_below : (text : List ℕ) (rows others : List Row) → Keeps text rows (rows ++ others)
keeps_below text rows others = λ left.
    let all = rows ++ others in
    let m = length rows in
    let n = length others in
    let front = along_counts text rows all m 0 left (λ k low lt.
    let same : row_below all k ≡ row_below rows k = get_or_append_left rows others empty_row k (omega (arith, lt)) in
    let line = line_text (drop k rows) in
    let on = line_on (drop k rows) others in (
      ap (λ (row : Row). length row.characters) same,
      λ i fits here.
          let within : i ≤ length line =
          omega (arith, fits, ap length (line_at rows k), length-append (row_below rows k).characters (cond (row_below rows k).runs_on (line_text (drop (k + 1) rows)) [])) in (
            ap (λ l. begins text l i) (ap line_text (drop-append-le k rows others (omega (arith, lt))) ∙ on.1) ∙ begins_on text line on.0 i within here,
            ap (λ (row : Row). take i row.characters) same,
          ),
    )) in
    omega (
      arith,
      front,
      ap (λ l. count_left rows l left) (standing_along text rows),
      ap (λ l. count_left all l left) (standing_along text all ∙ ap (places_along text all 0) (length-append rows others) ∙ along_parts text all m n 0),
      counted all (places_along text all 0 m) (places_along text all (0 + m) n) left,
    )

pub up_keeps : (text : List ℕ) (columns : ℕ) (rows : List Row) (places : List Place) → 0 < length rows → places ≡ standing text rows
    → (0 < length places → 1 ≤ (place_at places 0).above) → Keeps text rows (moved_up columns rows)
up_keeps text columns rows places some was ends = λ left.
    let rest : standing text rows ≡ places_from text 1 (drop 1 rows) =
    sym was ∙ below_first text rows places 1 0 some was (omega arith) (λ k lt. absurd (omega (arith, lt))) ends in
    omega (
      arith,
      ap (λ l. count_left rows l left) rest,
      count_from text rows left (drop 1 rows) 0,
      keeps_below text (drop 1 rows) (spaces_row columns ∷ []) left,
    )
