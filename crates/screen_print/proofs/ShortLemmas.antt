-- Short texts: where one begins in a row is told by that row and the next one.
use Rattle.std.proofs.Common.{◌≡◌, ◌⊎◌, ℕ, zero, suc, ◌+◌, ◌-◌, ◌<◌, ◌≤◌, Bool, true, false, List, [], ◌∷◌, ◌++◌, length, get_or, drop, refl, ap, sym, ◌∙◌, subst, arith, append_assoc, cond, inl, inr}
use Rattle.std.specs.List.{All}
use Rattle.std.proofs.lemmas.Bool.{cases_Bool, cases_lt}
use Rattle.std.proofs.lemmas.List.{get_or_default, length-append, take-append-le}
use Rattle.vt_screen.specs.declared.cell.Row.{Row}
use Rattle.vt_screen.specs.declared.cell.Size.{Size}
use Rattle.vt_screen.specs.declared.cell.Size.TheVariants.{Single}
use Rattle.vt_screen.specs.Cells.{row_at}
use Rattle.vt_screen.specs.Picture.{margin_of}
use Rattle.screen_print.specs.FindLines.{begins, ends_line, line_text_from, row_texts}
use Rattle.screen_rows.specs.RowText.{row_text}
use Rattle.screen_print.specs.Quiet.{LineStays, PlacesStay, SamePlacesStay, columns_of}
use Rattle.screen_print.specs.Cover.{Cover}
use Rattle.screen_print.specs.Stills.{Still}
use Rattle.screen_print.proofs.FindLemmas.{line_ends, no_texts, texts_at}
use Rattle.screen_rows.proofs.TextLemmas.{row_text_len}
use Rattle.screen_print.proofs.QuietLemmas.{begins_alike, line_is, row_places, same_in, same_places, same_row_stays, texts_same}
use Rattle.screen_print.proofs.StillLemmas.{IsIn, differs_or_same, line_within}

margin_bounds : (wide : Bool) (size : Size) → (40 ≤ margin_of wide size) × (margin_of wide size ≤ 132)
margin_bounds true Single = (omega arith, omega arith)
margin_bounds true _ = (omega arith, omega arith)
margin_bounds false Single = (omega arith, omega arith)
margin_bounds false _ = (omega arith, omega arith)

row_long : (wide : Bool) (row : Row) → length row.cells ≡ 132 → 40 ≤ length (row_text wide row)
row_long wide row whole =
    let bounds = margin_bounds wide row.size in
    omega (arith, bounds.0, row_text_len wide row (margin_of wide row.size) refl bounds.1 whole)

-- a row that runs on, and the next one
joined : (row next : List ℕ) (rows : List (List ℕ)) → ends_line row ≡ false
    → line_text_from (row ∷ next ∷ rows) ≡ (row ++ next) ++ cond (ends_line next) [] (line_text_from rows)
joined row next rows on =
    line_is row (next ∷ rows)
    ∙ ap (λ b. row ++ cond b [] (line_text_from (next ∷ rows))) on
    ∙ ap (λ l. row ++ l) (line_is next rows)
    ∙ sym (append_assoc row next (cond (ends_line next) [] (line_text_from rows)))

short_alike : (text row next : List ℕ) (rows rows' : List (List ℕ)) (column : ℕ) → length text ≤ length next + 1 → 1 ≤ column → column ≤ length row
    → begins text (line_text_from (row ∷ next ∷ rows)) column ≡ begins text (line_text_from (row ∷ next ∷ rows')) column
short_alike text row next rows rows' column short low high = elim (cases_Bool (ends_line row)) [
  | inl ends ↦ ap (λ l. begins text l column) (sym (line_ends row (next ∷ rows) ends) ∙ line_ends row (next ∷ rows') ends)
  | inr on ↦
      let both = row ++ next in
      let rest = cond (ends_line next) [] (line_text_from rows) in
      let rest' = cond (ends_line next) [] (line_text_from rows') in
      let fits : length row + length next ≤ length both = omega (arith, length-append row next) in
      ap (λ l. begins text l column) (joined row next rows on)
      ∙ begins_alike text (both ++ rest) (both ++ rest') column (length row + length next) (omega arith)
      (take-append-le (length row + length next) both rest fits ∙ sym (take-append-le (length row + length next) both rest' fits))
      ∙ sym (ap (λ l. begins text l column) (joined row next rows' on))
]

-- the same row with the same one behind it
short_stays : (text : List ℕ) (one other : Still) (line : ℕ) → length one.rows ≡ 24 → length other.rows ≡ 24 → one.wide ≡ other.wide → line < 24
    → length (row_at other.rows (line + 1)).cells ≡ 132 → length text ≤ 41 → row_at one.rows line ≡ row_at other.rows line
    → row_at one.rows (line + 1) ≡ row_at other.rows (line + 1) → PlacesStay text one other line
short_stays text one other line whole whole' wide lt cells short same same' =
    let row = row_text other.wide (row_at other.rows line) in
    let next = row_text other.wide (row_at other.rows (line + 1)) in
    let at : line + 1 - 1 ≡ line = omega arith in
    let behind : drop line (row_texts one) ≡ next ∷ drop (line + 1) (row_texts one) =
    ap (λ n. drop n (row_texts one)) (sym at) ∙ texts_at one (line + 1) whole (omega arith) (omega arith)
    ∙ ap (λ r. r ∷ drop (line + 1) (row_texts one)) (texts_same one other (line + 1) wide same') in
    let behind' : drop line (row_texts other) ≡ next ∷ drop (line + 1) (row_texts other) =
    ap (λ n. drop n (row_texts other)) (sym at) ∙ texts_at other (line + 1) whole' (omega arith) (omega arith) in
    let long = row_long other.wide (row_at other.rows (line + 1)) cells in
    same_places text one other line (texts_same one other line wide same)
    (ap (columns_of text row) behind
    ∙ same_in (begins text (line_text_from (row ∷ next ∷ drop (line + 1) (row_texts one)))) (begins text (line_text_from (row ∷ next ∷ drop (line + 1) (row_texts other)))) 1 (length row)
    (λ i low high. short_alike text row next (drop (line + 1) (row_texts one)) (drop (line + 1) (row_texts other)) i (omega arith) low (omega arith))
    ∙ ap (columns_of text row) (sym behind'))

-- the same last row
last_stays : (text : List ℕ) (one other : Still) (line : ℕ) → length one.rows ≡ 24 → length other.rows ≡ 24 → one.wide ≡ other.wide → 24 ≤ line
    → row_at one.rows line ≡ row_at other.rows line → PlacesStay text one other line
last_stays text one other line whole whole' wide last same =
    same_places text one other line (texts_same one other line wide same)
    (ap (columns_of text (row_text other.wide (row_at other.rows line))) (no_texts one line whole last ∙ sym (no_texts other line whole' last)))

-- one of these numbers, of all of which something holds
listed_has : {P : Type 0} (Q : ℕ → Type 0) (xs : List ℕ) (k : ℕ) → All Q xs → IsIn xs k P → P ⊎ Q k
listed_has Q [] k all p = inl p
listed_has Q (x ∷ xs) k all (inl e) = inr (subst Q (sym e) (all zero x (omega arith)))
listed_has Q (x ∷ xs) k all (inr p) = listed_has Q xs k (λ j d lt. all (suc j) d (omega arith)) p

-- the rows that are the same, where those right above the ones that differ stand alone
pub short_same_stay : (text : List ℕ) (one other : Still) (lines : List ℕ) → length one.rows ≡ 24 → length other.rows ≡ 24 → one.wide ≡ other.wide
    → ((line : ℕ) → length (row_at other.rows line).cells ≡ 132) → length text ≤ 41 → Cover lines one.rows other.rows
    → All (λ line. 1 < line → LineStays text other other (line - 1)) lines → SamePlacesStay text one other
short_same_stay text one other lines whole whole' wide cells short changed above = λ line low high same. elim (cases_lt line 24) [
  | inl lt ↦
      let next = row_at one.rows (line + 1) ≡ row_at other.rows (line + 1) in
      let listed : IsIn lines (line + 1) next =
      differs_or_same one.rows other.rows lines (line + 1) changed (omega arith) (omega arith) in
      elim (listed_has (λ n. 1 < n → LineStays text other other (n - 1)) lines (line + 1) above listed) [
        | inl same' ↦ short_stays text one other line whole whole' wide lt (cells (line + 1)) short same same'
        | inr alone ↦
            let at : line + 1 - 1 ≡ line = omega arith in
            row_places text one other line (same_row_stays text one other line wide same (subst (LineStays text other other) at (alone (omega arith))))
      ]
  | inr last ↦ last_stays text one other line whole whole' wide last same
]

-- lines that cover those that differ are lines
pub lines_within : (before after : List Row) (lines : List ℕ) → Cover lines before after → All (λ line. line ≤ 24) lines
lines_within before after lines is = λ k d lt.
    let within = line_within before after lines k is lt in
    let same : get_or lines k d ≡ get_or lines k 0 = get_or_default lines k d 0 lt in
    omega (arith, within.1, same)
