-- Row texts, lines, and the places of a text.
use Rattle.std.proofs.Common.{◌≡◌, ℕ, zero, suc, ◌+◌, ◌-◌, ◌<◌, ◌≤◌, Bool, true, false, List, [], ◌∷◌, ◌++◌, length, get_or, drop, filter, map, nat_le, refl, ap, sym, ◌∙◌, arith, append_assoc, append-nil, cond}
use Rattle.std.specs.List.{range_with_len}
use Rattle.std.proofs.lemmas.Bool.{le-leb, lt-leb}
use Rattle.std.proofs.lemmas.List.{drop_all, drop_more, get_or-map, length-map, map-append}
use Rattle.std.proofs.lemmas.List.Elements.{filter-append}
use Rattle.vt_screen.specs.Cells.{blank_row, row_at}
use Rattle.screen_print.specs.declared.standing.Place.{Place}
use Rattle.screen_print.specs.FindLines.{begins, ends_line, line_text_from, place_in, places_from, places_in, row_texts, rows_reaching, standing}
use Rattle.screen_rows.specs.RowText.{row_text}
use Rattle.screen_print.specs.Places.{IsPlace}
use Rattle.screen_print.specs.Stills.{Still}
use Rattle.screen_print.proofs.RowLemmas.{nth_is}
use Rattle.screen_rows.proofs.RangeLemmas.{range_more}
use Rattle.chunk_walk.proofs.TextLemmas.{one_more, texts_around, texts_from}

-- the rows' texts from one on
pub texts_at : (still : Still) (line : ℕ) → length still.rows ≡ 24 → 1 ≤ line → line ≤ 24
    → drop (line - 1) (row_texts still) ≡ row_text still.wide (row_at still.rows line) ∷ drop line (row_texts still)
texts_at still line whole low high =
    let within : line - 1 < length still.rows = omega arith in
    let same : line - 1 + 1 ≡ line = omega arith in
    drop_more (row_texts still) (line - 1) [] (omega (arith, length-map still.rows (row_text still.wide)))
    ∙ ap (λ x. x ∷ drop (line - 1 + 1) (row_texts still)) (get_or-map (row_text still.wide) still.rows (line - 1) blank_row [] within ∙ ap (row_text still.wide) (sym (nth_is still.rows line)))
    ∙ ap (λ n. row_text still.wide (row_at still.rows line) ∷ drop n (row_texts still)) same

pub no_texts : (still : Still) (line : ℕ) → length still.rows ≡ 24 → 24 ≤ line → drop line (row_texts still) ≡ []
no_texts still line whole high = drop_all line (row_texts still) (omega (arith, length-map still.rows (row_text still.wide)))

-- a row more of a line
pub line_ends : (row : List ℕ) (rows : List (List ℕ)) → ends_line row ≡ true → row ≡ line_text_from (row ∷ rows)
unfolding line_text_from
line_ends row rows ends = rw ends (sym (append-nil row))

-- ---- places

places_one : (text : List ℕ) (line : ℕ) (lines : List ℕ) (column : ℕ) (here : Bool) → here ≡ begins text lines column
    → map (place_in line) (filter (begins text lines) (column ∷ [])) ≡ cond here (place_in line column ∷ []) []
places_one text line lines column true is = rw (sym is) refl
places_one text line lines column false is = rw (sym is) refl

-- a column more of a row
pub places_more : (text : List ℕ) (line : ℕ) (lines : List ℕ) (column : ℕ) (here : Bool) → 1 ≤ column → here ≡ begins text lines column
    → places_in text line lines column ≡ places_in text line lines (column - 1) ++ cond here (place_in line column ∷ []) []
places_more text line lines column here low is =
    let n = column - 1 in
    let at : column ≡ n + 1 = omega arith in
    let next : 1 + n ≡ column = omega arith in
    ap (places_in text line lines) at
    ∙ ap (λ l. map (place_in line) (filter (begins text lines) l)) (range_more 1 n)
    ∙ ap (map (place_in line)) (filter-append (begins text lines) (range_with_len 1 n) ((1 + n) ∷ []))
    ∙ map-append (place_in line) (filter (begins text lines) (range_with_len 1 n)) (filter (begins text lines) ((1 + n) ∷ []))
    ∙ ap (λ m. places_in text line lines n ++ map (place_in line) (filter (begins text lines) (m ∷ []))) next
    ∙ ap (λ l. places_in text line lines n ++ l) (places_one text line lines column here is)

-- the places of a row and of those behind it
pub places_row : (text : List ℕ) (still : Still) (line : ℕ) → length still.rows ≡ 24 → 1 ≤ line → line ≤ 24
    → places_from text line (drop (line - 1) (row_texts still))
    ≡ places_in text line (line_text_from (drop (line - 1) (row_texts still))) (length (row_text still.wide (row_at still.rows line))) ++ places_from text (line + 1) (drop line (row_texts still))
unfolding places_from
places_row text still line whole low high = rw (texts_at still line whole low high) refl

-- ---- loops over rows

here_again : (still : Still) (at : ℕ) → drop (at + 1 - 1) (row_texts still) ≡ drop at (row_texts still)
here_again still at = ap (λ n. drop n (row_texts still)) (omega arith)

-- rows that have so many characters
pub enough : (n : ℕ) (row : List ℕ) (rows : List (List ℕ)) → nat_le n (length row) ≡ true → row ≡ rows_reaching n (row ∷ rows)
unfolding rows_reaching
enough n row rows ends = rw ends (sym (append-nil row))

too_few : (n : ℕ) (row : List ℕ) (rows : List (List ℕ)) → nat_le n (length row) ≡ false
    → row ++ rows_reaching (n - length row) rows ≡ rows_reaching n (row ∷ rows)
unfolding rows_reaching
too_few n row rows goes = rw goes refl

pub reaching_more : (still : Still) (at n : ℕ) (text row whole : List ℕ) → length still.rows ≡ 24 → 1 ≤ at → at ≤ 24
    → row ≡ row_text still.wide (row_at still.rows at) → length row < n
    → text ++ rows_reaching n (drop (at - 1) (row_texts still)) ≡ whole → (text ++ row) ++ rows_reaching (n - length row) (drop (at + 1 - 1) (row_texts still)) ≡ whole
reaching_more still at n text row whole rows low high is goes before =
    append_assoc text row (rows_reaching (n - length row) (drop (at + 1 - 1) (row_texts still)))
    ∙ ap (λ t. text ++ (row ++ rows_reaching (n - length row) t)) (here_again still at)
    ∙ ap (λ t. text ++ t) (too_few n row (drop at (row_texts still)) (lt-leb n (length row) goes)
    ∙ ap (λ r. rows_reaching n (r ∷ drop at (row_texts still))) is
    ∙ ap (rows_reaching n) (sym (texts_at still at rows low high)))
    ∙ before

pub reaching_end : (still : Still) (at n : ℕ) (text row whole : List ℕ) → length still.rows ≡ 24 → 1 ≤ at → at ≤ 24
    → row ≡ row_text still.wide (row_at still.rows at) → n ≤ length row
    → text ++ rows_reaching n (drop (at - 1) (row_texts still)) ≡ whole → text ++ row ≡ whole
reaching_end still at n text row whole rows low high is ends before =
    ap (λ t. text ++ t) (enough n row (drop at (row_texts still)) (le-leb n (length row) ends)
    ∙ ap (λ r. rows_reaching n (r ∷ drop at (row_texts still))) is
    ∙ ap (rows_reaching n) (sym (texts_at still at rows low high)))
    ∙ before

pub reaching_all : (still : Still) (at n : ℕ) (text whole : List ℕ) → length still.rows ≡ 24 → 24 < at
    → text ++ rows_reaching n (drop (at - 1) (row_texts still)) ≡ whole → text ≡ whole
unfolding rows_reaching
reaching_all still at n text whole rows high before =
    sym (append-nil text) ∙ ap (λ t. text ++ rows_reaching n t) (sym (no_texts still (at - 1) rows (omega arith))) ∙ before

-- places, a row more
pub standing_more : (text : List ℕ) (still : Still) (line : ℕ) (places more whole : List Place) → length still.rows ≡ 24 → 1 ≤ line → line ≤ 24
    → more ≡ places ++ places_in text line (line_text_from (drop (line - 1) (row_texts still))) (length (row_text still.wide (row_at still.rows line)))
    → places ++ places_from text line (drop (line - 1) (row_texts still)) ≡ whole → more ++ places_from text (line + 1) (drop (line + 1 - 1) (row_texts still)) ≡ whole
standing_more text still line places more whole rows low high is before =
    let here = places_in text line (line_text_from (drop (line - 1) (row_texts still))) (length (row_text still.wide (row_at still.rows line))) in
    ap (λ l. l ++ places_from text (line + 1) (drop (line + 1 - 1) (row_texts still))) is
    ∙ append_assoc places here (places_from text (line + 1) (drop (line + 1 - 1) (row_texts still)))
    ∙ ap (λ t. places ++ (here ++ places_from text (line + 1) t)) (here_again still line)
    ∙ ap (λ l. places ++ l) (sym (places_row text still line rows low high))
    ∙ before

pub standing_all : (text : List ℕ) (still : Still) (line : ℕ) (places : List Place) → length still.rows ≡ 24 → 24 < line
    → places ++ places_from text line (drop (line - 1) (row_texts still)) ≡ standing text still → places ≡ standing text still
unfolding places_from
standing_all text still line places rows high before =
    sym (append-nil places) ∙ ap (λ t. places ++ places_from text line t) (sym (no_texts still (line - 1) rows (omega arith))) ∙ before

-- places, a column more
pub placed_step : (text : List ℕ) (line : ℕ) (lines : List ℕ) (column : ℕ) (here : Bool) (old before new : List Place)
    → 1 ≤ column → here ≡ begins text lines column
    → before ≡ old ++ places_in text line lines (column - 1) → new ≡ before ++ cond here (place_in line column ∷ []) [] → new ≡ old ++ places_in text line lines (column + 1 - 1)
placed_step text line lines column here old before new low is so_far more =
    let same : column ≡ column + 1 - 1 = omega arith in
    more ∙ ap (λ l. l ++ cond here (place_in line column ∷ []) []) so_far
    ∙ append_assoc old (places_in text line lines (column - 1)) (cond here (place_in line column ∷ []) [])
    ∙ ap (λ l. old ++ l) (sym (places_more text line lines column here low is) ∙ ap (places_in text line lines) same)

-- ---- texts from the first on

pub first_more : (f : ℕ → List ℕ) (n : ℕ) → texts_from f 0 (n + 1) ≡ texts_from f 0 n ++ f n
first_more f n = one_more f 0 n ∙ ap (λ k. texts_from f 0 n ++ f k) (omega arith)

pub first_cut : (f : ℕ → List ℕ) (n all : ℕ) → n < all → texts_from f 0 all ≡ (texts_from f 0 n ++ f n) ++ texts_from f (0 + (n + 1)) (all - (n + 1))
first_cut f n all lt = texts_around f 0 n all lt ∙ ap (λ k. (texts_from f 0 n ++ f k) ++ texts_from f (0 + (n + 1)) (all - (n + 1))) (omega arith)

pub place_alone : (still : Still) (place : Place) → IsPlace still place → (k : ℕ) (d : Place)
    → k < length (place ∷ []) → IsPlace still (get_or (place ∷ []) k d)
place_alone still place is zero d lt = is
place_alone still place is (suc k) d lt = absurd (omega arith)
