-- Rows, lines and places, one more at a time.
use Rattle.std.proofs.Common.{◌≡◌, ◌≢◌, ℕ, zero, suc, ◌+◌, ◌-◌, ◌<◌, ◌≤◌, Bool, true, false, List, [], ◌∷◌, ◌++◌, length, take, drop, get_or, nat_eq, nat_le, refl, ap, sym, ◌∙◌, arith, append_assoc, append-nil, cond, inl, inr}
use Rattle.std.specs.List.{range_with_len, starts_with}
use Rattle.std.proofs.lemmas.Bool.{and_parts, cases_Bool, cases_lt, eq-eqb, eqb-true, false≢true, le-leb, lt-leb, ne_eqb, true≢false}
use Rattle.std.proofs.lemmas.Bool.Decides.{Decides-eqb}
use Rattle.std.proofs.lemmas.Slice.Eq.{slice_eq-Decides}
use Rattle.std.proofs.lemmas.List.{drop-append-le, drop_all, drop_more, get_or_past, length-take}
use Rattle.standings.specs.Near.{places_part}
use Rattle.standings.specs.Rows.{Row, empty_row, row_below}
use Rattle.standings.specs.Standing.{begins, line_text, place_in, places_from, places_in}
use Rattle.standings.specs.Found.{rows_reaching}
use Rattle.standings.specs.declared.place.Place.{Place}

-- the rows from one on
pub rows_at : (rows : List Row) (at : ℕ) → at < length rows → drop at rows ≡ row_below rows at ∷ drop (at + 1) rows
rows_at rows at lt = drop_more rows at empty_row lt

-- the first of them
pub first_below : (rows : List Row) (at : ℕ) → at < length rows → row_below (drop at rows) 0 ≡ row_below rows at
first_below rows at lt = ap (λ l. row_below l 0) (rows_at rows at lt)

-- ---- rows that have so many characters

enough : (n : ℕ) (row : Row) (rows : List Row) → nat_le n (length row.characters) ≡ true → row.characters ≡ rows_reaching n (row ∷ rows)
unfolding rows_reaching
enough n row rows ends = rw ends (sym (append-nil row.characters))

too_few : (n : ℕ) (row : Row) (rows : List Row) → nat_le n (length row.characters) ≡ false
    → row.characters ++ rows_reaching (n - length row.characters) rows ≡ rows_reaching n (row ∷ rows)
unfolding rows_reaching
too_few n row rows goes = rw goes refl

pub reaching_end : (rows : List Row) (at n : ℕ) (text whole : List ℕ) → at < length rows → n ≤ length (row_below rows at).characters
    → text ++ rows_reaching n (drop at rows) ≡ whole → text ++ (row_below rows at).characters ≡ whole
reaching_end rows at n text whole lt fits before =
    let row = row_below rows at in
    ap (λ l. text ++ l) (enough n row (drop (at + 1) rows) (le-leb n (length row.characters) fits) ∙ ap (rows_reaching n) (sym (rows_at rows at lt))) ∙ before

pub reaching_more : (rows : List Row) (at n : ℕ) (text whole : List ℕ) → at < length rows → length (row_below rows at).characters < n
    → text ++ rows_reaching n (drop at rows) ≡ whole
    → (text ++ (row_below rows at).characters) ++ rows_reaching (n - length (row_below rows at).characters) (drop (at + 1) rows) ≡ whole
reaching_more rows at n text whole lt short before =
    let row = row_below rows at in
    append_assoc text row.characters (rows_reaching (n - length row.characters) (drop (at + 1) rows))
    ∙ ap (λ l. text ++ l) (too_few n row (drop (at + 1) rows) (lt-leb n (length row.characters) short) ∙ ap (rows_reaching n) (sym (rows_at rows at lt))) ∙ before

pub reaching_all : (rows : List Row) (at n : ℕ) (text whole : List ℕ) → length rows ≤ at → text ++ rows_reaching n (drop at rows) ≡ whole → text ≡ whole
unfolding rows_reaching
reaching_all rows at n text whole past before =
    sym (append-nil text) ∙ ap (λ l. text ++ rows_reaching n l) (sym (drop_all at rows past)) ∙ before

-- one row reaches, where it has so many characters
pub reaching_one : (rows : List Row) (at n : ℕ) → n ≤ length (row_below rows at).characters → rows_reaching n (drop at rows) ≡ (row_below rows at).characters
reaching_one rows at n fits =
    let whole = rows_reaching n (drop at rows) in
    elim (cases_lt at (length rows)) [
      | inl lt ↦ sym (reaching_end rows at n [] whole lt fits refl)
      | inr past ↦ sym (reaching_all rows at n [] whole past refl) ∙ ap (λ (r : Row). r.characters) (sym (get_or_past rows at empty_row past))
    ]

-- ---- where a text begins

-- a line behind so many characters of its first row
line_behind : (row : Row) (rows : List Row) (from : ℕ) → from ≤ length row.characters
    → drop from (line_text (row ∷ rows)) ≡ drop from row.characters ++ cond row.runs_on (line_text rows) []
unfolding line_text
line_behind row rows from fits = drop-append-le from row.characters (cond row.runs_on (line_text rows) []) fits

pub told_here : (rows : List Row) (at from : ℕ) (rest : List ℕ) (found : Bool) → at < length rows → from ≤ length (row_below rows at).characters
    → starts_with nat_eq (drop from (line_text (drop at rows))) rest ≡ found
    → starts_with nat_eq (drop from (row_below rows at).characters ++ cond (row_below rows at).runs_on (line_text (drop (at + 1) rows)) []) rest ≡ found
told_here rows at from rest found lt fits told =
    let row = row_below rows at in
    ap (λ l. starts_with nat_eq l rest) (sym (line_behind row (drop (at + 1) rows) from fits) ∙ ap (λ l. drop from (line_text l)) (sym (rows_at rows at lt))) ∙ told

-- what goes on so whatever comes behind the first row
pub line_along : (rows : List Row) (before : ℕ) (text : List ℕ) (told : Bool) → before < length (row_below rows 0).characters
    → ((rest : List ℕ) → starts_with nat_eq (drop before (row_below rows 0).characters ++ rest) text ≡ told)
    → begins text (line_text rows) before ≡ told
line_along [] before text told lt is = absurd (omega arith)
line_along (row ∷ rows) before text told lt is =
    ap (λ l. starts_with nat_eq l text) (line_behind row rows before (omega arith)) ∙ is (cond row.runs_on (line_text rows) [])

-- where another character stands than its first
pub first_differs : (characters text rest : List ℕ) (before : ℕ) → 0 < length text → before < length characters
    → get_or characters before 0 ≢ get_or text 0 0 → starts_with nat_eq (drop before characters ++ rest) text ≡ false
first_differs characters [] rest before some lt differs = absurd (omega arith)
first_differs characters (y ∷ text) rest before some lt differs =
    ap (λ l. starts_with nat_eq (l ++ rest) (y ∷ text)) (drop_more characters before 0 lt)
    ∙ rw (ne_eqb y (get_or characters before 0) (λ e. differs (sym e))) refl

-- and where its first does and another than its second behind it
pub second_differs : (characters text rest : List ℕ) (before : ℕ) → 1 < length text → before + 1 < length characters
    → (get_or characters before 0 ≡ get_or text 0 0 → get_or characters (before + 1) 0 ≢ get_or text 1 0) → starts_with nat_eq (drop before characters ++ rest) text ≡ false
second_differs characters [] rest before some lt differs = absurd (omega arith)
second_differs characters (y ∷ []) rest before some lt differs = absurd (omega arith)
second_differs characters (y ∷ z ∷ text) rest before some lt differs =
    let x = get_or characters before 0 in
    let x' = get_or characters (before + 1) 0 in
    let two : drop before characters ≡ x ∷ (x' ∷ drop (before + 1 + 1) characters) =
    drop_more characters before 0 (omega arith) ∙ ap (λ l. x ∷ l) (drop_more characters (before + 1) 0 lt) in
    ap (λ l. starts_with nat_eq (l ++ rest) (y ∷ z ∷ text)) two
    ∙ elim (cases_Bool (nat_eq y x)) [
      | inr f ↦ rw f refl
      | inl t ↦ rw (t, ne_eqb z x' (λ e. differs (sym (eqb-true y x t)) (sym e))) refl
    ]

-- a text that is no longer than what stands here
pub within_part : (part more text : List ℕ) → length text ≤ length part → starts_with nat_eq (part ++ more) text ≡ starts_with nat_eq part text
within_part part more [] fits = refl
within_part [] more (y ∷ text) fits = absurd (omega arith)
within_part (x ∷ part) more (y ∷ text) fits = elim (cases_Bool (nat_eq y x)) [
  | inl t ↦ rw t (within_part part more text (omega arith))
  | inr f ↦ rw f refl
]

-- one that is longer
pub too_long : (line text : List ℕ) → length line < length text → starts_with nat_eq line text ≡ false
too_long line text short =
    let decided = slice_eq-Decides Decides-eqb text (take (length text) line) (starts_with nat_eq line text) refl in
    elim (cases_Bool (starts_with nat_eq line text)) [
      | inl t ↦ absurd (omega (arith, ap length (decided.0 t), length-take (length text) line, short))
      | inr f ↦ f
    ]

-- and one that doesn't begin with what stands here
pub not_begun : (part more text : List ℕ) → length part < length text → starts_with nat_eq text part ≡ false → starts_with nat_eq (part ++ more) text ≡ false
not_begun [] more text short differs = absurd (true≢false differs)
not_begun (x ∷ part) more [] short differs = absurd (omega arith)
not_begun (x ∷ part) more (y ∷ text) short differs = elim (cases_Bool (nat_eq y x)) [
  | inl t ↦
      let same : nat_eq x y ≡ true = ap (λ n. nat_eq n y) (sym (eqb-true y x t)) ∙ eq-eqb y y refl in
      rw t (not_begun part more text (omega arith) (rw same at differs))
  | inr f ↦ rw f refl
]

-- a text that begins with a part goes on behind it
pub goes_on : (part more text : List ℕ) → starts_with nat_eq text part ≡ true → length part ≤ length text → starts_with nat_eq (part ++ more) text ≡ starts_with nat_eq more (drop (length part) text)
goes_on [] more text same fits = refl
goes_on (x ∷ part) more [] same fits = absurd (omega arith)
goes_on (x ∷ part) more (y ∷ text) same fits =
    let parts = and_parts (nat_eq x y) (starts_with nat_eq text part) same in
    let first : nat_eq y x ≡ true = eq-eqb y x (sym (eqb-true x y parts.0)) in
    rw first (goes_on part more text parts.1 (omega arith))

pub ends_here : (runs : Bool) (part more text : List ℕ) → runs ≡ false → length part < length text → starts_with nat_eq (part ++ cond runs more []) text ≡ false
ends_here true part more text e short = absurd (true≢false e)
ends_here false part more text e short = too_long (part ++ []) text (omega (arith, ap length (append-nil part), short))

pub runs_there : (runs : Bool) (part more text : List ℕ) → runs ≡ true → starts_with nat_eq text part ≡ true → length part ≤ length text
    → starts_with nat_eq (part ++ cond runs more []) text ≡ starts_with nat_eq more (drop (length part) text)
runs_there true part more text e same fits = goes_on part more text same fits
runs_there false part more text e same fits = absurd (false≢true e)

nothing_in : (from : ℕ) (text : List ℕ) → starts_with nat_eq (drop from []) text ≡ nat_eq (length text) 0
nothing_in from [] = ap (λ l. starts_with nat_eq l []) (drop_all from [] (omega arith))
nothing_in from (x ∷ text) =
    ap (λ l. starts_with nat_eq l (x ∷ text)) (drop_all from [] (omega arith)) ∙ sym (ne_eqb (suc (length text)) 0 (λ e. omega (arith, e)))

-- behind the last row stands nothing
pub nothing_left : (rows : List Row) (at from : ℕ) (text : List ℕ) → length rows ≤ at → starts_with nat_eq (drop from (line_text (drop at rows))) text ≡ nat_eq (length text) 0
unfolding line_text
nothing_left rows at from text past =
    ap (λ l. starts_with nat_eq (drop from (line_text l)) text) (drop_all at rows past) ∙ nothing_in from text

-- ---- places

pub range_more : (a n : ℕ) → range_with_len a (n + 1) ≡ range_with_len a n ++ (a + n) ∷ []
range_more a zero = ap (λ k. k ∷ []) (omega arith)
range_more a (suc n) =
    let more : suc n + 1 ≡ suc (n + 1) = omega arith in
    let next : a + 1 + n ≡ a + suc n = omega arith in
    ap (range_with_len a) more ∙ ap (λ l. a ∷ l) (range_more (a + 1) n ∙ ap (λ k. range_with_len (a + 1) n ++ k ∷ []) next)

-- those of a part of a row: with the first character apart ..
pub part_first : (text : List ℕ) (above : ℕ) (line : List ℕ) (from n : ℕ) (here : Bool) → here ≡ begins text line from
    → places_part text above line from (suc n) ≡ cond here (place_in above from ∷ []) [] ++ places_part text above line (from + 1) n
part_first text above line from n true is = rw (sym is) refl
part_first text above line from n false is = rw (sym is) refl

-- .. and in two
pub part_parts : (text : List ℕ) (above : ℕ) (line : List ℕ) (n m from : ℕ) → places_part text above line from (n + m) ≡ places_part text above line from n ++ places_part text above line (from + n) m
part_parts text above line zero m from =
    let all : 0 + m ≡ m = omega arith in
    let here : from ≡ from + 0 = omega arith in
    ap (places_part text above line from) all ∙ ap (λ k. places_part text above line k m) here
part_parts text above line (suc n) m from =
    let more : suc n + m ≡ suc (n + m) = omega arith in
    let there : from + 1 + n ≡ from + suc n = omega arith in
    let first = cond (begins text line from) (place_in above from ∷ []) [] in
    ap (places_part text above line from) more ∙ part_first text above line from (n + m) (begins text line from) refl
    ∙ ap (λ l. first ++ l) (part_parts text above line n m (from + 1) ∙ ap (λ k. places_part text above line (from + 1) n ++ places_part text above line k m) there)
    ∙ sym (append_assoc first (places_part text above line (from + 1) n) (places_part text above line (from + suc n) m))
    ∙ ap (λ l. l ++ places_part text above line (from + suc n) m) (sym (part_first text above line from n (begins text line from) refl))

-- a character more
pub part_more : (text : List ℕ) (above : ℕ) (line : List ℕ) (from n : ℕ) (here : Bool) → here ≡ begins text line (from + n)
    → places_part text above line from (n + 1) ≡ places_part text above line from n ++ cond here (place_in above (from + n) ∷ []) []
part_more text above line from n here is =
    part_parts text above line n 1 from
    ∙ ap (λ l. places_part text above line from n ++ l) (part_first text above line (from + n) 0 here is ∙ append-nil (cond here (place_in above (from + n) ∷ []) []))

pub places_more : (text : List ℕ) (above : ℕ) (line : List ℕ) (before : ℕ) (here : Bool) → here ≡ begins text line before
    → places_in text above line (before + 1) ≡ places_in text above line before ++ cond here (place_in above before ∷ []) []
places_more text above line before here is =
    let same : 0 + before ≡ before = omega arith in
    part_more text above line 0 before here (is ∙ ap (begins text line) (sym same))
    ∙ ap (λ k. places_in text above line before ++ cond here (place_in above k ∷ []) []) same

-- and a row more
pub places_row : (text : List ℕ) (rows : List Row) (above : ℕ) → above < length rows
    → places_from text above (drop above rows)
    ≡ places_in text above (line_text (drop above rows)) (length (row_below rows above).characters) ++ places_from text (above + 1) (drop (above + 1) rows)
unfolding places_from
places_row text rows above lt = rw (rows_at rows above lt) refl

pub standing_more : (text : List ℕ) (rows : List Row) (above : ℕ) (places more whole : List Place) → above < length rows
    → more ≡ places ++ places_in text above (line_text (drop above rows)) (length (row_below rows above).characters)
    → places ++ places_from text above (drop above rows) ≡ whole → more ++ places_from text (above + 1) (drop (above + 1) rows) ≡ whole
standing_more text rows above places more whole lt is before =
    let here = places_in text above (line_text (drop above rows)) (length (row_below rows above).characters) in
    ap (λ l. l ++ places_from text (above + 1) (drop (above + 1) rows)) is
    ∙ append_assoc places here (places_from text (above + 1) (drop (above + 1) rows))
    ∙ ap (λ l. places ++ l) (sym (places_row text rows above lt))
    ∙ before

pub standing_all : (text : List ℕ) (rows : List Row) (above : ℕ) (places whole : List Place) → length rows ≤ above
    → places ++ places_from text above (drop above rows) ≡ whole → places ≡ whole
unfolding places_from
standing_all text rows above places whole past before =
    sym (append-nil places) ∙ ap (λ l. places ++ places_from text above l) (sym (drop_all above rows past)) ∙ before
