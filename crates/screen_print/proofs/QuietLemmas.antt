-- Chunks that leave a text where it stands.
use Rattle.std.proofs.Common.{◌≡◌, ℕ, zero, suc, ◌+◌, ◌-◌, ◌<◌, ◌≤◌, Bool, true, false, List, [], ◌∷◌, ◌++◌, length, get_or, take, drop, filter, map, nat_eq, refl, ap, sym, ◌∙◌, subst, arith, append-nil, cond, inl, inr}
use Rattle.std.specs.Cmp.Lexicographic.{pointwise}
use Rattle.std.specs.List.{All, count_by, flat_map, range_with_len, starts_with}
use Rattle.std.proofs.lemmas.Bool.{cases_Bool, cases_lt, eq-eqb, lt-leb}
use Rattle.std.proofs.lemmas.Bool.Decides.{Decides-eqb}
use Rattle.std.proofs.lemmas.Slice.Eq.{slice_eq-Decides}
use Rattle.vt_screen.specs.declared.cell.Cell.{Cell}
use Rattle.vt_screen.specs.declared.cell.Row.{Row}
use Rattle.screen_rows.specs.Glyphs.{character}
use Rattle.std.proofs.lemmas.List.FromFn.{length-range_with_len}
use Rattle.std.proofs.lemmas.List.Sums.{count_by_more_yes, length-filter, sum_by-take-le}
use Rattle.std.proofs.lemmas.List.{drop-append-le, drop-take, drop-map, get_or_append_left, get_or_default, get_or-map, get_or-take, length-map, take-append-le, take-map, take-take, take_all, take_more, take_rest}
use Rattle.std.proofs.lemmas.List.Elements.{All-append, All-filter, All-map, All-nil, filter-append}
use Rattle.vt_screen.specs.Cells.{row_at}
use Rattle.screen_print.specs.declared.standing.Place.{Place}
use Rattle.screen_print.specs.FindLines.{begins, ends_line, find_text, is_less, left_of, less_line, less_lines, line_text_from, place_in, places_from, places_in, row_texts, standing}
use Rattle.screen_rows.specs.RowText.{row_text, characters}
use Rattle.screen_print.specs.Quiet.{AllPlacesStay, BeginsUpTo, LineStays, PlacesStay, RowStays, columns_in, columns_of}
use Rattle.screen_print.specs.Stills.{Still}
use Rattle.screen_print.proofs.FindLemmas.{line_ends, no_texts, texts_at}
use Rattle.screen_print.proofs.StillLemmas.{in_range}
use Rattle.chunk_walk.proofs.TextLemmas.{none_in}
use Rattle.screen_rows.proofs.RangeLemmas.{range_split}

-- ---- columns

-- tests that agree on numbers from one on
pub same_in : (p q : ℕ → Bool) (a n : ℕ) → ((i : ℕ) → a ≤ i → i < a + n → p i ≡ q i) → filter p (range_with_len a n) ≡ filter q (range_with_len a n)
same_in p q a zero h = refl
same_in p q a (suc n) h =
    rw (h a (omega arith) (omega arith)) (ap (λ l. cond (q a) (a ∷ l) l) (same_in p q (a + 1) n (λ i low high. h i (omega arith) (omega arith))))

-- a test that nothing passes behind a number
front_in : (p : ℕ → Bool) (f m : ℕ) → f ≤ m → ((i : ℕ) → f < i → i ≤ m → p i ≡ false) → filter p (range_with_len 1 m) ≡ filter p (range_with_len 1 f)
front_in p f m low h =
    let parts : f + (m - f) ≡ m = omega arith in
    ap (λ n. filter p (range_with_len 1 n)) (sym parts)
    ∙ ap (filter p) (range_split 1 f (m - f))
    ∙ filter-append p (range_with_len 1 f) (range_with_len (1 + f) (m - f))
    ∙ ap (λ l. filter p (range_with_len 1 f) ++ l) (none_in p (1 + f) (m - f) (λ i a b. h i (omega arith) (omega arith)))
    ∙ append-nil (filter p (range_with_len 1 f))

-- what lists that begin alike have at a place
pub window : (one other : List ℕ) (at len d : ℕ) → at + len ≤ d → take d one ≡ take d other → take len (drop at one) ≡ take len (drop at other)
window one other at len d within same =
    sym (drop-take at len one) ∙ ap (drop at) (sym (take-take (at + len) d one within) ∙ ap (take (at + len)) same ∙ take-take (at + len) d other within)
    ∙ drop-take at len other

pub begins_alike : (text one other : List ℕ) (column d : ℕ) → column - 1 + length text ≤ d → take d one ≡ take d other
    → begins text one column ≡ begins text other column
begins_alike text one other column d within same =
    ap (pointwise nat_eq text) (window one other (column - 1) (length text) d within same)

pub line_is : (row : List ℕ) (rows : List (List ℕ)) → line_text_from (row ∷ rows) ≡ row ++ cond (ends_line row) [] (line_text_from rows)
unfolding line_text_from
line_is row rows = refl

-- ---- rows

-- two rows that begin alike, and in which the text begins nowhere where it ends behind that
ends_in : (text : List ℕ) (d column : ℕ) → 1 ≤ length text → 1 ≤ column → column ≤ d + 1 - length text → column - 1 + length text ≤ d
ends_in text d column some low high = omega arith

pub front_alike : (text one other : List ℕ) (d : ℕ) (rows rows' : List (List ℕ)) (column : ℕ) → d ≤ length one → d ≤ length other
    → take d one ≡ take d other → column - 1 + length text ≤ d
    → begins text (line_text_from (one ∷ rows)) column ≡ begins text (line_text_from (other ∷ rows')) column
front_alike text one other d rows rows' column fits fits' same within =
    let rest = cond (ends_line one) [] (line_text_from rows) in
    let rest' = cond (ends_line other) [] (line_text_from rows') in
    ap (λ l. begins text l column) (line_is one rows)
    ∙ begins_alike text (one ++ rest) (other ++ rest') column d within (take-append-le d one rest fits ∙ same ∙ sym (take-append-le d other rest' fits'))
    ∙ sym (ap (λ l. begins text l column) (line_is other rows'))

front_columns : (text row : List ℕ) (f : ℕ) (rows : List (List ℕ)) → f ≤ length row → BeginsUpTo text f row
    → columns_of text row rows ≡ filter (begins text (line_text_from (row ∷ rows))) (range_with_len 1 f)
front_columns text row f rows high none =
    front_in (begins text (line_text_from (row ∷ rows))) f (length row) high
    (λ i low within. ap (λ l. begins text l i) (line_is row rows) ∙ none (cond (ends_line row) [] (line_text_from rows)) i low within)

pub alike_stays : (text one other : List ℕ) (d : ℕ) → 1 ≤ length text → d ≤ length one → d ≤ length other → take d one ≡ take d other
    → BeginsUpTo text (d + 1 - length text) one → BeginsUpTo text (d + 1 - length text) other → RowStays text one other
alike_stays text one other d some fits fits' same none none' =
    let f = d + 1 - length text in
    record {
      columns = λ rows rows'.
          front_columns text one f rows (omega arith) none
          ∙ same_in (begins text (line_text_from (one ∷ rows))) (begins text (line_text_from (other ∷ rows'))) 1 f
          (λ i low high. front_alike text one other d rows rows' i fits fits' same (ends_in text d i some low (omega arith)))
          ∙ sym (front_columns text other f rows' (omega arith) none');
      lefts = λ rows.
          subst (All (λ column. take (column - 1) one ≡ take (column - 1) other)) (sym (front_columns text one f rows (omega arith) none))
          (All-filter (begins text (line_text_from (one ∷ rows))) (λ column. take (column - 1) one ≡ take (column - 1) other) (range_with_len 1 f)
          (λ k e lt.
          let column = get_or (range_with_len 1 f) k e in
          let short : k < f = omega (arith, length-range_with_len 1 f, lt) in
          let within = in_range 1 f k e short in
          let low : column - 1 ≤ d = omega (arith, within.0, within.1) in
          sym (take-take (column - 1) d one low) ∙ ap (take (column - 1)) same ∙ take-take (column - 1) d other low));
    }

-- two rows in which the text begins nowhere
pub neither_stays : (text one other : List ℕ) → 1 ≤ length text → BeginsUpTo text 0 one → BeginsUpTo text 0 other → RowStays text one other
neither_stays text one other some none none' =
    let front : 0 ≡ 0 + 1 - length text = omega arith in
    alike_stays text one other 0 some (omega arith) (omega arith) refl
    (subst (λ n. BeginsUpTo text n one) front none) (subst (λ n. BeginsUpTo text n other) front none')

-- a row that ends its line
pub ended_stays : (text row : List ℕ) → ends_line row ≡ true → RowStays text row row
ended_stays text row ends = record {
  columns = λ rows rows'. ap (λ l. filter (begins text l) (range_with_len 1 (length row)))
      (sym (line_ends row rows ends) ∙ line_ends row rows' ends);
  lefts = λ rows k e lt. refl;
}

-- a row whose last character is a space
pub spaced_stays : (text : List ℕ) (cells : List Cell) (d : Cell) → 1 ≤ length cells
    → character (get_or cells (length cells - 1) d).glyph ≡ 32 → RowStays text (characters cells) (characters cells)
spaced_stays text cells d some space =
    let within : length cells - 1 < length cells = omega arith in
    ended_stays text (characters cells)
    (eq-eqb _ 32 (ap (λ n. get_or (characters cells) (n - 1) 32) (length-map cells (λ cell. character cell.glyph))
    ∙ get_or-map (λ (cell : Cell). character cell.glyph) cells (length cells - 1) d 32 within ∙ space))

-- a row in which the text begins nowhere has no place of it
pub none_placed : (text : List ℕ) (still : Still) (line : ℕ) → length still.rows ≡ 24 → 1 ≤ line → line ≤ 24
    → BeginsUpTo text 0 (row_text still.wide (row_at still.rows line))
    → places_in text line (line_text_from (drop (line - 1) (row_texts still))) (length (row_text still.wide (row_at still.rows line))) ≡ []
none_placed text still line whole low high none =
    let row = row_text still.wide (row_at still.rows line) in
    let rows = drop line (row_texts still) in
    ap (λ l. places_in text line (line_text_from l) (length row)) (texts_at still line whole low high)
    ∙ ap (map (place_in line)) (none_in (begins text (line_text_from (row ∷ rows))) 1 (length row) (λ column from to.
    ap (λ l. begins text l column) (line_is row rows) ∙ none (cond (ends_line row) [] (line_text_from rows)) column (omega arith) (omega arith)))

-- two rows told by their cells
pub cells_stay : (text : List ℕ) (one other : List Cell) (d behind : ℕ) → 1 ≤ length text → d ≤ length one → d ≤ length other
    → behind ≡ d + 1 - length text → take d (characters one) ≡ take d (characters other)
    → BeginsUpTo text behind (characters one) → BeginsUpTo text behind (characters other) → RowStays text (characters one) (characters other)
cells_stay text one other d behind some fits fits' is same none none' =
    alike_stays text (characters one) (characters other) d some
    (omega (arith, length-map one (λ cell. character cell.glyph))) (omega (arith, length-map other (λ cell. character cell.glyph))) same
    (subst (λ n. BeginsUpTo text n (characters one)) is none) (subst (λ n. BeginsUpTo text n (characters other)) is none')

-- ---- cells

-- cells that are read alike, and one more of each
pub alike_more : (one other : List Cell) (k : ℕ) (d e : Cell) → k < length one → k < length other → character (get_or one k d).glyph ≡ character (get_or other k e).glyph
    → take k (characters one) ≡ take k (characters other) → take (k + 1) (characters one) ≡ take (k + 1) (characters other)
alike_more one other k d e lt lt' same before =
    let read : Cell → ℕ = λ cell. character cell.glyph in
    take_more (characters one) k 0 (omega (arith, length-map one read))
    ∙ ap (λ l. l ++ get_or (characters one) k 0 ∷ []) before
    ∙ ap (λ x. take k (characters other) ++ x ∷ [])
    (get_or-map read one k d 0 lt ∙ same ∙ sym (get_or-map read other k e 0 lt'))
    ∙ sym (take_more (characters other) k 0 (omega (arith, length-map other read)))

-- a text that differs from a line in one character
mismatch : (text line : List ℕ) (k : ℕ) → k < length text → (get_or line k 0 ≡ get_or text k 0 → ⊥) → starts_with nat_eq line text ≡ false
mismatch text line k lt differs =
    let decided = slice_eq-Decides Decides-eqb text (take (length text) line) (starts_with nat_eq line text) refl in
    elim (cases_Bool (starts_with nat_eq line text)) [
      | inl t ↦ absurd (differs (sym (ap (λ (l : List ℕ). get_or l k 0) (decided.0 t) ∙ get_or-take (length text) line k 0 lt)))
      | inr f ↦ f
    ]

pub differs_at : (text : List ℕ) (cells : List Cell) (rest : List ℕ) (k : ℕ) (d : Cell) (e : ℕ) → k < length text → k < length cells
    → (character (get_or cells k d).glyph ≡ get_or text k e → ⊥) → starts_with nat_eq (characters cells ++ rest) text ≡ false
differs_at text cells rest k d e lt lt' differs =
    let read : Cell → ℕ = λ c. character c.glyph in
    let here : get_or (characters cells ++ rest) k 0 ≡ read (get_or cells k d) =
    get_or_append_left (characters cells) rest 0 k (omega (arith, length-map cells read))
    ∙ get_or-map read cells k d 0 lt' in
    mismatch text (characters cells ++ rest) k lt (λ h. differs (sym here ∙ h ∙ get_or_default text k 0 e lt))

-- a column more in which a text begins nowhere
pub begins_no_more : (text : List ℕ) (cells : List Cell) (at behind : ℕ) → at < length cells
    → ((rest : List ℕ) → starts_with nat_eq (characters (drop at cells) ++ rest) text ≡ false)
    → ((rest : List ℕ) (column : ℕ) → behind < column → column ≤ at → begins text (characters cells ++ rest) column ≡ false)
    → (rest : List ℕ) (column : ℕ) → behind < column → column ≤ at + 1 → begins text (characters cells ++ rest) column ≡ false
begins_no_more text cells at behind lt here before rest column low high = elim (cases_lt at column) [
  | inl more ↦
      let is : column - 1 ≡ at = omega arith in
      let read : Cell → ℕ = λ c. character c.glyph in
      ap (λ n. starts_with nat_eq (drop n (characters cells ++ rest)) text) is
      ∙ ap (λ l. starts_with nat_eq l text) (drop-append-le at (characters cells) rest (omega (arith, length-map cells read)) ∙ ap (λ l. l ++ rest) (drop-map read at cells))
      ∙ here rest
  | inr less ↦ before rest column low less
]

-- cells that agree with a text, and one more
pub agrees_more : (text : List ℕ) (cells : List Cell) (k : ℕ) (d : Cell) (e : ℕ) → k < length text → k < length cells
    → character (get_or cells k d).glyph ≡ get_or text k e → take k (characters cells) ≡ take k text → take (k + 1) (characters cells) ≡ take (k + 1) text
agrees_more text cells k d e lt lt' same before =
    let read : Cell → ℕ = λ cell. character cell.glyph in
    take_more (characters cells) k 0 (omega (arith, length-map cells read))
    ∙ ap (λ l. l ++ get_or (characters cells) k 0 ∷ []) before
    ∙ ap (λ x. take k text ++ x ∷ []) (get_or-map read cells k d 0 lt' ∙ same ∙ sym (get_or_default text k 0 e lt))
    ∙ sym (take_more text k 0 lt)

pub itself : (l : List ℕ) → pointwise nat_eq l l ≡ true
itself [] = refl
itself (x ∷ xs) = rw (eq-eqb x x refl) (itself xs)

-- what stands left of a place
pub left_read : (still : Still) (place : Place) (cells : List Cell) (wide : Bool) (row : Row) (n : ℕ) → characters cells ≡ row_text wide row → wide ≡ still.wide
    → row ≡ row_at still.rows place.line → n ≡ place.column - 1 → characters (take n cells) ≡ left_of still place
left_read still place cells wide row n same width is at =
    sym (take-map (λ (cell : Cell). character cell.glyph) n cells)
    ∙ ap (take n) (same ∙ ap (λ w. row_text w row) width ∙ ap (row_text still.wide) is)
    ∙ ap (λ m. take m (row_text still.wide (row_at still.rows place.line))) at

-- the whole text
pub agrees_all : (text : List ℕ) (cells : List Cell) (rest : List ℕ) (k : ℕ) → length text ≤ length cells → length text ≤ k
    → take k (characters cells) ≡ take k text → starts_with nat_eq (characters cells ++ rest) text ≡ true
agrees_all text cells rest k fits whole same =
    let read : Cell → ℕ = λ cell. character cell.glyph in
    let front : take (length text) (characters cells ++ rest) ≡ text =
    take-append-le (length text) (characters cells) rest (omega (arith, length-map cells read))
    ∙ sym (take-take (length text) k (characters cells) whole) ∙ ap (take (length text)) same ∙ take-take (length text) k text whole
    ∙ take_all (length text) text (omega arith) in
    ap (pointwise nat_eq text) front ∙ itself text

-- the front of a text
pub agrees_front : (text : List ℕ) (cells : List Cell) (k : ℕ) → length cells ≤ length text → length cells ≤ k
    → take k (characters cells) ≡ take k text → characters cells ≡ take (length cells) text
agrees_front text cells k fits whole same =
    let read : Cell → ℕ = λ cell. character cell.glyph in
    sym (take_all (length cells) (characters cells) (omega (arith, length-map cells read)))
    ∙ sym (take-take (length cells) k (characters cells) whole) ∙ ap (take (length cells)) same ∙ take-take (length cells) k text whole

-- where a text begins in a line is told by the cells of its first row, as far as they go
pub begins_in : (text : List ℕ) (still : Still) (line column : ℕ) (cells : List Cell) (here : Bool) → length still.rows ≡ 24 → 1 ≤ line → line ≤ 24
    → 1 ≤ column → column ≤ length cells → characters cells ≡ row_text still.wide (row_at still.rows line)
    → ((rest : List ℕ) → starts_with nat_eq (characters (take (length cells - (column - 1)) (drop (column - 1) cells)) ++ rest) text ≡ here)
    → begins text (line_text_from (drop (line - 1) (row_texts still))) column ≡ here
begins_in text still line column cells here whole low high left right same told =
    let read : Cell → ℕ = λ cell. character cell.glyph in
    let at = column - 1 in
    let rows = drop line (row_texts still) in
    let row = row_text still.wide (row_at still.rows line) in
    let rest = cond (ends_line row) [] (line_text_from rows) in
    ap (λ l. begins text (line_text_from l) column) (texts_at still line whole low high)
    ∙ ap (λ l. begins text l column) (line_is row rows)
    ∙ ap (λ l. begins text (l ++ rest) column) (sym same)
    ∙ ap (λ l. starts_with nat_eq l text) (drop-append-le at (characters cells) rest (omega (arith, length-map cells read)) ∙ ap (λ l. l ++ rest) (drop-map read at cells))
    ∙ ap (λ l. starts_with nat_eq (characters l ++ rest) text) (sym (take_rest cells at))
    ∙ told rest

-- ---- screens

pub texts_same : (one other : Still) (line : ℕ) → one.wide ≡ other.wide → row_at one.rows line ≡ row_at other.rows line
    → row_text one.wide (row_at one.rows line) ≡ row_text other.wide (row_at other.rows line)
texts_same one other line wide same = ap (λ w. row_text w (row_at one.rows line)) wide ∙ ap (row_text other.wide) same

-- a row that is the same on both
pub same_row_stays : (text : List ℕ) (one other : Still) (line : ℕ) → one.wide ≡ other.wide → row_at one.rows line ≡ row_at other.rows line
    → LineStays text other other line → LineStays text one other line
same_row_stays text one other line wide same h =
    subst (λ row. RowStays text row (row_text other.wide (row_at other.rows line)))
    (sym (texts_same one other line wide same)) h

-- what stays whatever rows stand behind it stays where its own do
pub row_places : (text : List ℕ) (one other : Still) (line : ℕ) → LineStays text one other line → PlacesStay text one other line
row_places text one other line h = record {
  columns = h.columns (drop line (row_texts one)) (drop line (row_texts other));
  lefts = h.lefts (drop line (row_texts one));
}

-- a line that has the same row on both, and behind it rows before which the text begins at the same columns
pub same_places : (text : List ℕ) (one other : Still) (line : ℕ) → row_text one.wide (row_at one.rows line) ≡ row_text other.wide (row_at other.rows line)
    → columns_of text (row_text other.wide (row_at other.rows line)) (drop line (row_texts one)) ≡ columns_in text other line → PlacesStay text one other line
same_places text one other line same h = record {
  columns = ap (λ row. columns_of text row (drop line (row_texts one))) same ∙ h;
  lefts = λ k d lt. ap (take (get_or (columns_in text one line) k d - 1)) same;
}

lefts_on : (text : List ℕ) (one other : Still) (line : ℕ) → PlacesStay text one other line
    → All (λ place. left_of one place ≡ left_of other place) (map (place_in line) (columns_in text one line))
lefts_on text one other line h =
    All-map (λ place. left_of one place ≡ left_of other place) (place_in line) (columns_in text one line) h.lefts

stands_on : (text : List ℕ) (one other : Still) (n line : ℕ) → length one.rows ≡ 24 → length other.rows ≡ 24 → line + n ≡ 25 → 1 ≤ line
    → AllPlacesStay text one other
    → (places_from text line (drop (line - 1) (row_texts one)) ≡ places_from text line (drop (line - 1) (row_texts other)))
    × All (λ place. left_of one place ≡ left_of other place) (places_from text line (drop (line - 1) (row_texts one)))
unfolding places_from
stands_on text one other zero line whole whole' at low h =
    let past : 24 ≤ line - 1 = omega arith in
    rw (no_texts one (line - 1) whole past, no_texts other (line - 1) whole' past) (refl, All-nil (λ place. left_of one place ≡ left_of other place))
stands_on text one other (suc n) line whole whole' at low h =
    let high : line ≤ 24 = omega arith in
    let row = row_text one.wide (row_at one.rows line) in
    let row' = row_text other.wide (row_at other.rows line) in
    let next : line + 1 - 1 ≡ line = omega arith in
    let later = stands_on text one other n (line + 1) whole whole' (omega arith) (omega arith) h in
    let later_same : places_from text (line + 1) (drop line (row_texts one)) ≡ places_from text (line + 1) (drop line (row_texts other)) =
    rw next at later.0 in
    let later_left : All (λ place. left_of one place ≡ left_of other place) (places_from text (line + 1) (drop line (row_texts one))) =
    rw next at later.1 in
    let here = h line low high in
    rw (texts_at one line whole low high, texts_at other line whole' low high) (
      ap (λ l. map (place_in line) l ++ places_from text (line + 1) (drop line (row_texts one))) here.columns
          ∙ ap (λ l. map (place_in line) (columns_of text row' (drop line (row_texts other))) ++ l) later_same,
      All-append (λ place. left_of one place ≡ left_of other place) (map (place_in line) (columns_of text row (drop line (row_texts one)))) (places_from text (line + 1) (drop line (row_texts one)))
          (lefts_on text one other line here) later_left,
    )

-- ---- what went and what came

nothing_in : (f : ℕ → List ℕ) (a n : ℕ) → ((i : ℕ) → a ≤ i → i < a + n → f i ≡ []) → flat_map f (range_with_len a n) ≡ []
nothing_in f a zero h = refl
nothing_in f a (suc n) h = rw (h a (omega arith) (omega arith)) (nothing_in f (a + 1) n (λ i low high. h i (omega arith) (omega arith)))

filter_alike : {X : Type 0} (p q : X → Bool) (xs : List X) → All (λ x. p x ≡ q x) xs → filter p xs ≡ filter q xs
filter_alike p q [] h = refl
filter_alike p q (x ∷ xs) h =
    rw (h zero x (omega arith)) (ap (λ l. cond (q x) (x ∷ l) l) (filter_alike p q xs (λ k d lt. h (suc k) d (omega arith))))

count_alike : {X : Type 0} (p q : X → Bool) (xs : List X) → All (λ x. p x ≡ q x) xs → count_by p xs ≡ count_by q xs
count_alike p q xs h = sym (length-filter p xs) ∙ ap length (filter_alike p q xs h) ∙ length-filter q xs

-- a place is no less where all places stand on the other screen too, with the same to the left: it isn't among those before it
not_less : (one other : Still) (places : List Place) (n : ℕ) → n < length places → All (λ place. left_of one place ≡ left_of other place) places
    → is_less one places other places n ≡ false
not_less one other places n within h =
    let left = left_of one (get_or places n (place_in 1 1)) in
    let p : Place → Bool = λ place. pointwise nat_eq (left_of one place) left in
    let q : Place → Bool = λ place. pointwise nat_eq (left_of other place) left in
    let here : p (get_or places n (place_in 1 1)) ≡ true = itself left in
    let more = count_by_more_yes p places n (place_in 1 1) within here in
    let all : count_by p (take (n + 1) places) ≤ count_by p places = sum_by-take-le (λ x. cond (p x) 1 0) places (n + 1) in
    let same : count_by p places ≡ count_by q places = count_alike p q places (λ k d lt. ap (λ l. pointwise nat_eq l left) (h k d lt)) in
    lt-leb (count_by q places) (count_by p (take n places)) (omega (arith, more, all, same))

none_less : (sign index due len : ℕ) (one other : Still) (places others : List Place) → places ≡ others
    → All (λ place. left_of one place ≡ left_of other place) places → less_lines sign index due len one places other others ≡ []
none_less sign index due len one other places others same h =
    rw (← same)
    (nothing_in (less_line sign index due len one places other places) 0 (length places)
    (λ n low high. rw (not_less one other places n (omega arith) h) refl))

-- then nothing is written of the chunk
pub nothing_moves : (text : List ℕ) (index due : ℕ) (one other : Still) → length one.rows ≡ 24 → length other.rows ≡ 24
    → AllPlacesStay text one other → find_text text index due one other ≡ []
unfolding find_text
nothing_moves text index due one other whole whole' h =
    let stands = stands_on text one other 24 1 whole whole' (omega arith) (omega arith) h in
    let back : All (λ place. left_of other place ≡ left_of one place) (standing text other) =
    subst (All (λ place. left_of other place ≡ left_of one place)) stands.0 (λ k d lt. sym (stands.1 k d lt)) in
    rw (
      none_less 45 index due (length text) one other (standing text one) (standing text other) stands.0 stands.1,
      none_less 43 index due (length text) other one (standing text other) (standing text one) (sym stands.0) back,
    ) refl
