-- Bytes that write characters over plain cells of the cursor's row, with sequences between them that select renditions.
use Rattle.std.proofs.Common.{◌≡◌, ◌≢◌, ℕ, zero, suc, ◌+◌, ◌-◌, ◌<◌, ◌≤◌, Bool, false, true, List, [], ◌∷◌, ◌++◌, append_assoc, drop, get_or, get_or-set_other, get_or-set_same, length, set, take, refl, ap, ap₂, subst, sym, ◌∙◌, arith, inl, inr}
use Rattle.std.specs.Prelude.{◌==◌, Some, if◌then◌else◌}
use Rattle.std.specs.List.{flat_map}
use Rattle.std.proofs.Math.Seq.{sets, take-append_seam}
use Rattle.std.proofs.lemmas.Bool.{cases_eq, cases_lt}
use Rattle.std.proofs.lemmas.Bool.Decides.{nat_tests}
use Rattle.std.proofs.lemmas.List.{get_or_default, get_or_past, length-append, length-set, length-take-le, same_lists, take-append-drop}
use Rattle.std.proofs.lemmas.List.FromFn.{get_or-map-range_with_len, length-map-range_with_len}
use Rattle.sheet.specs.declared.rendition.Colour.TheVariants.{Default}
use Rattle.sheet.specs.declared.rendition.Rendition.{Rendition}
use Rattle.sheet.specs.Cells.{Cell, blank, cell_at, is_covered, is_wide, lettered}
use Rattle.sheet.specs.Edits.{run_put}
use Rattle.sheet.specs.Grid.{row_at, with_row}
use Rattle.sheet.specs.Halves.{Whole}
use Rattle.sheet.specs.Table.{nth, table}
use Rattle.sheet.proofs.Over.{run_over}
use Rattle.standings.specs.Kept.{Keeps, room_in}
use Rattle.standings.specs.Rows.{Row, empty_row, row_below}
use Rattle.standings.specs.Standing.{begins, line_text}
use Rattle.standings.proofs.FrontLemmas.{IsRewritten, NoNeighbours}
use Rattle.standings.specs.Written.{row_written, rows_written}
use Rattle.standings.proofs.KeptLemmas.{keeps_more, keeps_same}
use Rattle.standings.proofs.SpanLemmas.{same_rows}
use Rattle.xterm_rows.specs.RowText.{characters}
use Rattle.xterm_screen.specs.Picture.{Picture, Sound}
use Rattle.xterm_term.specs.declared.sets.CharacterSet.{CharacterSet}
use Rattle.xterm_term.specs.Ahead.{Letters, WritesStyled, letters_from, run_at_cursor, spelled, styling_behind}
use Rattle.xterm_term.specs.Term.{Term}
use Rattle.xterm_print.specs.FindRows.{row_read, rows_read}
use Rattle.xterm_print.specs.Pieces.{AreApart, EndsLeft, IsPlain, StaysOn, WritesOver, left_of_cursor, rows_behind}
use Rattle.xterm_print.proofs.FindRowLemmas.{count_read, read_at}
use Rattle.xterm_print.proofs.OverLemmas.{AreLetters, IsOver, characters_own, in_place, kept, left, old, old_at, old_length, plain_narrow, plain_open, read_above, read_written, right, sets_alike}
use Rattle.xterm_print.proofs.StylingLemmas.{IsFront, count_more, front_of}
use Rattle.xterm_term.proofs.Taken.{nothing_played}

-- ---- one row in place of another

row_with : (at : ℕ) (row : List Cell) (rows : List (List Cell)) (line : ℕ) → 1 ≤ line → line ≤ length rows
    → row_at (with_row at row rows) line ≡ (if line == at then row else row_at rows line)
unfolding nth table
row_with at row rows zero low high = absurd (omega (arith, low))
row_with at row rows (suc k) low high =
    get_or-map-range_with_len (λ line. if line == at then row else row_at rows line) 1 (length rows) k (suc k) [] (omega arith) (omega arith)

with_length : (at : ℕ) (row : List Cell) (rows : List (List Cell)) → length (with_row at row rows) ≡ length rows
unfolding table
with_length at row rows = length-map-range_with_len (λ line. if line == at then row else row_at rows line) 1 (length rows)

row_past : (at : ℕ) (row : List Cell) (rows : List (List Cell)) (line : ℕ) → length rows < line → row_at (with_row at row rows) line ≡ row_at rows line
unfolding nth
row_past at row rows zero past = refl
row_past at row rows (suc k) past =
    get_or_past (with_row at row rows) k [] (omega (arith, with_length at row rows))
    ∙ sym (get_or_past rows k [] (omega arith))

row_there : (at : ℕ) (row : List Cell) (rows : List (List Cell)) → 1 ≤ at → at ≤ length rows → row_at (with_row at row rows) at ≡ row
row_there at row rows low high = row_with at row rows at low high ∙ itself at row (row_at rows at)
  where
    itself : (k : ℕ) (x y : List Cell) → (if k == k then x else y) ≡ x
    itself k x y = grind (arith, nat_tests)

row_other : (at : ℕ) (row : List Cell) (rows : List (List Cell)) (line : ℕ) → 1 ≤ line → line ≢ at → row_at (with_row at row rows) line ≡ row_at rows line
row_other at row rows line low apart = elim (cases_lt (length rows) line) [
  | inl past ↦ row_past at row rows line past
  | inr within ↦ row_with at row rows line low within ∙ grind (arith, nat_tests)
]

-- lists with the same row at each line
rows_same : (one other : List (List Cell)) → length one ≡ length other
    → ((line : ℕ) → 1 ≤ line → line ≤ length one → row_at one line ≡ row_at other line) → one ≡ other
unfolding nth
rows_same one other long same = same_lists one other long (λ k d lt.
    get_or_default one k d [] lt ∙ same (suc k) (omega arith) (omega (arith, lt)) ∙ sym (get_or_default other k d [] (omega (arith, lt, long))))

with_same : (at : ℕ) (rows : List (List Cell)) → rows ≡ with_row at (row_at rows at) rows
with_same at rows = rows_same rows (with_row at (row_at rows at) rows) (sym (with_length at (row_at rows at) rows)) (λ line low high.
    sym (row_with at (row_at rows at) rows line low high
    ∙ elim (cases_eq line at) [ inl e ↦ (let same = ap (row_at rows) e in grind (arith, nat_tests)) | inr ne ↦ grind (arith, nat_tests) ]))

with_twice : (at : ℕ) (x y : List Cell) (rows : List (List Cell)) → with_row at x (with_row at y rows) ≡ with_row at x rows
with_twice at x y rows =
    let first = with_row at y rows in
    let count = with_length at y rows in
    let all = with_length at x first in
    rows_same (with_row at x first) (with_row at x rows) (all ∙ count ∙ sym (with_length at x rows)) (λ line low high.
    row_with at x first line low (omega (arith, high, all))
    ∙ elim (cases_eq line at) [
      | inl e ↦ grind (arith, nat_tests)
      | inr ne ↦ (let other = row_other at y rows line low ne in grind (arith, nat_tests))
    ]
    ∙ sym (row_with at x rows line low (omega (arith, high, all, count))))

-- the rows that are read then: all but one are the same, where the row above reads both alike
read_with : (lines at : ℕ) (row : List Cell) (rows : List (List Cell)) → length rows ≡ lines → 1 ≤ at → at ≤ lines
    → ((other : List Cell) → row_read other row ≡ row_read other (row_at rows at))
    → (k : ℕ) → k ≢ at - 1 → row_below (rows_read lines (with_row at row rows)) k ≡ row_below (rows_read lines rows) k
read_with lines at row rows count low high above k apart =
    let new = with_row at row rows in
    elim (cases_lt k lines) [
      | inr past ↦
          get_or_past (rows_read lines new) k empty_row (omega (arith, count_read lines new, past))
          ∙ sym (get_or_past (rows_read lines rows) k empty_row (omega (arith, count_read lines rows, past)))
      | inl within ↦
          let place : k + 1 - 1 ≡ k = omega arith in
          let line_apart : k + 1 ≢ at = λ e. apart (omega arith) in
          ap (row_below (rows_read lines new)) (sym place) ∙ read_at lines new (k + 1) (omega arith) (omega arith)
          ∙ ap (λ r. row_read r (row_at new (k + 1 + 1))) (row_other at row rows (k + 1) (omega arith) line_apart)
          ∙ elim (cases_eq (k + 1 + 1) at) [
            | inl e ↦
                ap (λ l. row_read (row_at rows (k + 1)) (row_at new l)) e
                ∙ ap (row_read (row_at rows (k + 1))) (row_there at row rows low (omega arith)) ∙ above (row_at rows (k + 1))
                ∙ ap (λ l. row_read (row_at rows (k + 1)) (row_at rows l)) (sym e)
            | inr ne ↦ ap (row_read (row_at rows (k + 1))) (row_other at row rows (k + 1 + 1) (omega arith) ne)
          ]
          ∙ sym (read_at lines rows (k + 1) (omega arith) (omega arith)) ∙ ap (row_below (rows_read lines rows)) place
    ]

-- letters over plain cells are written over as many characters of the row
pub over_written : (rows : List (List Cell)) (lines at before : ℕ) (letters : List ℕ) (cells : List Cell) → length rows ≡ lines → 1 ≤ at → at ≤ lines
    → IsOver (row_at rows at) before (length letters) → AreLetters letters cells
    → rows_read lines (with_row at (sets (row_at rows at) before cells) rows) ≡ rows_written (at - 1) (length (left (row_at rows at) before)) letters (rows_read lines rows)
over_written rows lines at before letters cells count low high over these =
    let here = row_at rows at in
    let below = row_at rows (at + 1) in
    let w = sets here before cells in
    let was = rows_read lines rows in
    let now_ = rows_read lines (with_row at w rows) in
    let row = row_written (length (left here before)) letters (row_below was (at - 1)) in
    let there : row_below now_ (at - 1) ≡ row =
    read_at lines (with_row at w rows) at low high
    ∙ ap (λ r. row_read r (row_at (with_row at w rows) (at + 1))) (row_there at w rows low (omega arith))
    ∙ ap (row_read w) (row_other at w rows (at + 1) (omega arith) (λ e. omega arith))
    ∙ read_written here before letters cells over these below
    ∙ ap (row_written (length (left here before)) letters) (sym (read_at lines rows at low high)) in
    same_rows (set was (at - 1) row) now_ (count_read lines (with_row at w rows) ∙ sym (length-set was (at - 1) row ∙ count_read lines rows)) (λ k lt. elim (cases_eq k (at - 1)) [
      | inl e ↦
          ap (row_below now_) e ∙ there
          ∙ sym (ap (row_below (set was (at - 1) row)) e ∙ get_or-set_same was (at - 1) row empty_row (omega (arith, count_read lines rows, low, high)))
      | inr ne ↦
          read_with lines at w rows count low high (λ other. read_above here before letters cells over these other) k ne
          ∙ sym (get_or-set_other was (at - 1) k row empty_row ne)
    ])

-- ---- characters that are spelled over plain cells

abbrev spelled_cells : List Rendition → List ℕ → List Cell
spelled_cells (rendition ∷ renditions) (letter ∷ letters) = lettered letter false rendition ∷ spelled_cells renditions letters
spelled_cells _ _ = []

lettered_plain : (rendition : Rendition) (letter : ℕ) → IsPlain (lettered letter false rendition)
unfolding lettered
lettered_plain rendition letter = record { kind = refl; alone = refl }

lettered_is : (rendition : Rendition) (letter : ℕ) → (lettered letter false rendition).character ≡ letter
unfolding lettered
lettered_is rendition letter = refl

spelled_letters : (renditions : List Rendition) (letters : List ℕ) → length renditions ≡ length letters → AreLetters letters (spelled_cells renditions letters)
spelled_letters [] [] long = record { plain = λ k lt. absurd (omega (arith, lt)); are = refl }
spelled_letters [] (letter ∷ letters) long = absurd (omega (arith, long))
spelled_letters (rendition ∷ renditions) [] long = absurd (omega (arith, long))
spelled_letters (rendition ∷ renditions) (letter ∷ letters) long =
    let rest = spelled_letters renditions letters (omega (arith, long)) in
    record {
      plain = plain rest;
      are = ap₂ (λ a b. a ∷ b) (lettered_is rendition letter) rest.are;
    }
  where
    plain : AreLetters letters (spelled_cells renditions letters) → (k : ℕ) → k < length (spelled_cells (rendition ∷ renditions) (letter ∷ letters))
        → IsPlain (get_or (spelled_cells (rendition ∷ renditions) (letter ∷ letters)) k (blank Default))
    plain rest zero lt = lettered_plain rendition letter
    plain rest (suc k) lt = rest.plain k (omega (arith, lt))

-- the cell of a row at a column
cell_is : (row : List Cell) (column : ℕ) → 1 ≤ column → cell_at row column ≡ get_or row (column - 1) (blank Default)
unfolding nth
cell_is row zero low = absurd (omega (arith, low))
cell_is row (suc j) low = let same : j ≡ suc j - 1 = omega arith in ap (λ m. get_or row m (blank Default)) same

-- a plain cell in place of another
module _ (row : List Cell) (at : ℕ) (cell : Cell) (within : at < length row) (new : IsPlain cell) (was : IsPlain (get_or row at (blank Default))) where
  alike_at : (f : Cell → Bool) → f cell ≡ false → f (get_or row at (blank Default)) ≡ false → (column : ℕ) → f (cell_at (set row at cell) column) ≡ f (cell_at row column)
  unfolding nth
  alike_at f one other zero = refl
  alike_at f one other (suc j) =
      sets_alike f (cell ∷ []) row at j (blank Default) (omega (arith, within)) (λ m lt.
      let first : m ≡ 0 = omega (arith, lt) in
      let place : at + 0 ≡ at = omega arith in
      ap (λ k. f (get_or (cell ∷ []) k (blank Default))) first ∙ one ∙ sym other
      ∙ ap (λ k. f (get_or row k (blank Default))) (sym place) ∙ ap (λ k. f (get_or row (at + k) (blank Default))) (sym first))

  whole_still : Whole row → Whole (set row at cell)
  whole_still whole k =
      alike_at is_covered (plain_open cell new) (plain_open (get_or row at (blank Default)) was) (k + 1) ∙ whole k
      ∙ sym (alike_at is_wide (plain_narrow cell new) (plain_narrow (get_or row at (blank Default)) was) k)

-- the rows of a picture behind characters that are spelled
spelled_over : (renditions : List Rendition) (letters : List ℕ) (p : Picture) (row : List Cell) → row ≡ row_at p.rows p.line
    → length renditions ≡ length letters → 1 ≤ p.line → p.line ≤ length p.rows → 1 ≤ p.column → Whole row → IsOver row (p.column - 1) (length letters)
    → (spelled renditions letters p).rows ≡ with_row p.line (sets row (p.column - 1) (spelled_cells renditions letters)) p.rows
spelled_over [] [] p row is long low high column whole over = with_same p.line p.rows ∙ ap (λ r. with_row p.line r p.rows) (sym is)
spelled_over [] (letter ∷ letters) p row is long low high column whole over = absurd (omega (arith, long))
spelled_over (rendition ∷ renditions) [] p row is long low high column whole over = absurd (omega (arith, long))
spelled_over (rendition ∷ renditions) (letter ∷ letters) p row is long low high column whole over =
    let at = p.column - 1 in
    let cell = lettered letter false rendition in
    let row' = set row at cell in
    let p' = run_at_cursor (letter ∷ []) rendition p in
    let within : at < length row = omega (arith, over.room) in
    let first : at + 0 ≡ at = omega arith in
    let here : IsPlain (get_or row at (blank Default)) = subst (λ m. IsPlain (get_or row m (blank Default))) first (over.plain 0 (omega arith)) in
    let put : run_put p.column (letter ∷ []) rendition (row_at p.rows p.line) ≡ row' =
    ap (run_put p.column (letter ∷ []) rendition) (sym is)
    ∙ run_over rendition (letter ∷ []) p.column row whole column (omega (arith, over.room, column))
    (λ k from to. let same : k ≡ p.column = omega (arith, from, to) in ap (λ c. (cell_at row c).kind) same ∙ ap (λ (x : Cell). x.kind) (cell_is row p.column column) ∙ here.kind) in
    let new : p'.rows ≡ with_row p.line row' p.rows = ap (λ r. with_row p.line r p.rows) put in
    let next : p.column + 1 - 1 ≡ suc at = omega (arith, column) in
    spelled_over renditions letters p' row'
    (sym (ap (λ rows. row_at rows p.line) new ∙ row_there p.line row' p.rows low high))
    (omega (arith, long)) low (omega (arith, high, ap length new, with_length p.line row' p.rows)) (omega arith)
    (whole_still row at cell within (lettered_plain rendition letter) here whole)
    (record {
      room = omega (arith, over.room, next, length-set row at cell);
      plain = λ k lt.
          let place : at + suc k ≡ p.column + 1 - 1 + k = omega (arith, next) in
          subst IsPlain (ap (λ m. get_or row m (blank Default)) place ∙ sym (get_or-set_other row at (p.column + 1 - 1 + k) cell (blank Default) (λ e. omega (arith, e, next))))
          (over.plain (suc k) (omega (arith, lt)));
    })
    ∙ ap (with_row p.line (sets row' (p.column + 1 - 1) (spelled_cells renditions letters))) new
    ∙ with_twice p.line (sets row' (p.column + 1 - 1) (spelled_cells renditions letters)) row' p.rows
    ∙ ap (λ n. with_row p.line (sets row' n (spelled_cells renditions letters)) p.rows) next

-- ---- letters that are written over characters of a row

module _ (rows : List Row) (above : ℕ) (pre was post letters : List ℕ) (inside : above < length rows)
    (is : (row_below rows above).characters ≡ (pre ++ was) ++ post) (same : length letters ≡ length was) where
  abbrev with_first : ℕ → List Row
  with_first k = rows_written above (length pre) (take k letters) rows

  first_there : (k : ℕ) → row_below (with_first k) above ≡ row_written (length pre) (take k letters) (row_below rows above)
  first_there k = get_or-set_same rows above (row_written (length pre) (take k letters) (row_below rows above)) empty_row inside

  first_rewritten : (k : ℕ) → IsRewritten above rows (with_first k)
  first_rewritten k =
      let row = row_written (length pre) (take k letters) (row_below rows above) in
      record {
        count = length-set rows above row;
        others = λ j apart. get_or-set_other rows above j row empty_row apart;
        runs = ap (λ (r : Row). r.runs_on) (first_there k);
      }

  first_characters : (k : ℕ) → k ≤ length letters → (row_below (with_first k) above).characters ≡ (pre ++ (take k letters ++ drop k was)) ++ post
  first_characters k le =
      let some : length (take k letters) ≡ k = length-take-le k letters le in
      let parts : (pre ++ was) ++ post ≡ (pre ++ take k was) ++ (drop k was ++ post) =
      ap (λ l. (pre ++ l) ++ post) (sym (take-append-drop k was))
      ∙ ap (λ l. l ++ post) (sym (append_assoc pre (take k was) (drop k was)))
      ∙ append_assoc (pre ++ take k was) (drop k was) post in
      ap (λ (r : Row). r.characters) (first_there k)
      ∙ ap (λ l. take (length pre) l ++ take k letters ++ drop (length pre + length (take k letters)) l) (is ∙ parts)
      ∙ in_place pre (take k was) (drop k was ++ post) (take k letters) (some ∙ sym (length-take-le k was (omega (arith, le, same))))
      ∙ sym (append_assoc (pre ++ take k letters) (drop k was) post)
      ∙ ap (λ l. l ++ post) (append_assoc pre (take k letters) (drop k was))

  first_keeps : (text : List ℕ) (k : ℕ) → k < length letters → 0 < length text
      → (0 < k → NoNeighbours text (get_or letters (k - 1) 0) (get_or was k 0))
      → ((j i : ℕ) → j ≤ above → j < length rows → i < length (row_below rows j).characters → begins text (line_text (drop j rows)) i ≡ true
      → i + length text ≤ room_in rows above (length pre) j)
      → Keeps text (with_first k) (with_first (k + 1))
  first_keeps text k lt some apart ends =
      keeps_more text above k pre was letters post rows (with_first k) (with_first (k + 1)) inside
      (first_rewritten k) (first_rewritten (k + 1)) is (first_characters k (omega arith)) (first_characters (k + 1) (omega arith))
      same lt some apart ends

-- ---- bytes that are such a run

-- so many bytes spell these letters, which go over plain cells of the cursor's row, left of its last two
pub record IsRun (charset : CharacterSet) (p : Picture) (row : List Cell) (before : ℕ) (text bytes letters : List ℕ) (n : ℕ) : Type 0 where
  pub is : row ≡ row_at p.rows p.line
  pub at : before ≡ p.column - 1
  pub sound : Sound p
  pub whole : Whole row
  pub columns : length row ≡ p.columns
  pub within : n ≤ length bytes
  pub styled : styling_behind charset Letters (take n bytes) ≡ Some Letters
  pub letters_are : letters ≡ letters_from charset Letters (take n bytes)
  pub over : IsOver row before (length letters)
  pub apart : (k : ℕ) → 0 < k → k < length letters → AreApart text (get_or letters (k - 1) 0) (get_or row (before + k) (blank Default)).character

abbrev pub cursor_row : Term → List Cell
cursor_row x = row_at x.console.picture.rows x.console.picture.line

module _ (charset : CharacterSet) (x : Term) (before : ℕ) (text bytes letters : List ℕ) (n : ℕ) (writes : WritesStyled charset x) (run : IsRun charset x.console.picture (cursor_row x) before text bytes letters n) where
  abbrev p : Picture
  p = x.console.picture

  abbrev was : List Row
  was = rows_behind x [] 0

  start_there : was ≡ rows_read p.lines p.rows
  start_there = ap (λ (y : Term). rows_read p.lines y.console.picture.rows) (nothing_played x [] 0 refl)

  left_there : left_of_cursor x ≡ left (cursor_row x) before
  left_there = ap (λ m. flat_map characters (take m (cursor_row x))) (sym run.at)

  -- those of the first bytes
  abbrev front : ℕ → List ℕ
  front k = letters_from charset Letters (take k bytes)

  is_front : (k : ℕ) → k ≤ n → IsFront charset bytes letters k
  is_front k le = front_of charset bytes letters n k le run.styled run.letters_are

  front_low : (k : ℕ) → k ≤ n → length (front k) ≤ length letters
  front_low k le = let some = is_front k le in omega (arith, ap length some.whole, length-append (front k) some.rest)

  front_is : (k : ℕ) → k ≤ n → front k ≡ take (length (front k)) letters
  front_is k le = let some = is_front k le in sym (ap (take (length (front k))) some.whole ∙ take-append_seam (front k) some.rest)

  shorter : (k : ℕ) → k ≤ n → IsOver (cursor_row x) before (length (front k))
  shorter k le = record {
    room = omega (arith, run.over.room, front_low k le);
    plain = λ j lt. run.over.plain j (omega (arith, lt, front_low k le));
  }

  -- the rows behind so many of the bytes: those of their letters
  front_there : (k : ℕ) → k ≤ n → rows_behind x bytes k ≡ rows_written (p.line - 1) (length (left_of_cursor x)) (front k) was
  front_there k le =
      let some = is_front k le in
      let over = shorter k le in
      let shown = writes (take k bytes) some.styling some.behind (omega (arith, over.room, run.at, run.columns, run.sound.column_low)) in
      let cells = spelled_cells shown.renditions (front k) in
      ap (λ (q : Picture). rows_read p.lines q.rows) shown.is
      ∙ ap (rows_read p.lines) (spelled_over shown.renditions (front k) p (cursor_row x) refl shown.long run.sound.line_low (omega (arith, run.sound.rows, run.sound.line_high)) run.sound.column_low run.whole
      (subst (λ m. IsOver (cursor_row x) m (length (front k))) run.at over))
      ∙ ap (λ m. rows_read p.lines (with_row p.line (sets (cursor_row x) m cells) p.rows)) (sym run.at)
      ∙ over_written p.rows p.lines p.line before (front k) cells run.sound.rows run.sound.line_low run.sound.line_high over (spelled_letters shown.renditions (front k) shown.long)
      ∙ ap₂ (λ l r. rows_written (p.line - 1) (length l) (front k) r) (sym left_there) (sym start_there)

  -- the characters over which they are written
  abbrev olds : List ℕ
  olds = old (cursor_row x) before (length letters)

  abbrev post : List ℕ
  post = right (cursor_row x) before (length letters) (kept (cursor_row x) (row_at p.rows (p.line + 1)))

  was_there : (row_below was (p.line - 1)).characters ≡ (left_of_cursor x ++ olds) ++ post
  was_there =
      ap (λ r. (row_below r (p.line - 1)).characters) start_there
      ∙ ap (λ (r : Row). r.characters) (read_at p.lines p.rows p.line run.sound.line_low run.sound.line_high)
      ∙ characters_own (cursor_row x) before (length letters) run.over (row_at p.rows (p.line + 1))
      ∙ ap (λ l. (l ++ olds) ++ post) (sym left_there)

  olds_length : length olds ≡ length letters
  olds_length = old_length (cursor_row x) before (length letters) run.over

  inside : p.line - 1 < length was
  inside = omega (arith, ap length start_there, count_read p.lines p.rows, run.sound.line_low, run.sound.line_high)

  written_here : WritesOver x bytes letters n
  written_here = record {
    room = omega (arith, ap length was_there, length-append (left_of_cursor x ++ olds) post, length-append (left_of_cursor x) olds, olds_length);
    rows = front_there n (omega arith) ∙ ap (λ l. rows_written (p.line - 1) (length (left_of_cursor x)) l was) (sym run.letters_are);
  }

  -- of the letters so many are written, and then one more
  letter_keeps : 0 < length text → EndsLeft text x → (k : ℕ) → k < length letters
      → Keeps text (rows_written (p.line - 1) (length (left_of_cursor x)) (take k letters) was) (rows_written (p.line - 1) (length (left_of_cursor x)) (take (k + 1) letters) was)
  letter_keeps some ends k lt =
      first_keeps was (p.line - 1) (left_of_cursor x) olds post letters inside was_there (sym olds_length) text k lt some
      (λ begun j low one other. run.apart k begun lt j low one (other ∙ old_at (cursor_row x) before (length letters) run.over k lt))
      ends

  stays_here : 0 < length text → EndsLeft text x → StaysOn text x bytes n
  stays_here some ends k lt =
      let c = length (front k) in
      let c' = length (front (k + 1)) in
      let more = count_more charset bytes letters k (omega (arith, lt, run.within)) (is_front k (omega (arith, lt))) in
      let rows = λ (ls : List ℕ). rows_written (p.line - 1) (length (left_of_cursor x)) ls was in
      let one : rows_behind x bytes k ≡ rows (take c letters) = front_there k (omega (arith, lt)) ∙ ap rows (front_is k (omega (arith, lt))) in
      let other : rows_behind x bytes (k + 1) ≡ rows (take c' letters) = front_there (k + 1) (omega (arith, lt)) ∙ ap rows (front_is (k + 1) (omega (arith, lt))) in
      elim (cases_eq c' c) [
        | inl e ↦ keeps_same text (rows_behind x bytes k) (rows_behind x bytes (k + 1)) (one ∙ ap (λ m. rows (take m letters)) (sym e) ∙ sym other)
        | inr ne ↦
            let next : c' ≡ c + 1 = omega (arith, more.0, more.1, ne) in
            subst (λ r. Keeps text r (rows_behind x bytes (k + 1))) (sym one)
            (subst (λ r. Keeps text (rows (take c letters)) r) (sym (other ∙ ap (λ m. rows (take m letters)) next))
            (letter_keeps some ends c (omega (arith, next, front_low (k + 1) (omega (arith, lt))))))
      ]

-- it is a run of the term that shows the picture
run_shown : (charset : CharacterSet) (x : Term) (p : Picture) (row : List Cell) (before : ℕ) (text bytes letters : List ℕ) (n : ℕ) → p ≡ x.console.picture
    → IsRun charset p row before text bytes letters n → IsRun charset x.console.picture (cursor_row x) before text bytes letters n
run_shown charset x p row before text bytes letters n same run =
    let here : row ≡ cursor_row x = run.is ∙ ap (λ (q : Picture). row_at q.rows q.line) same in
    subst (λ r. IsRun charset x.console.picture r before text bytes letters n) here (subst (λ (q : Picture). IsRun charset q row before text bytes letters n) same run)

pub run_stays : (charset : CharacterSet) (x : Term) (p : Picture) (row : List Cell) (before : ℕ) (text bytes letters : List ℕ) (n : ℕ) → p ≡ x.console.picture → WritesStyled charset x
    → IsRun charset p row before text bytes letters n → 0 < length text → EndsLeft text x → StaysOn text x bytes n
run_stays charset x p row before text bytes letters n same writes run = stays_here charset x before text bytes letters n writes (run_shown charset x p row before text bytes letters n same run)

pub run_written : (charset : CharacterSet) (x : Term) (p : Picture) (row : List Cell) (before : ℕ) (text bytes letters : List ℕ) (n : ℕ) → p ≡ x.console.picture → WritesStyled charset x
    → IsRun charset p row before text bytes letters n → WritesOver x bytes letters n
run_written charset x p row before text bytes letters n same writes run = written_here charset x before text bytes letters n writes (run_shown charset x p row before text bytes letters n same run)
