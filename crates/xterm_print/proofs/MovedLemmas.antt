-- Rows that are read where all lines move up by one.
use Rattle.std.proofs.Common.{◌≡◌, ℕ, ◌+◌, ◌-◌, ◌<◌, ◌≤◌, true, false, List, [], ◌∷◌, ◌++◌, add-one, ap, ap₂, arith, drop, inl, inr, length, map, refl, replicate, sym, take, ◌∙◌, nat_le, not, ◌||◌}
use Rattle.std.specs.List.{flat_map, range_with_len}
use Rattle.std.proofs.lemmas.Bool.{cases_lt, le-leb, lt-leb}
use Rattle.std.proofs.lemmas.List.{get_or-append_right, get_or-drop, get_or_append_left, length-append, length-drop}
use Rattle.std.proofs.lemmas.List.FromFn.{get_or-map-range_with_len, length-map-range_with_len, length-range_with_len}
use Rattle.sheet.specs.Cells.{Cell, blank, is_covered, is_wide}
use Rattle.sheet.specs.Grid.{blank_row, row_at, scrolled_up}
use Rattle.sheet.specs.Table.{nth, table}
use Rattle.sheet.specs.declared.rendition.Colour.{Colour}
use Rattle.standings.specs.Moved.{moved_up, spaces_row}
use Rattle.standings.specs.Rows.{Row, empty_row, row_below}
use Rattle.standings.proofs.SpanLemmas.{same_rows}
use Rattle.xterm_rows.specs.RowText.{characters, is_space}
use Rattle.xterm_rows.specs.Runs.{cell_behind}
use Rattle.xterm_screen.specs.Picture.{Sound}
use Rattle.xterm_term.specs.Ahead.{MovesUp}
use Rattle.xterm_term.specs.Term.{Term, play}
use Rattle.xterm_print.specs.FindRows.{columns_from, ends_in_space, kept_cells, leaves_last, row_read, rows_read}
use Rattle.xterm_print.specs.Pieces.{rows_behind}
use Rattle.xterm_print.proofs.FindRowLemmas.{count_read, no_row, read_at}

-- ---- a row above others

-- a row is read alike above two that begin with a wide character or don't
read_above : (row one other : List Cell) → is_wide (cell_behind one 0) ≡ is_wide (cell_behind other 0) → row_read row one ≡ row_read row other
unfolding row_read kept_cells leaves_last
read_above row one other same = rw same refl

-- ---- a blank row, whatever its paper

module _ (paper : Colour) where
  characters_is : characters (blank paper) ≡ 32 ∷ []
  unfolding characters blank is_covered
  characters_is = refl

  is_one : is_space (blank paper) ≡ true
  unfolding is_space blank is_covered
  is_one = refl

  is_narrow : is_wide (blank paper) ≡ false
  unfolding is_wide blank
  is_narrow = refl

  characters_in : (ns : List ℕ) → flat_map characters (map (λ _. blank paper) ns) ≡ replicate (length ns) 32
  characters_in [] = refl
  characters_in (n ∷ ns) = ap₂ (λ a b. a ++ b) characters_is (characters_in ns)

  columns_in : (column : ℕ) (ns : List ℕ) → columns_from column (map (λ _. blank paper) ns) ≡ range_with_len column (length ns)
  columns_in column [] = refl
  columns_in column (n ∷ ns) = ap₂ (λ a b. map (λ _. column) a ++ b) characters_is (columns_in (column + 1) ns)

  module _ (columns : ℕ) (some : 1 ≤ columns) where
    abbrev row : List Cell
    row = blank_row columns paper

    long : length row ≡ columns
    unfolding table
    long = length-map-range_with_len (λ _. blank paper) 1 columns

    cell_in : (k : ℕ) → k < columns → cell_behind row k ≡ blank paper
    unfolding table
    cell_in k lt =
        let next : 1 + k ≡ k + 1 = omega arith in
        get_or-map-range_with_len (λ _. blank paper) 1 columns k (k + 1) (blank _) lt next

    space_in : (k : ℕ) → k < columns → is_space (cell_behind row k) ≡ true
    space_in k lt = ap is_space (cell_in k lt) ∙ is_one

    begins_narrow : is_wide (cell_behind row 0) ≡ is_wide (cell_behind [] 0)
    unfolding is_wide blank
    begins_narrow = ap is_wide (cell_in 0 (omega (arith, some))) ∙ refl

    ends : ends_in_space row ≡ true
    ends = space_in (length row - 1) (omega (arith, long, some))

    stays : (next : List Cell) → leaves_last row next ≡ false
    unfolding leaves_last
    stays next =
        let second = space_in (length row - 2) (omega (arith, long, some)) in
        rw (ends, second) refl

    kept : (next : List Cell) → kept_cells row next ≡ row
    unfolding kept_cells
    kept next = rw (stays next) refl

    characters_of : flat_map characters row ≡ replicate columns 32
    unfolding table
    characters_of = characters_in (range_with_len 1 columns) ∙ ap (λ n. replicate n 32) (length-range_with_len 1 columns)

    columns_of : columns_from 1 row ≡ range_with_len 1 columns
    unfolding table
    columns_of = columns_in 1 (range_with_len 1 columns) ∙ ap (range_with_len 1) (length-range_with_len 1 columns)

    runs_on : (next : List Cell) → (not (ends_in_space row) || leaves_last row next) ≡ false
    runs_on next = ap₂ (λ a b. not a || b) ends (stays next)

    -- it is read as spaces, whatever row is next
    pub spaces_read : (next : List Cell) → row_read row next ≡ spaces_row columns
    unfolding row_read
    spaces_read next =
        ap (λ cells. record { characters = flat_map characters cells; columns = columns_from 1 cells; runs_on = not (ends_in_space row) || leaves_last row next }) (kept next)
        ∙ ap (λ l. record { characters = l; columns = columns_from 1 row; runs_on = not (ends_in_space row) || leaves_last row next }) characters_of
        ∙ ap (λ l. record { characters = replicate columns 32; columns = l; runs_on = not (ends_in_space row) || leaves_last row next }) columns_of
        ∙ ap (λ b. record { characters = replicate columns 32; columns = range_with_len 1 columns; runs_on = b }) (runs_on next)

-- ---- rows that move up

-- the last of the rows that move up is one of spaces, each other one the next
module _ (columns : ℕ) (rows : List Row) (some : 1 ≤ length rows) where
  next_long : length (drop 1 rows) + 1 ≡ length rows
  next_long = omega (arith, length-drop 1 rows, some)

  pub moved_next : (k : ℕ) → k + 1 < length rows → row_below (moved_up columns rows) k ≡ row_below rows (k + 1)
  moved_next k lt =
      let there : 1 + k ≡ k + 1 = omega arith in
      get_or_append_left (drop 1 rows) (spaces_row columns ∷ []) empty_row k (omega (arith, next_long, lt)) ∙ get_or-drop 1 rows k empty_row ∙ ap (row_below rows) there

  pub moved_last : (k : ℕ) → k + 1 ≡ length rows → row_below (moved_up columns rows) k ≡ spaces_row columns
  moved_last k is =
      let here : length (drop 1 rows) ≡ k = omega (arith, next_long, is) in
      let none : k - k ≡ 0 = omega arith in
      get_or-append_right (drop 1 rows) (spaces_row columns ∷ []) k k empty_row here (omega arith) ∙ ap (λ n. row_below (spaces_row columns ∷ []) n) none

  pub moved_up_long : length (moved_up columns rows) ≡ length rows
  moved_up_long = length-append (drop 1 rows) (spaces_row columns ∷ []) ∙ next_long

-- ---- all lines

-- the row of a line of a list of so many
pub row_in : (n : ℕ) (f : ℕ → List Cell) (k : ℕ) → k < n → row_at (table n f) (k + 1) ≡ f (k + 1)
unfolding nth table
row_in n f k lt =
    let next : 1 + k ≡ k + 1 = omega arith in
    ap (nth [] (map f (range_with_len 1 n))) (add-one k) ∙ get_or-map-range_with_len f 1 n k (k + 1) [] lt next

module _ (paper : Colour) (columns lines : ℕ) (rows : List (List Cell)) (wide : 1 ≤ columns) (some : 1 ≤ lines) (count : length rows ≡ lines) where
  abbrev moved : List (List Cell)
  moved = scrolled_up 1 1 lines (blank_row columns paper) rows

  moved_long : length moved ≡ lines
  unfolding table
  moved_long = length-map-range_with_len _ 1 (length rows) ∙ count

  -- the row of each line but the last is that of the next one
  row_next : (k : ℕ) → k + 1 < lines → row_at moved (k + 1) ≡ row_at rows (k + 1 + 1)
  row_next k lt =
      let low : nat_le 1 (k + 1) ≡ true = le-leb 1 (k + 1) (omega arith) in
      let high : nat_le (k + 1) lines ≡ true = le-leb (k + 1) lines (omega (arith, lt)) in
      let next : nat_le (k + 1 + 1) lines ≡ true = le-leb (k + 1 + 1) lines (omega (arith, lt)) in
      row_in (length rows) _ k (omega (arith, count, lt)) ∙ rw (low, high, next) refl

  -- that of the last one is blank
  row_last : (k : ℕ) → k + 1 ≡ lines → row_at moved (k + 1) ≡ blank_row columns paper
  row_last k is =
      let low : nat_le 1 (k + 1) ≡ true = le-leb 1 (k + 1) (omega arith) in
      let high : nat_le (k + 1) lines ≡ true = le-leb (k + 1) lines (omega (arith, is)) in
      let next : nat_le (k + 1 + 1) lines ≡ false = lt-leb (k + 1 + 1) lines (omega (arith, is)) in
      row_in (length rows) _ k (omega (arith, count, is)) ∙ rw (low, high, next) refl

  -- so each is read as the next one was
  read_next : (k : ℕ) → k + 1 < lines → row_read (row_at moved (k + 1)) (row_at moved (k + 1 + 1)) ≡ row_read (row_at rows (k + 1 + 1)) (row_at rows (k + 1 + 1 + 1))
  read_next k lt =
      ap (λ r. row_read r (row_at moved (k + 1 + 1))) (row_next k lt) ∙ elim (cases_lt (k + 1 + 1) lines) [
        | inl more ↦ ap (row_read (row_at rows (k + 1 + 1))) (row_next (k + 1) more)
        | inr last ↦
            let is : k + 1 + 1 ≡ lines = omega (arith, lt, last) in
            ap (row_read (row_at rows (k + 1 + 1))) (row_last (k + 1) is)
            ∙ read_above (row_at rows (k + 1 + 1)) (blank_row columns paper) [] (begins_narrow paper columns wide)
            ∙ ap (row_read (row_at rows (k + 1 + 1))) (sym (no_row rows (k + 1 + 1) (omega (arith, count, is))))
      ]

  abbrev was : List Row
  was = rows_read lines rows

  was_long : length was ≡ lines
  was_long = count_read lines rows

  some_read : 1 ≤ length was
  some_read = omega (arith, was_long, some)

  moved_count : length (moved_up columns was) ≡ lines
  moved_count = moved_up_long columns was some_read ∙ was_long

  -- each row that is read is the next one of before
  up_next : (k : ℕ) → k + 1 < lines → row_below (moved_up columns was) k ≡ row_read (row_at rows (k + 1 + 1)) (row_at rows (k + 1 + 1 + 1))
  up_next k lt =
      let there : k + 1 + 1 - 1 ≡ k + 1 = omega arith in
      moved_next columns was some_read k (omega (arith, was_long, lt))
      ∙ ap (row_below was) (sym there) ∙ read_at lines rows (k + 1 + 1) (omega arith) (omega (arith, lt))

  up_last : (k : ℕ) → k + 1 ≡ lines → row_below (moved_up columns was) k ≡ spaces_row columns
  up_last k is = moved_last columns was some_read k (is ∙ sym was_long)

  read_last : (k : ℕ) → k + 1 ≡ lines → row_read (row_at moved (k + 1)) (row_at moved (k + 1 + 1)) ≡ spaces_row columns
  read_last k is =
      ap (λ r. row_read r (row_at moved (k + 1 + 1))) (row_last k is) ∙ ap (row_read (blank_row columns paper)) (no_row moved (k + 1) (omega (arith, moved_long, is)))
      ∙ spaces_read paper columns wide []

  pub rows_moved : rows_read lines moved ≡ moved_up columns (rows_read lines rows)
  rows_moved = same_rows (moved_up columns was) (rows_read lines moved) (count_read lines moved ∙ sym moved_count) (λ k lt.
      let here : k + 1 - 1 ≡ k = omega arith in
      let within : k + 1 ≤ lines = omega (arith, lt, moved_count) in
      ap (row_below (rows_read lines moved)) (sym here) ∙ read_at lines moved (k + 1) (omega arith) within ∙ elim (cases_lt (k + 1) lines) [
        | inl more ↦ read_next k more ∙ sym (up_next k more)
        | inr last ↦
            let is : k + 1 ≡ lines = omega (arith, within, last) in
            read_last k is ∙ sym (up_last k is)
      ])

-- ---- the rows that a finder tells of

pub nothing : (x : Term) → play x [] ≡ x
unfolding play
nothing x = refl

pub moved_behind : (x : Term) (bytes : List ℕ) (byte : ℕ) → take 1 bytes ≡ byte ∷ [] → Sound x.console.picture → MovesUp x byte
    → rows_behind x bytes 1 ≡ moved_up x.console.picture.columns (rows_behind x bytes 0)
moved_behind x bytes byte first sound moves =
    let p = x.console.picture in
    ap (λ b. rows_read p.lines (play x b).console.picture.rows) first ∙ ap (rows_read p.lines) moves
    ∙ rows_moved x.console.rendition.paper p.columns p.lines p.rows (omega (arith, sound.columns_low)) sound.lines_low sound.rows
    ∙ ap (λ (y : Term). moved_up p.columns (rows_read p.lines y.console.picture.rows)) (sym (nothing x))

pub behind_some : (x : Term) (bytes : List ℕ) → Sound x.console.picture → 0 < length (rows_behind x bytes 0)
behind_some x bytes sound = omega (arith, count_read x.console.picture.lines (play x []).console.picture.rows, sound.lines_low)
