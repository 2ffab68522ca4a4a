-- Rows that are read, a row, a cell and a character more.
use Rattle.std.proofs.Common.{◌≡◌, ℕ, suc, ◌+◌, ◌-◌, ◌<◌, ◌≤◌, false, List, [], ◌∷◌, ◌++◌, append_assoc, append-nil, drop, get_or, inl, inr, length, map, min, set, subst, take, ap, ap₂, sym, ◌∙◌, add-one, arith, refl, replicate}
use Rattle.std.specs.List.{flat_map, range_with_len}
use Rattle.std.proofs.lemmas.Bool.{cases_Bool, cases_lt}
use Rattle.std.proofs.lemmas.List.{ext_get_or, get_or-append-add, get_or-drop, get_or-map, get_or-take, get_or_append_left, get_or_default, get_or_past, length-append, length-drop, length-map, length-take, length-take-le, map-append, same_lists, take-append-drop, take_more, take_more_set}
use Rattle.sheet.specs.declared.rendition.Colour.TheVariants.{Default}
use Rattle.std.proofs.Math.Seq.{take-add}
use Rattle.std.proofs.lemmas.List.Concat.{flat_map-append}
use Rattle.std.proofs.lemmas.List.FromFn.{get_or-map-range_with_len, length-map-range_with_len}
use Rattle.sheet.specs.Cells.{Cell, blank, is_covered}
use Rattle.sheet.specs.Grid.{IsUsed, row_at}
use Rattle.sheet.specs.Table.{nth, table}
use Rattle.xterm_rows.specs.RowText.{characters}
use Rattle.xterm_rows.proofs.RangeLemmas.{range_split}
use Rattle.standings.specs.Rows.{empty_row, row_below}
use Rattle.xterm_print.proofs.PlainLemmas.{rest_whole}
use Rattle.xterm_print.specs.Pieces.{BlankFrom, IsPlain}
use Rattle.xterm_print.specs.FindRows.{columns_from, heeds_next, kept_cells, leaves_last, row_read, rows_read}

-- a row more
pub table_more : {X : Type 0} (f : ℕ → X) (n line : ℕ) → line ≡ n + 1 → table line f ≡ table n f ++ f line ∷ []
unfolding table
table_more f n line is =
    let next : 1 + n ≡ line = omega arith in
    ap (λ k. map f (range_with_len 1 k)) is ∙ ap (map f) (range_split 1 n 1)
    ∙ map-append f (range_with_len 1 n) ((1 + n) ∷ []) ∙ ap (λ k. map f (range_with_len 1 n) ++ f k ∷ []) next

pub table_none : {X : Type 0} (f : ℕ → X) (n : ℕ) → n ≡ 0 → table n f ≡ []
unfolding table
table_none f n none = ap (λ k. map f (range_with_len 1 k)) none

-- behind the last row stands none
pub no_row : (rows : List (List Cell)) (line : ℕ) → length rows ≤ line → row_at rows (line + 1) ≡ []
unfolding nth
no_row rows line past = ap (nth [] rows) (add-one line) ∙ get_or_past rows line [] past

-- the columns of cells in two parts
columns_append : (column : ℕ) (cells more : List Cell) → columns_from column (cells ++ more) ≡ columns_from column cells ++ columns_from (column + length cells) more
columns_append column [] more = let same : column ≡ column + 0 = omega arith in ap (λ n. columns_from n more) same
columns_append column (cell ∷ cells) more =
    let here = map (λ _. column) (characters cell) in
    let there : column + 1 + length cells ≡ column + suc (length cells) = omega arith in
    ap (λ l. here ++ l) (columns_append (column + 1) cells more)
    ∙ sym (append_assoc here (columns_from (column + 1) cells) (columns_from (column + 1 + length cells) more))
    ∙ ap (λ n. (here ++ columns_from (column + 1) cells) ++ columns_from n more) there

-- a cell more
pub columns_more : (column : ℕ) (cells : List Cell) (at : ℕ) (d : Cell) → at < length cells
    → columns_from column (take (at + 1) cells) ≡ columns_from column (take at cells) ++ map (λ _. column + at) (characters (get_or cells at d))
columns_more column cells at d lt =
    let here : column + length (take at cells) ≡ column + at = omega (arith, length-take at cells) in
    ap (columns_from column) (take_more cells at d lt) ∙ columns_append column (take at cells) (get_or cells at d ∷ [])
    ∙ ap (λ n. columns_from column (take at cells) ++ (map (λ _. n) (characters (get_or cells at d)) ++ [])) here
    ∙ ap (λ l. columns_from column (take at cells) ++ l) (append-nil (map (λ _. column + at) (characters (get_or cells at d))))

pub characters_more : (cells : List Cell) (at : ℕ) (d : Cell) → at < length cells
    → flat_map characters (take (at + 1) cells) ≡ flat_map characters (take at cells) ++ characters (get_or cells at d)
characters_more cells at d lt =
    ap (flat_map characters) (take_more cells at d lt) ∙ flat_map-append characters (take at cells) (get_or cells at d ∷ [])
    ∙ ap (λ l. flat_map characters (take at cells) ++ l) (append-nil (characters (get_or cells at d)))

-- a cell more without marks, whose character is written over another one
pub characters_over : (row : List ℕ) (cells : List Cell) (at : ℕ) (d : Cell) → at < length row → at < length cells → take at row ≡ flat_map characters (take at cells)
    → characters (get_or cells at d) ≡ (get_or cells at d).character ∷ []
    → take (at + 1) (set row at (get_or cells at d).character) ≡ flat_map characters (take (at + 1) cells)
characters_over row cells at d lt lt' so_far plain =
    let character = (get_or cells at d).character in
    take_more_set row at character lt ∙ ap (λ l. l ++ character ∷ []) so_far
    ∙ ap (λ l. flat_map characters (take at cells) ++ l) (sym plain) ∙ sym (characters_more cells at d lt')

pub columns_over : (row : List ℕ) (cells : List Cell) (at : ℕ) (d : Cell) → at < length row → at < length cells → take at row ≡ columns_from 1 (take at cells)
    → characters (get_or cells at d) ≡ (get_or cells at d).character ∷ [] → take (at + 1) (set row at (at + 1)) ≡ columns_from 1 (take (at + 1) cells)
columns_over row cells at d lt lt' so_far plain =
    let here : at + 1 ≡ 1 + at = omega arith in
    take_more_set row at (at + 1) lt ∙ ap (λ l. l ++ (at + 1) ∷ []) so_far
    ∙ ap (λ l. columns_from 1 (take at cells) ++ map (λ _. at + 1) l) (sym plain)
    ∙ ap (λ n. columns_from 1 (take at cells) ++ map (λ _. n) (characters (get_or cells at d))) here
    ∙ sym (columns_more 1 cells at d lt')

-- some cells more
pub columns_on : (cells : List Cell) (n m : ℕ) → n ≤ length cells
    → columns_from 1 (take n cells) ++ columns_from (n + 1) (take m (take (length cells - n) (drop n cells))) ≡ columns_from 1 (take (n + m) cells)
columns_on cells n m within =
    let here : n + 1 ≡ 1 + length (take n cells) = omega (arith, within, length-take-le n cells within) in
    ap (λ rest. columns_from 1 (take n cells) ++ columns_from (n + 1) (take m rest)) (rest_whole cells n)
    ∙ ap (λ k. columns_from 1 (take n cells) ++ columns_from k (take m (drop n cells))) here
    ∙ sym (ap (columns_from 1) (take-add n m cells) ∙ columns_append 1 (take n cells) (take m (drop n cells)))

-- ---- blank cells behind others

characters_blank : (cells : List Cell) → ((k : ℕ) → get_or cells k (blank Default) ≡ blank Default) → flat_map characters cells ≡ replicate (length cells) 32
unfolding characters is_covered blank
characters_blank [] blanks = refl
characters_blank (cell ∷ cells) blanks = ap₂ (λ a b. a ++ b) (ap characters (blanks 0)) (characters_blank cells (λ k. blanks (suc k)))

columns_blank : (column : ℕ) (cells : List Cell) → ((k : ℕ) → get_or cells k (blank Default) ≡ blank Default) → columns_from column cells ≡ range_with_len column (length cells)
unfolding characters is_covered blank
columns_blank column [] blanks = refl
columns_blank column (cell ∷ cells) blanks =
    ap₂ (λ a b. map (λ _. column) a ++ b) (ap characters (blanks 0)) (columns_blank (column + 1) cells (λ k. blanks (suc k)))

tail_blank : (cells : List Cell) (used : ℕ) → BlankFrom cells used → (k : ℕ) → get_or (drop used cells) k (blank Default) ≡ blank Default
tail_blank cells used tail k = get_or-drop used cells k (blank Default) ∙ tail (used + k) (omega arith)

pub characters_tail : (cells : List Cell) (used : ℕ) → BlankFrom cells used
    → flat_map characters (take used cells) ++ replicate (length cells - used) 32 ≡ flat_map characters cells
characters_tail cells used tail =
    ap (λ n. flat_map characters (take used cells) ++ replicate n 32) (sym (length-drop used cells))
    ∙ ap (λ l. flat_map characters (take used cells) ++ l) (sym (characters_blank (drop used cells) (tail_blank cells used tail)))
    ∙ sym (flat_map-append characters (take used cells) (drop used cells)) ∙ ap (flat_map characters) (take-append-drop used cells)

pub columns_tail : (cells : List Cell) (used : ℕ) → used ≤ length cells → BlankFrom cells used
    → columns_from 1 (take used cells) ++ range_with_len (used + 1) (length cells - used) ≡ columns_from 1 cells
columns_tail cells used within tail =
    let here : used + 1 ≡ 1 + length (take used cells) = omega (arith, within, length-take-le used cells within) in
    ap (λ n. columns_from 1 (take used cells) ++ range_with_len (used + 1) n) (sym (length-drop used cells))
    ∙ ap (λ l. columns_from 1 (take used cells) ++ l) (sym (columns_blank (used + 1) (drop used cells) (tail_blank cells used tail)))
    ∙ ap (λ k. columns_from 1 (take used cells) ++ columns_from k (drop used cells)) here
    ∙ sym (columns_append 1 (take used cells) (drop used cells)) ∙ ap (columns_from 1) (take-append-drop used cells)

-- ---- rows that are read again

-- how many rows are read, and each of them
pub count_read : (lines : ℕ) (rows : List (List Cell)) → length (rows_read lines rows) ≡ lines
unfolding rows_read table
count_read lines rows = length-map-range_with_len (λ line. row_read (row_at rows line) (row_at rows (line + 1))) 1 lines

pub read_at : (lines : ℕ) (rows : List (List Cell)) (line : ℕ) → 1 ≤ line → line ≤ lines
    → row_below (rows_read lines rows) (line - 1) ≡ row_read (row_at rows line) (row_at rows (line + 1))
unfolding rows_read table
read_at lines rows line low high =
    let within : line - 1 < lines = omega arith in
    let there : 1 + (line - 1) ≡ line = omega arith in
    get_or-map-range_with_len (λ k. row_read (row_at rows k) (row_at rows (k + 1))) 1 lines (line - 1) line empty_row within there

-- where a row heeds no next one, it is read the same above each
pub read_alike : (row one other : List Cell) → heeds_next row ≡ false → row_read row one ≡ row_read row other
unfolding row_read kept_cells leaves_last
read_alike row one other heeds =
    let left : (next : List Cell) → leaves_last row next ≡ false = λ next. rw heeds refl in
    rw (left one, left other) refl

-- where no row was touched all are the same
pub rows_untouched : (before now_ : List (List Cell)) → length before ≡ length now_ → ((line : ℕ) → 1 ≤ line → line ≤ length now_ → row_at now_ line ≡ row_at before line)
    → before ≡ now_
unfolding nth
rows_untouched before now_ long same = same_lists before now_ long (λ k d lt.
    let within : k < length now_ = omega (arith, long, lt) in
    get_or_default before k d [] lt ∙ sym (same (suc k) (omega arith) (omega (arith, within))) ∙ sym (get_or_default now_ k d [] within))

-- ---- rows of which only some cells are in use

-- what is blank behind so many cells is so without the last one too
pub blank_kept : (row next : List Cell) (used : ℕ) → IsUsed row used → BlankFrom (kept_cells row next) (min used (length (kept_cells row next)))
unfolding kept_cells nth
blank_kept row next used is = elim (cases_Bool (leaves_last row next)) [
  | inr f ↦ rw f (λ k past. is.tail (suc k) (omega (arith, past, is.within)))
  | inl t ↦ rw t (λ k past. elim (cases_lt k (length row - 1)) [
    | inl low ↦
        get_or-take (length row - 1) row k (blank Default) low
        ∙ is.tail (suc k) (omega (arith, past, low, length-take (length row - 1) row))
    | inr high ↦ get_or_past (take (length row - 1) row) k (blank Default) (omega (arith, high, length-take (length row - 1) row))
  ])
]

-- the characters of those in use, and spaces
pub letters_used : (cells : List Cell) (letters spaces : List ℕ) (used : ℕ) → used ≤ length cells → BlankFrom cells used → length spaces ≡ length cells
    → ((k : ℕ) → k < length spaces → get_or spaces k 0 ≡ 32) → letters ≡ map (λ (cell : Cell). cell.character) (take used cells)
    → letters ++ drop used spaces ≡ map (λ (cell : Cell). cell.character) cells
unfolding blank
letters_used cells letters spaces used within tail count blanks are =
    let own = λ (cell : Cell). cell.character in
    let long : length letters ≡ used = ap length are ∙ length-map (take used cells) own ∙ length-take-le used cells within in
    ext_get_or 0 (letters ++ drop used spaces) (map own cells)
    (omega (arith, length-append letters (drop used spaces), length-drop used spaces, long, count, within, length-map cells own))
    (λ k lt.
    let inside : k < length cells = omega (arith, lt, length-append letters (drop used spaces), length-drop used spaces, long, count, within) in
    elim (cases_lt k used) [
      | inl low ↦
          get_or_append_left letters (drop used spaces) 0 k (omega (arith, low, long)) ∙ ap (λ l. get_or l k 0) are
          ∙ get_or-map own (take used cells) k (blank Default) 0 (omega (arith, low, length-take-le used cells within))
          ∙ ap own (get_or-take used cells k (blank Default) low)
          ∙ sym (get_or-map own cells k (blank Default) 0 inside)
      | inr high ↦
          let parts : length letters + (k - used) ≡ k = omega (arith, long, high) in
          let there : used + (k - used) ≡ k = omega (arith, high) in
          ap (λ m. get_or (letters ++ drop used spaces) m 0) (sym parts)
          ∙ get_or-append-add letters (drop used spaces) (k - used) 0
          ∙ get_or-drop used spaces (k - used) 0 ∙ ap (λ m. get_or spaces m 0) there
          ∙ blanks k (omega (arith, inside, count))
          ∙ sym (get_or-map own cells k (blank Default) 0 inside ∙ ap own (tail k high))
    ])

-- and each cell is plain, where those in use are
pub plain_used : (cells : List Cell) (used : ℕ) → BlankFrom cells used → ((k : ℕ) → k < used → IsPlain (get_or cells k (blank Default)))
    → (k : ℕ) → IsPlain (get_or cells k (blank Default))
unfolding blank
plain_used cells used tail plain k = elim (cases_lt k used) [
  | inl low ↦ plain k low
  | inr high ↦ subst IsPlain (sym (tail k high)) (record { kind = refl; alone = refl })
]
