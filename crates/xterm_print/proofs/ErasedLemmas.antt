-- A row of which the rest is erased, and how it is read then.
use Rattle.std.proofs.Common.{◌≡◌, add-one, ℕ, zero, suc, ◌+◌, ◌-◌, ◌<◌, ◌≤◌, Bool, true, false, List, [], ◌∷◌, ◌++◌, append_assoc, cond, drop, get_or, get_or-set_other, get_or-set_same, length, map, replicate, set, take, refl, ap, ap₂, subst, sym, ◌∙◌, arith, inl, inr}
use Rattle.std.specs.Prelude.{◌&&◌, ◌||◌, ◌==◌, if◌then◌else◌, nat_le, not}
use Rattle.std.specs.List.{flat_map, range_with_len}
use Rattle.std.proofs.Math.Seq.{length-sets, sets}
use Rattle.std.proofs.lemmas.Bool.{cases_Bool, cases_eq, cases_lt}
use Rattle.std.proofs.lemmas.Bool.Decides.{nat_tests}
use Rattle.std.proofs.lemmas.List.{ext_get_or, get_or-replicate, get_or_past, length-append, length-map, length-replicate, length-set, length-take-le, take-append-le, take-map, take-take}
use Rattle.std.proofs.lemmas.List.FromFn.{get_or-map-range_with_len, length-map-range_with_len}
use Rattle.sheet.specs.declared.rendition.Colour.{Colour}
use Rattle.sheet.specs.declared.rendition.Colour.TheVariants.{Default}
use Rattle.sheet.specs.Cells.{Cell, blank, cell_at, is_covered, is_wide, plain_on}
use Rattle.sheet.specs.Edits.{erased, filled}
use Rattle.sheet.specs.Grid.{IsUsed, row_at, with_row}
use Rattle.sheet.specs.Halves.{Whole, is_half}
use Rattle.sheet.specs.Table.{nth, table}
use Rattle.standings.specs.Kept.{Keeps, room_in}
use Rattle.standings.specs.Rows.{Row, empty_row, row_below}
use Rattle.standings.specs.Standing.{begins, line_text}
use Rattle.standings.specs.Written.{row_written, rows_written}
use Rattle.standings.proofs.FrontLemmas.{IsRewritten, begins_before, leads, line_here, rewritten}
use Rattle.standings.proofs.KeptLemmas.{keeps_same, rows_keep}
use Rattle.standings.proofs.SpanLemmas.{line_below}
use Rattle.xterm_rows.specs.RowText.{characters, is_space}
use Rattle.xterm_rows.specs.Runs.{cell_behind}
use Rattle.xterm_screen.specs.Picture.{Picture, Sound}
use Rattle.xterm_term.specs.Ahead.{ErasesRight}
use Rattle.xterm_term.specs.Term.{Term, play}
use Rattle.xterm_term.proofs.Taken.{nothing_played}
use Rattle.xterm_print.specs.Erased.{IsErasable, IsErasableAt}
use Rattle.xterm_print.specs.FindRows.{columns_from, kept_cells, leaves_last, row_read, rows_read}
use Rattle.xterm_print.specs.Pieces.{BlankFrom, EndsLeft, IsPlain, StaysOn, WritesOver, left_of_cursor, rows_behind}
use Rattle.xterm_print.proofs.OverLemmas.{AreLetters, IsOver, characters_own, in_place, kept, left, old, old_length, plain_open, right, sets_outside}
use Rattle.xterm_print.proofs.PieceLemmas.{line_behind, row_behind}
use Rattle.xterm_print.proofs.RunLemmas.{cursor_row, over_written}

-- ---- cells without their renditions

abbrev bare : Cell → Cell
bare cell = record cell { rendition = plain_on Default }

bare_characters : (cell : Cell) → characters (bare cell) ≡ characters cell
unfolding characters is_covered
bare_characters cell = refl

bare_space : (cell : Cell) → is_space (bare cell) ≡ is_space cell
unfolding is_space is_covered
bare_space cell = refl

bare_wide : (cell : Cell) → is_wide (bare cell) ≡ is_wide cell
unfolding is_wide
bare_wide cell = refl

bare_blank : (paper : Colour) → bare (blank paper) ≡ blank Default
unfolding blank
bare_blank paper = refl

blank_plain : (paper : Colour) → IsPlain (blank paper)
unfolding blank
blank_plain paper = record { kind = refl; alone = refl }

blank_space : (paper : Colour) → (blank paper).character ≡ 32
unfolding blank
blank_space paper = refl

map_at : {X Y : Type 0} (f : X → Y) (xs : List X) (k : ℕ) (d : X) → get_or (map f xs) k (f d) ≡ f (get_or xs k d)
map_at f [] k d = refl
map_at f (x ∷ xs) zero d = refl
map_at f (x ∷ xs) (suc k) d = map_at f xs k d

bare_at : (row : List Cell) (k : ℕ) → cell_behind (map bare row) k ≡ bare (cell_behind row k)
bare_at row k = ap (get_or (map bare row) k) (sym (bare_blank Default)) ∙ map_at bare row k (blank Default)

flat_bare : (cells : List Cell) → flat_map characters (map bare cells) ≡ flat_map characters cells
flat_bare [] = refl
flat_bare (cell ∷ cells) = ap₂ (λ a b. a ++ b) (bare_characters cell) (flat_bare cells)

columns_bare : (column : ℕ) (cells : List Cell) → columns_from column (map bare cells) ≡ columns_from column cells
columns_bare column [] = refl
columns_bare column (cell ∷ cells) = ap₂ (λ a b. map (λ _. column) a ++ b) (bare_characters cell) (columns_bare (column + 1) cells)

space_from_end : (row : List Cell) (j : ℕ) → is_space (cell_behind (map bare row) (length (map bare row) - j)) ≡ is_space (cell_behind row (length row - j))
space_from_end row j =
    ap (λ n. is_space (cell_behind (map bare row) (n - j))) (length-map row bare)
    ∙ ap is_space (bare_at row (length row - j)) ∙ bare_space (cell_behind row (length row - j))

leaves_bare : (row next : List Cell) → leaves_last (map bare row) (map bare next) ≡ leaves_last row next
unfolding leaves_last
leaves_bare row next =
    ap₂ (λ a b. a && not b && is_wide (cell_behind (map bare next) 0)) (space_from_end row 1) (space_from_end row 2)
    ∙ ap (λ w. is_space (cell_behind row (length row - 1)) && not (is_space (cell_behind row (length row - 2))) && w)
    (ap is_wide (bare_at next 0) ∙ bare_wide (cell_behind next 0))

kept_bare : (row next : List Cell) → kept_cells (map bare row) (map bare next) ≡ map bare (kept_cells row next)
unfolding kept_cells
kept_bare row next =
    let same = leaves_bare row next in
    elim (cases_Bool (leaves_last row next)) [
      | inl t ↦ rw (same, t) (ap (λ n. take (n - 1) (map bare row)) (length-map row bare) ∙ take-map bare (length row - 1) row)
      | inr f ↦ rw (same, f) refl
    ]

row_bare : (row next : List Cell) → row_read (map bare row) (map bare next) ≡ row_read row next
unfolding row_read
row_bare row next =
    let cells = kept_cells row next in
    ap₂ (λ l r. record { characters = flat_map characters l; columns = columns_from 1 l; runs_on = r }) (kept_bare row next)
    (ap₂ (λ a b. not a || b) (space_from_end row 1) (leaves_bare row next))
    ∙ ap₂ (λ a b. record { characters = a; columns = b; runs_on = (row_read row next).runs_on }) (flat_bare cells) (columns_bare 1 cells)

line_bare : (rows : List (List Cell)) (line : ℕ) → row_at (map (map bare) rows) line ≡ map bare (row_at rows line)
unfolding nth
line_bare rows zero = refl
line_bare rows (suc k) = map_at (map bare) rows k []

map_same : {Y : Type 0} (g h : ℕ → Y) (ks : List ℕ) → ((k : ℕ) → g k ≡ h k) → map g ks ≡ map h ks
map_same g h [] same = refl
map_same g h (k ∷ ks) same = ap₂ (λ a b. a ∷ b) (same k) (map_same g h ks same)

rows_bare : (lines : ℕ) (rows : List (List Cell)) → rows_read lines (map (map bare) rows) ≡ rows_read lines rows
unfolding rows_read table
rows_bare lines rows = map_same _ _ (range_with_len 1 lines) (λ k.
    ap₂ row_read (line_bare rows k) (line_bare rows (k + 1)) ∙ row_bare (row_at rows k) (row_at rows (k + 1)))

maps_alike : {X Y : Type 0} (f : X → Y) (g h : ℕ → X) (ks : List ℕ) → ((k : ℕ) → f (g k) ≡ f (h k)) → map f (map g ks) ≡ map f (map h ks)
maps_alike f g h [] same = refl
maps_alike f g h (k ∷ ks) same = ap₂ (λ a b. a ∷ b) (same k) (maps_alike f g h ks same)

with_bare : (at : ℕ) (one other : List Cell) (rows : List (List Cell)) → map bare one ≡ map bare other
    → map (map bare) (with_row at one rows) ≡ map (map bare) (with_row at other rows)
unfolding table
with_bare at one other rows same =
    maps_alike (map bare) (λ line. if line == at then one else row_at rows line) (λ line. if line == at then other else row_at rows line) (range_with_len 1 (length rows))
    (λ line. chosen (line == at) (row_at rows line))
  where
    chosen : (b : Bool) (row : List Cell) → map bare (if b then one else row) ≡ map bare (if b then other else row)
    chosen true row = same
    chosen false row = refl

-- rows that differ in renditions alone are read alike
rows_alike : (lines at : ℕ) (one other : List Cell) (rows : List (List Cell)) → map bare one ≡ map bare other
    → rows_read lines (with_row at one rows) ≡ rows_read lines (with_row at other rows)
rows_alike lines at one other rows same =
    sym (rows_bare lines (with_row at one rows)) ∙ ap (rows_read lines) (with_bare at one other rows same) ∙ rows_bare lines (with_row at other rows)

-- ---- elements that are written over others

sets_low : {X : Type 0} (vs xs : List X) (i j : ℕ) (d : X) → j < i → get_or (sets xs i vs) j d ≡ get_or xs j d
sets_low [] xs i j d low = refl
sets_low (v ∷ vs) xs i j d low = sets_low vs (set xs i v) (suc i) j d (omega arith) ∙ get_or-set_other xs i j v d (λ e. omega arith)

sets_in : {X : Type 0} (vs xs : List X) (i m : ℕ) (d : X) → i + length vs ≤ length xs → m < length vs → get_or (sets xs i vs) (i + m) d ≡ get_or vs m d
sets_in [] xs i m d room lt = absurd (omega (arith, lt))
sets_in (v ∷ vs) xs i zero d room lt =
    let here : i + 0 ≡ i = omega arith in
    ap (λ j. get_or (sets (set xs i v) (suc i) vs) j d) here ∙ sets_low vs (set xs i v) (suc i) i d (omega arith) ∙ get_or-set_same xs i v d (omega arith)
sets_in (v ∷ vs) xs i (suc m) d room lt =
    let next : i + suc m ≡ suc i + m = omega arith in
    ap (λ j. get_or (sets (set xs i v) (suc i) vs) j d) next ∙ sets_in vs (set xs i v) (suc i) m d (omega (arith, length-set xs i v)) (omega arith)

-- ---- lists that are told by number

table_there : {X : Type 0} (d : X) (n : ℕ) (f : ℕ → X) (k : ℕ) → 1 ≤ k → k ≤ n → nth d (table n f) k ≡ f k
unfolding nth table
table_there d n f zero low high = absurd (omega (arith, low))
table_there d n f (suc j) low high = get_or-map-range_with_len f 1 n j (suc j) d (omega arith) (omega arith)

table_long : {X : Type 0} (n : ℕ) (f : ℕ → X) → length (table n f) ≡ n
unfolding table
table_long n f = length-map-range_with_len f 1 n

first_cell : (row : List Cell) → cell_at row 0 ≡ blank Default
unfolding nth
first_cell row = refl

next_cell : (row : List Cell) (k : ℕ) → cell_at row (k + 1) ≡ cell_behind row k
unfolding nth
next_cell row k = rw add-one refl

cell_past : (row : List Cell) (k : ℕ) → length row < k → cell_at row k ≡ blank Default
unfolding nth
cell_past row zero past = refl
cell_past row (suc j) past = get_or_past row j (blank Default) (omega arith)

blank_open : (paper : Colour) → is_covered (blank paper) ≡ false
unfolding is_covered blank
blank_open paper = refl

blank_narrow : (paper : Colour) → is_wide (blank paper) ≡ false
unfolding is_wide blank
blank_narrow paper = refl

-- what stands at a place of a row whose halves are mended
abbrev mended_at : Colour → List Cell → ℕ → Cell
mended_at paper row k = if is_half (cell_at row (k - 1)) (cell_at row k) (cell_at row (k + 1)) then blank paper else cell_at row k

mended_here : (paper : Colour) (before cell after : Cell) → is_covered cell ≡ is_wide before → is_covered after ≡ is_wide cell
    → (if is_half before cell after then blank paper else cell) ≡ cell
mended_here paper before cell after left right = grind (arith, nat_tests)

-- ---- a row of which the rest is erased

module _ (row : List Cell) (before count : ℕ) (paper : Colour) (is : IsErasable row before count) where
  plain_behind : (k : ℕ) → before ≤ k → IsPlain (cell_behind row k)
  plain_behind k low = elim (cases_lt k (before + count)) [
    | inl inside ↦
        let there : before + (k - before) ≡ k = omega (arith, low) in
        subst (λ m. IsPlain (cell_behind row m)) there (is.plain (k - before) (omega (arith, low, inside)))
    | inr past ↦ subst IsPlain (sym (is.tail k past)) (blank_plain Default)
  ]

  abbrev cleared : List Cell
  cleared = filled (before + 1) (length row) (blank paper) row

  cleared_there : (k : ℕ) → 1 ≤ k → k ≤ length row → cell_at cleared k ≡ (if nat_le (before + 1) k && nat_le k (length row) then blank paper else cell_at row k)
  cleared_there k low high =
      table_there (blank Default) (length row) (λ j. if nat_le (before + 1) j && nat_le j (length row) then blank paper else cell_at row j) k low high

  cleared_long : length cleared ≡ length row
  cleared_long = table_long (length row) _

  cleared_left : (k : ℕ) → k ≤ before → cell_at cleared k ≡ cell_at row k
  cleared_left k low = elim (cases_lt 0 k) [
    | inl begun ↦ cleared_there k (omega arith) (omega (arith, is.room)) ∙ grind (arith, nat_tests)
    | inr none ↦ let zero_ : k ≡ 0 = omega arith in ap (cell_at cleared) zero_ ∙ first_cell cleared ∙ sym (first_cell row) ∙ ap (cell_at row) (sym zero_)
  ]

  cleared_right : (k : ℕ) → before < k → k ≤ length row → cell_at cleared k ≡ blank paper
  cleared_right k low high = cleared_there k (omega arith) high ∙ grind (arith, nat_tests)

  cleared_past : (k : ℕ) → length row < k → cell_at cleared k ≡ blank Default
  cleared_past k past = cell_past cleared k (omega (arith, past, cleared_long))

  open_right : (k : ℕ) → before < k → is_covered (cell_at cleared k) ≡ false
  open_right k low = elim (cases_lt (length row) k) [
    | inl past ↦ ap is_covered (cleared_past k past) ∙ blank_open Default
    | inr within ↦ ap is_covered (cleared_right k low within) ∙ blank_open paper
  ]

  narrow_from : (k : ℕ) → before ≤ k → is_wide (cell_at cleared k) ≡ false
  narrow_from k low = elim (cases_eq k before) [
    | inl e ↦
        ap is_wide (cleared_left k (omega (arith, e))) ∙ sym (is.whole k) ∙ ap is_covered (next_cell row k)
        ∙ plain_open (cell_behind row k) (plain_behind k low)
    | inr ne ↦ elim (cases_lt (length row) k) [
      | inl past ↦ ap is_wide (cleared_past k past) ∙ blank_narrow Default
      | inr within ↦ ap is_wide (cleared_right k (omega (arith, low, ne)) within) ∙ blank_narrow paper
    ]
  ]

  cleared_whole : Whole cleared
  cleared_whole k = elim (cases_lt k before) [
    | inl low ↦ ap is_covered (cleared_left (k + 1) (omega arith)) ∙ is.whole k ∙ sym (ap is_wide (cleared_left k (omega arith)))
    | inr high ↦ open_right (k + 1) (omega arith) ∙ sym (narrow_from k high)
  ]

  abbrev rest_erased : List Cell
  rest_erased = erased (before + 1) (length row) paper row

  erased_long : length rest_erased ≡ length row
  erased_long = table_long (length cleared) _ ∙ cleared_long

  erased_at : (k : ℕ) → k < length row → cell_behind rest_erased k ≡ cell_at cleared (k + 1)
  erased_at k lt =
      let right = cleared_whole (k + 1) in
      let left = cleared_whole k in
      let back : k + 1 - 1 ≡ k = omega arith in
      sym (next_cell rest_erased k)
      ∙ table_there (blank Default) (length cleared) (mended_at paper cleared) (k + 1) (omega arith) (omega (arith, lt, cleared_long))
      ∙ ap (λ m. if is_half (cell_at cleared m) (cell_at cleared (k + 1)) (cell_at cleared (k + 1 + 1)) then blank paper else cell_at cleared (k + 1)) back
      ∙ mended_here paper (cell_at cleared k) (cell_at cleared (k + 1)) (cell_at cleared (k + 1 + 1)) left right

  -- it is one on which spaces are written, but for renditions
  abbrev cells : List Cell
  cells = replicate count (blank Default)

  abbrev spaces : List ℕ
  spaces = replicate count 32

  cells_within : before + length cells ≤ length row
  cells_within = omega (arith, is.room, length-replicate count (blank Default))

  written_blank : (k : ℕ) → before ≤ k → cell_behind (sets row before cells) k ≡ blank Default
  written_blank k low = elim (cases_lt k (before + count)) [
    | inl inside ↦
        let there : before + (k - before) ≡ k = omega (arith, low) in
        ap (cell_behind (sets row before cells)) (sym there)
        ∙ sets_in cells row before (k - before) (blank Default) cells_within (omega (arith, low, inside, length-replicate count (blank Default)))
        ∙ get_or-replicate count (k - before) (blank Default) (blank Default) (omega (arith, low, inside))
    | inr past ↦ sets_outside cells row before k (blank Default) (omega (arith, past, length-replicate count (blank Default))) ∙ is.tail k past
  ]

  bare_there : (k : ℕ) → k < length row → bare (cell_behind rest_erased k) ≡ bare (cell_behind (sets row before cells) k)
  bare_there k lt = elim (cases_lt k before) [
    | inl low ↦
        ap bare (erased_at k lt ∙ cleared_left (k + 1) (omega (arith, low)) ∙ next_cell row k ∙ sym (sets_low cells row before k (blank Default) low))
    | inr high ↦
        ap bare (erased_at k lt ∙ cleared_right (k + 1) (omega (arith, high)) (omega (arith, lt)))
        ∙ bare_blank paper ∙ sym (ap bare (written_blank k high) ∙ bare_blank Default)
  ]

  bare_same : map bare rest_erased ≡ map bare (sets row before cells)
  bare_same =
      let long = length-map rest_erased bare ∙ erased_long in
      ext_get_or (blank Default) (map bare rest_erased) (map bare (sets row before cells))
      (long ∙ sym (length-map (sets row before cells) bare ∙ length-sets row before cells))
      (λ k lt. bare_at rest_erased k ∙ bare_there k (omega (arith, lt, long)) ∙ sym (bare_at (sets row before cells) k))

  letters_there : AreLetters spaces cells
  letters_there = record {
    plain = λ k lt. subst IsPlain (sym (get_or-replicate count k (blank Default) (blank Default) (omega (arith, lt, length-replicate count (blank Default))))) (blank_plain Default);
    are = spelled count;
  }
    where
      spelled : (n : ℕ) → map (λ (cell : Cell). cell.character) (replicate n (blank Default)) ≡ replicate n 32
      spelled zero = refl
      spelled (suc n) = ap₂ (λ a b. a ∷ b) (blank_space Default) (spelled n)

  over : IsOver row before (length spaces)
  over = record {
    room = omega (arith, is.room, length-replicate {A = ℕ} count 32);
    plain = λ k lt. is.plain k (omega (arith, lt, length-replicate {A = ℕ} count 32));
  }

-- it is so in a row of which only some cells are in use
pub blank_behind : (row : List Cell) (used end : ℕ) → IsUsed row used → used ≤ end → BlankFrom row end
blank_behind row used end is low = λ k past. sym (next_cell row k) ∙ is.tail (k + 1) (omega (arith, low, past))

pub erasable_at : (p q : Picture) (row : List Cell) (before count : ℕ) → p ≡ q → row ≡ row_at p.rows p.line → before ≡ p.column - 1 → length row ≡ p.columns
    → IsErasable row before count → IsErasableAt q count
erasable_at p q row before count same here at columns is =
    subst (λ r. IsErasableAt r count) same (record {
      columns = ap length (sym here) ∙ columns;
      row = subst (λ m. IsErasable (row_at p.rows p.line) m count) at (subst (λ r. IsErasable r before count) here is);
    })

-- the rows that are read then
erased_read : (rows : List (List Cell)) (lines at before count : ℕ) (paper : Colour) → length rows ≡ lines → 1 ≤ at → at ≤ lines
    → IsErasable (row_at rows at) before count
    → rows_read lines (with_row at (erased (before + 1) (length (row_at rows at)) paper (row_at rows at)) rows)
    ≡ rows_written (at - 1) (length (left (row_at rows at) before)) (replicate count 32) (rows_read lines rows)
erased_read rows lines at before count paper long low high is =
    let row = row_at rows at in
    rows_alike lines at (rest_erased row before count paper is) (sets row before (cells row before count paper is)) rows (bare_same row before count paper is)
    ∙ over_written rows lines at before (replicate count 32) (replicate count (blank Default)) long low high (over row before count paper is) (letters_there row before count paper is)

-- ---- places that end before what is written

module _ (text : List ℕ) (rows : List Row) (above : ℕ) (pre was post letters : List ℕ) (inside : above < length rows)
    (is : (row_below rows above).characters ≡ (pre ++ was) ++ post) (same : length letters ≡ length was)
    (ends : (k i : ℕ) → k ≤ above → k < length rows → i < length (row_below rows k).characters → begins text (line_text (drop k rows)) i ≡ true
    → i + length text ≤ room_in rows above (length pre) k) where
  abbrev then_rows : List Row
  then_rows = rows_written above (length pre) letters rows

  written_there : row_below then_rows above ≡ row_written (length pre) letters (row_below rows above)
  written_there = get_or-set_same rows above (row_written (length pre) letters (row_below rows above)) empty_row inside

  changed : IsRewritten above rows then_rows
  changed =
      let row = row_written (length pre) letters (row_below rows above) in
      record {
        count = length-set rows above row;
        others = λ j apart. get_or-set_other rows above j row empty_row apart;
        runs = ap (λ (r : Row). r.runs_on) written_there;
      }

  one_is : (row_below rows above).characters ≡ pre ++ (was ++ post)
  one_is = is ∙ append_assoc pre was post

  other_is : (row_below then_rows above).characters ≡ pre ++ (letters ++ post)
  other_is =
      ap (λ (r : Row). r.characters) written_there
      ∙ ap (λ l. take (length pre) l ++ letters ++ drop (length pre + length letters) l) is
      ∙ in_place pre was post letters same ∙ append_assoc pre letters post

  long_here : length (row_below then_rows above).characters ≡ length (row_below rows above).characters
  long_here = omega (
    arith,
    same,
    ap length one_is,
    ap length other_is,
    length-append pre (was ++ post),
    length-append pre (letters ++ post),
    length-append was post,
    length-append letters post,
  )

  abbrev more : List ℕ
  more = cond (row_below rows above).runs_on (line_text (drop (above + 1) rows)) []

  line_one : line_text (drop above rows) ≡ pre ++ ((was ++ post) ++ more)
  line_one = line_here rows rows above (pre ++ (was ++ post)) (rewritten rows above) one_is ∙ append_assoc pre (was ++ post) more

  line_other : line_text (drop above then_rows) ≡ pre ++ ((letters ++ post) ++ more)
  line_other = line_here rows then_rows above (pre ++ (letters ++ post)) changed other_is ∙ append_assoc pre (letters ++ post) more

  -- where the text begins in a row it begins then, with the same to the left
  abbrev StaysIn : ℕ → Type 0
  StaysIn k =
      (i : ℕ) → i < length (row_below rows k).characters → begins text (line_text (drop k rows)) i ≡ true
      → (begins text (line_text (drop k then_rows)) i ≡ true) × (take i (row_below then_rows k).characters ≡ take i (row_below rows k).characters)

  stays_in : StaysIn above
  stays_in i lt begun =
      let fits : i + length text ≤ length pre = subst (λ m. i + length text ≤ m) (itself above) (ends above i (omega arith) inside lt begun) in (
        ap (λ l. begins text l i) line_other
            ∙ begins_before pre ((letters ++ post) ++ more) ((was ++ post) ++ more) text i fits
            ∙ ap (λ l. begins text l i) (sym line_one) ∙ begun,
        ap (take i) other_is ∙ take-append-le i pre (letters ++ post) (omega (arith, fits))
            ∙ sym (ap (take i) one_is ∙ take-append-le i pre (was ++ post) (omega (arith, fits))),
      )
    where
      itself : (k : ℕ) → room_in rows k (length pre) k ≡ length pre
      itself k = grind (arith, nat_tests)

  stays_below : (k : ℕ) → above < k → StaysIn k
  stays_below k past i lt begun =
      let row = λ (j : ℕ) (low : k ≤ j). changed.others j (λ e. omega (arith, e, past, low)) in (
        ap (λ l. begins text l i) (line_below rows then_rows (length rows) k (omega arith) changed.count row) ∙ begun,
        ap (λ (r : Row). take i r.characters) (row k (omega arith)),
      )

  stays_above : (k : ℕ) → k < above → StaysIn k
  stays_above k low i lt begun = (
    elim (leads rows then_rows then_rows above (above - k) k (omega (arith, low)) changed changed) [
      | inl lead ↦
          let room : i + length text ≤ length (row_below rows k).characters =
          subst (λ m. i + length text ≤ m) (apart_room k low) (ends k i (omega (arith, low)) (omega (arith, low, inside)) lt begun) in
          ap (λ l. begins text l i) lead.second
          ∙ begins_before lead.front (line_text (drop above then_rows)) (line_text (drop above rows)) text i (omega (arith, room, lead.long low))
          ∙ ap (λ l. begins text l i) (sym lead.first) ∙ begun
      | inr same_line ↦ ap (λ l. begins text l i) same_line.1 ∙ begun
    ],
    ap (λ (r : Row). take i r.characters) (changed.others k (λ e. omega (arith, e, low))),
  )
    where
      apart_room : (k : ℕ) → k < above → room_in rows above (length pre) k ≡ length (row_below rows k).characters
      apart_room k low = grind (arith, nat_tests)

  written_keeps : Keeps text rows then_rows
  written_keeps = rows_keep text rows then_rows changed.count (λ k lt. elim (cases_eq k above) [
    | inl e ↦ (
      ap (λ m. length (row_below then_rows m).characters) e ∙ long_here ∙ ap (λ m. length (row_below rows m).characters) (sym e),
      subst StaysIn (sym e) stays_in,
    )
    | inr ne ↦ (
      ap (λ (r : Row). length r.characters) (changed.others k ne),
      elim (cases_lt k above) [ inl low ↦ stays_above k low | inr high ↦ stays_below k (omega (arith, high, ne)) ],
    )
  ])

-- ---- bytes that erase the rest of the cursor's row

module _ (x : Term) (count : ℕ) (text bytes : List ℕ) (n : ℕ) (sound : Sound x.console.picture) (is : IsErasableAt x.console.picture count)
    (some : 0 < n) (within : n ≤ length bytes) (erases : ErasesRight x (take n bytes)) where
  abbrev p : Picture
  p = x.console.picture

  abbrev at : ℕ
  at = p.column - 1

  abbrev start : List Row
  start = rows_behind x [] 0

  start_there : start ≡ rows_read p.lines p.rows
  start_there = ap (λ (y : Term). rows_read p.lines y.console.picture.rows) (nothing_played x [] 0 refl)

  -- before the last byte
  not_yet : (k : ℕ) → k < n → rows_behind x bytes k ≡ start
  not_yet k lt =
      ap (λ (q : Picture). rows_read p.lines q.rows)
      (ap (λ l. (play x l).console.picture) (sym (take-take k n bytes (omega (arith, lt)))) ∙ erases.before k (omega (arith, lt, length-take-le n bytes within)))
      ∙ sym start_there

  then_there : rows_behind x bytes n ≡ rows_written (p.line - 1) (length (left_of_cursor x)) (replicate count 32) start
  then_there =
      let first : p.column ≡ at + 1 = omega (arith, sound.column_low) in
      ap (rows_read p.lines) erases.rows
      ∙ ap₂ (λ a b. rows_read p.lines (with_row p.line (erased a b x.console.rendition.paper (cursor_row x)) p.rows)) first (sym is.columns)
      ∙ erased_read p.rows p.lines p.line at count x.console.rendition.paper sound.rows sound.line_low sound.line_high is.row
      ∙ ap (rows_written (p.line - 1) (length (left_of_cursor x)) (replicate count 32)) (sym start_there)

  over_here : IsOver (cursor_row x) at count
  over_here = record { room = is.row.room; plain = is.row.plain }

  abbrev olds : List ℕ
  olds = old (cursor_row x) at count

  abbrev post_here : List ℕ
  post_here = right (cursor_row x) at count (kept (cursor_row x) (row_at p.rows (p.line + 1)))

  was_there : (row_below start (p.line - 1)).characters ≡ (left_of_cursor x ++ olds) ++ post_here
  was_there =
      ap (λ (r : Row). r.characters) (row_behind x sound)
      ∙ characters_own (cursor_row x) at count over_here (row_at p.rows (p.line + 1))

  spaces_long : length {A = ℕ} (replicate count 32) ≡ length olds
  spaces_long = length-replicate {A = ℕ} count 32 ∙ sym (old_length (cursor_row x) at count over_here)

  pub erased_written : WritesOver x bytes (replicate count 32) n
  erased_written = record {
    room = omega (arith, ap length was_there, length-append (left_of_cursor x ++ olds) post_here, length-append (left_of_cursor x) olds, spaces_long);
    rows = then_there;
  }

  pub erased_stays : EndsLeft text x → StaysOn text x bytes n
  erased_stays ends k lt = elim (cases_lt (k + 1) n) [
    | inl low ↦ keeps_same text (rows_behind x bytes k) (rows_behind x bytes (k + 1)) (not_yet k lt ∙ sym (not_yet (k + 1) low))
    | inr last ↦
        let all : n ≡ k + 1 = omega (arith, lt, last) in
        subst (λ r. Keeps text r (rows_behind x bytes (k + 1))) (sym (not_yet k lt))
        (subst (λ m. Keeps text start (rows_behind x bytes m)) all
        (subst (Keeps text start) (sym then_there)
        (written_keeps text start (p.line - 1) (left_of_cursor x) olds post_here (replicate count 32) (line_behind x sound) was_there spaces_long ends)))
  ]
