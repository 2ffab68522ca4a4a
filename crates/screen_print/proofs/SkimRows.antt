-- Rows and screens that lack a key.
use Rattle.std.proofs.Common.{◌≡◌, ◌≢◌, ◌⊎◌, ℕ, zero, suc, ◌+◌, ◌-◌, ◌<◌, ◌≤◌, Bool, true, false, ◌&&◌, ◌==◌, List, [], ◌∷◌, ◌++◌, length, get_or, take, drop, map, nat_eq, nat_le, replicate, refl, ap, sym, ◌∙◌, subst, arith, inl, inr, if◌then◌else◌}
use Rattle.std.specs.Cmp.Lexicographic.{pointwise}
use Rattle.std.specs.List.{All, AllByRecursion, AllZip, list_all, range_with_len, starts_with}
use Rattle.std.proofs.lemmas.Bool.{and_parts, and_from, cases_Bool, cases_eq, cases_lt, both_ways, eqb-true, eq-eqb, ne_eqb, or_left, or_right}
use Rattle.std.proofs.lemmas.List.{get_or_past, length-drop, length-replicate}
use Rattle.std.proofs.lemmas.List.FromFn.{length-map-range_with_len, get_or-map-range_with_len}
use Rattle.std.proofs.lemmas.List.Elements.{All-map, All-replicate, All-take, recursion_from_All}
use Rattle.vt_screen.specs.declared.cell.Cell.{Cell}
use Rattle.vt_screen.specs.declared.cell.Row.{Row}
use Rattle.vt_screen.specs.declared.cell.Size.{Size}
use Rattle.vt_screen.specs.declared.cell.Size.TheVariants.{Single}
use Rattle.vt_screen.specs.Attributes.{Attributes}
use Rattle.vt_screen.specs.Cells.{blank, blank_cells, blank_row, cell_at, row_at, row_by, rows_by}
use Rattle.vt_screen.specs.Erasures.{display_erased, erased_whole, in_line_part, in_part, line_erased, part_erased}
use Rattle.vt_screen.specs.Lines.{columns_set}
use Rattle.vt_screen.specs.Moves.{moved_to_left, on_line}
use Rattle.vt_screen.specs.Picture.{Picture, Sound, SoundRow, margin_of, reset, right_margin}
use Rattle.vt_screen.specs.Puts.{put, shown, with_cell, with_row, wrap_taken}
use Rattle.vt_screen.specs.Scrolls.{indexed, is_in_region, lines_deleted, lines_inserted, reverse_indexed, scrolled_down, scrolled_up}
use Rattle.vt_screen.specs.Table.{nth, table}
use Rattle.screen_rows.specs.Glyphs.{character}
use Rattle.screen_rows.specs.RowText.{row_text}
use Rattle.screen_print.specs.FindLines.{begins}
use Rattle.screen_print.specs.Skim.{IsKey, Misses, RowLacks, ScreenLacks, is_in}

-- what holds of both holds of the one that is taken
pub pick : {X : Type 0} (P : X → Type 0) (b : Bool) (x y : X) → P x → P y → P (if b then x else y)
pick P true x y one other = one
pick P false x y one other = other

-- ---- lists side by side

-- a character is read as the other, or isn't one of a key's
abbrev pub Read : List ℕ → ℕ → ℕ → Type 0
Read key new old = (new ≡ old) ⊎ (is_in key new ≡ false)

zip_itself : (key xs : List ℕ) → AllZip (Read key) xs xs
zip_itself key [] = tt
zip_itself key (x ∷ xs) = (inl refl, zip_itself key xs)

zip_append : {X : Type 0} (R : X → X → Type 0) (xs ys more rest : List X) → AllZip R xs ys → AllZip R more rest → AllZip R (xs ++ more) (ys ++ rest)
zip_append R [] [] more rest h more_h = more_h
zip_append R [] (y ∷ ys) more rest h more_h = absurd h
zip_append R (x ∷ xs) [] more rest h more_h = absurd h
zip_append R (x ∷ xs) (y ∷ ys) more rest h more_h = (h.0, zip_append R xs ys more rest h.1 more_h)

zip_drop : {X : Type 0} (R : X → X → Type 0) (n : ℕ) (xs ys : List X) → AllZip R xs ys → AllZip R (drop n xs) (drop n ys)
zip_drop R zero xs ys h = h
zip_drop R (suc n) [] [] h = h
zip_drop R (suc n) [] (y ∷ ys) h = absurd h
zip_drop R (suc n) (x ∷ xs) [] h = absurd h
zip_drop R (suc n) (x ∷ xs) (y ∷ ys) h = zip_drop R n xs ys h.1

zip_take : {X : Type 0} (R : X → X → Type 0) (n : ℕ) (xs ys : List X) → AllZip R xs ys → AllZip R (take n xs) (take n ys)
zip_take R zero xs ys h = tt
zip_take R (suc n) [] [] h = h
zip_take R (suc n) [] (y ∷ ys) h = absurd h
zip_take R (suc n) (x ∷ xs) [] h = absurd h
zip_take R (suc n) (x ∷ xs) (y ∷ ys) h = (h.0, zip_take R n xs ys h.1)

zip_map : {X Y : Type 0} (R : Y → Y → Type 0) (f : X → Y) (xs ys : List X) → AllZip (λ x y. R (f x) (f y)) xs ys → AllZip R (map f xs) (map f ys)
zip_map R f [] [] h = h
zip_map R f [] (y ∷ ys) h = absurd h
zip_map R f (x ∷ xs) [] h = absurd h
zip_map R f (x ∷ xs) (y ∷ ys) h = (h.0, zip_map R f xs ys h.1)

zip_length : {X : Type 0} (R : X → X → Type 0) (xs ys : List X) → AllZip R xs ys → length xs ≡ length ys
zip_length R [] [] h = refl
zip_length R [] (y ∷ ys) h = absurd h
zip_length R (x ∷ xs) [] h = absurd h
zip_length R (x ∷ xs) (y ∷ ys) h = ap (λ n. suc n) (zip_length R xs ys h.1)

zip_by_index : {X : Type 0} (R : X → X → Type 0) (d : X) (xs ys : List X) → length xs ≡ length ys → ((k : ℕ) → k < length xs → R (get_or xs k d) (get_or ys k d)) → AllZip R xs ys
zip_by_index R d [] [] same h = tt
zip_by_index R d [] (y ∷ ys) same h = absurd (omega arith)
zip_by_index R d (x ∷ xs) [] same h = absurd (omega arith)
zip_by_index R d (x ∷ xs) (y ∷ ys) same h = (h zero (omega arith), zip_by_index R d xs ys (omega arith) (λ k lt. h (suc k) (omega arith)))

-- the characters of a key are in it
members_of : (key : List ℕ) (w : List ℕ) → ((c : ℕ) → is_in w c ≡ true → is_in key c ≡ true) → AllByRecursion (λ c. is_in key c ≡ true) w
members_of key [] h = tt
members_of key (c ∷ w) h = (
  h c (or_left (nat_eq c c) (is_in w c) (eq-eqb c c refl)),
  members_of key w (λ d e. h d (or_right (nat_eq c d) (is_in w d) e)),
)

pub members : (key : List ℕ) → AllByRecursion (λ c. is_in key c ≡ true) key
members key = members_of key key (λ c h. h)

-- a key that stands in the new list stood in the old one
zip_begins : (key w xs ys : List ℕ) → AllByRecursion (λ c. is_in key c ≡ true) w → AllZip (Read key) xs ys
    → pointwise nat_eq w (take (length w) xs) ≡ true → pointwise nat_eq w (take (length w) ys) ≡ true
zip_begins key [] xs ys m z h = h
zip_begins key (c ∷ w) [] [] m z h = h
zip_begins key (c ∷ w) [] (y ∷ ys) m z h = absurd z
zip_begins key (c ∷ w) (x ∷ xs) [] m z h = absurd z
zip_begins key (c ∷ w) (x ∷ xs) (y ∷ ys) m z h =
    let parts = and_parts (nat_eq c x) (pointwise nat_eq w (take (length w) xs)) h in
    let rest = zip_begins key w xs ys m.1 z.1 parts.1 in
    let is : c ≡ x = eqb-true c x parts.0 in
    elim z.0 [
      | inl e ↦ and_from (nat_eq c y) (pointwise nat_eq w (take (length w) ys)) (eq-eqb c y (is ∙ e)) rest
      | inr f ↦ absurd (both_ways (is_in key x) f (ap (is_in key) (sym is) ∙ m.0))
    ]

dropped_all : (P : ℕ → Type 0) (n : ℕ) (w : List ℕ) → AllByRecursion P w → AllByRecursion P (drop n w)
dropped_all P zero w h = h
dropped_all P (suc n) [] h = h
dropped_all P (suc n) (c ∷ w) h = dropped_all P n w h.1

-- a key doesn't stand in a row that is read as another, or has no character of it
misses_too : (key new old : List ℕ) → AllZip (Read key) new old → Misses key old → Misses key new
misses_too key new old z none =
    let long : length new ≡ length old = zip_length (Read key) new old z in
    record {
      inside = λ rest column low high.
          let all = zip_drop (Read key) (column - 1) (new ++ rest) (old ++ rest) (zip_append (Read key) new old rest rest z (zip_itself key rest)) in
          elim (cases_Bool (begins key (new ++ rest) column)) [
            | inl t ↦ absurd (both_ways (begins key (old ++ rest) column) (none.inside rest column low (omega (arith, high, long)))
                (zip_begins key key (drop (column - 1) (new ++ rest)) (drop (column - 1) (old ++ rest)) (members key) all t))
            | inr f ↦ f
          ];
      start = λ n low high. elim (cases_Bool (starts_with nat_eq new (drop n key))) [
        | inl t ↦ absurd (both_ways (starts_with nat_eq old (drop n key)) (none.start n low high)
            (zip_begins key (drop n key) new old (dropped_all (λ c. is_in key c ≡ true) n key (members key)) z t))
        | inr f ↦ f
      ];
    }

-- a row without a character of a key
strange : (key w : List ℕ) (c : ℕ) (row rest : List ℕ) (n : ℕ) → is_in key c ≡ true → AllByRecursion (λ x. is_in key x ≡ false) row → n < length row
    → pointwise nat_eq (c ∷ w) (take (suc (length w)) (drop n (row ++ rest))) ≡ false
strange key w c [] rest n m none lt = absurd (omega arith)
strange key w c (x ∷ row) rest zero m none lt =
    rw (ne_eqb c x (λ e. both_ways (is_in key x) none.0 (ap (is_in key) (sym e) ∙ m))) refl
strange key w c (x ∷ row) rest (suc n) m none lt = strange key w c row rest n m none.1 (omega arith)

strange_start : (key w row : List ℕ) → 1 ≤ length w → AllByRecursion (λ c. is_in key c ≡ true) w → AllByRecursion (λ x. is_in key x ≡ false) row → starts_with nat_eq row w ≡ false
strange_start key [] row some m none = absurd (omega arith)
strange_start key (c ∷ w) [] some m none = refl
strange_start key (c ∷ w) (x ∷ row) some m none = rw (ne_eqb c x (λ e. both_ways (is_in key x) none.0 (ap (is_in key) (sym e) ∙ m.0))) refl

strange_inside : (key w row : List ℕ) → 1 ≤ length w → AllByRecursion (λ c. is_in key c ≡ true) w → AllByRecursion (λ x. is_in key x ≡ false) row
    → (rest : List ℕ) (column : ℕ) → column - 1 < length row → begins w (row ++ rest) column ≡ false
strange_inside key [] row some m none rest column lt = absurd (omega arith)
strange_inside key (c ∷ w) row some m none rest column lt = strange key w c row rest (column - 1) m.0 none lt

strange_misses : (key row : List ℕ) → 1 ≤ length key → AllByRecursion (λ x. is_in key x ≡ false) row → Misses key row
strange_misses key row some none = record {
  inside = λ rest column low high. strange_inside key key row some (members key) none rest column (omega (arith, some, high));
  start = λ n low high.
      strange_start key (drop n key) row (omega (arith, high, length-drop n key)) (dropped_all (λ c. is_in key c ≡ true) n key (members key)) none;
}

-- ---- lists told by number

pub length-table : {X : Type 0} (n : ℕ) (f : ℕ → X) → length (table n f) ≡ n
unfolding table
length-table n f = length-map-range_with_len f 1 n

pub get_or-table : {X : Type 0} (n : ℕ) (f : ℕ → X) (i : ℕ) (d : X) → i < n → get_or (table n f) i d ≡ f (i + 1)
unfolding table
get_or-table n f i d below = get_or-map-range_with_len f 1 n i (i + 1) d below (omega arith)

pub nth_is : {X : Type 0} (d : X) (xs : List X) (k : ℕ) → nth d xs k ≡ get_or xs (k - 1) d
unfolding nth
nth_is d xs k = refl

pub nth_next : {X : Type 0} (d : X) (xs : List X) (k : ℕ) → nth d xs (k + 1) ≡ get_or xs k d
nth_next d xs k = nth_is d xs (k + 1) ∙ ap (λ (i : ℕ). get_or xs i d) (omega arith)

-- the row of a line among rows that are told by it
pub row_told : (f : ℕ → Row) (line : ℕ) → line - 1 < 24 → row_at (rows_by f) line ≡ f (line - 1 + 1)
row_told f line lt = nth_is blank_row (rows_by f) line ∙ get_or-table 24 f (line - 1) blank_row lt

row_past : (f : ℕ → Row) (line : ℕ) → 24 ≤ line - 1 → row_at (rows_by f) line ≡ blank_row
row_past f line past = nth_is blank_row (rows_by f) line ∙ get_or_past (rows_by f) (line - 1) blank_row (omega (arith, length-table 24 f))

rows_told : (P : Row → Type 0) (f : ℕ → Row) → P blank_row → ((line : ℕ) → P (f line)) → (line : ℕ) → P (row_at (rows_by f) line)
rows_told P f none each line = elim (cases_lt (line - 1) 24) [
  | inl lt ↦ subst P (sym (row_told f line lt)) (each (line - 1 + 1))
  | inr past ↦ subst P (sym (row_past f line past)) none
]

-- line 0 has the row of line 1
zero_is_one : (rows : List Row) (line : ℕ) → row_at rows line ≡ row_at rows (line - 1 + 1)
zero_is_one rows line = nth_is blank_row rows line ∙ sym (nth_next blank_row rows (line - 1))

-- ---- rows

text_by_cells : (key : List ℕ) (wide : Bool) (new old : Row) → length new.cells ≡ 132 → length old.cells ≡ 132 → new.size ≡ old.size
    → ((k : ℕ) → k < 132 → Read key (character (get_or new.cells k blank).glyph) (character (get_or old.cells k blank).glyph))
    → AllZip (Read key) (row_text wide new) (row_text wide old)
text_by_cells key wide new old whole whole' size each =
    let read : Cell → ℕ = λ cell. character cell.glyph in
    let R : Cell → Cell → Type 0 = λ a b. Read key (read a) (read b) in
    let cells = zip_by_index R blank new.cells old.cells (whole ∙ sym whole') (λ k lt. each k (omega arith)) in
    subst (λ (s : Size). AllZip (Read key) (row_text wide new) (map read (take (margin_of wide s) old.cells))) size
    (zip_map (Read key) read (take (margin_of wide new.size) new.cells) (take (margin_of wide new.size) old.cells)
    (zip_take R (margin_of wide new.size) new.cells old.cells cells))

module _ (key : List ℕ) (good : IsKey key) where
  -- a row of the same size, of which each cell is read as before, or shows no character of the key
  row_kept : (wide : Bool) (row : Row) (f : ℕ → Cell) → RowLacks key wide row
      → ((column : ℕ) → Read key (character (f column).glyph) (character (cell_at row column).glyph))
      → RowLacks key wide (row_by row.size f)
  row_kept wide row f lacks each = record {
    whole = length-table 132 f;
    misses = misses_too key (row_text wide (row_by row.size f)) (row_text wide row)
        (text_by_cells key wide (row_by row.size f) row (length-table 132 f) lacks.whole refl
        (λ k lt. subst (λ (cell : Cell). Read key (character cell.glyph) (character (get_or row.cells k blank).glyph)) (sym (get_or-table 132 f k blank lt))
        (subst (λ (cell : Cell). Read key (character (f (k + 1)).glyph) (character cell.glyph)) (nth_next blank row.cells k) (each (k + 1)))))
        lacks.misses;
  }

  -- a row without a character of the key
  row_strange : (wide : Bool) (size : Size) (cells : List Cell) → length cells ≡ 132 → All (λ cell. is_in key (character cell.glyph) ≡ false) cells
      → RowLacks key wide (record { size = size; cells = cells })
  row_strange wide size cells whole none =
      let read : Cell → ℕ = λ cell. character cell.glyph in
      record {
        whole = whole;
        misses = strange_misses key (map read (take (margin_of wide size) cells)) good.some
            (recursion_from_All (λ x. is_in key x ≡ false) (map read (take (margin_of wide size) cells))
            (All-map (λ x. is_in key x ≡ false) read (take (margin_of wide size) cells)
            (All-take (λ cell. is_in key (read cell) ≡ false) (margin_of wide size) cells none)));
      }

  row_blank : (wide : Bool) → RowLacks key wide blank_row
  unfolding blank_cells
  row_blank wide =
      row_strange wide Single (replicate 132 blank) (length-replicate 132 blank) (All-replicate (λ cell. is_in key (character cell.glyph) ≡ false) 132 blank good.inked)

  -- ---- screens

  -- an operation leaves a screen that lacks the key so
  abbrev pub Keeps : (Picture → Picture) → Type 0
  Keeps op = (p : Picture) → ScreenLacks key p → ScreenLacks key (op p)

  abbrev pub RowsLack : Bool → List Row → Type 0
  RowsLack wide rows = (line : ℕ) → RowLacks key wide (row_at rows line)

  up_lacks : (wide : Bool) (n top bottom : ℕ) (rows : List Row) → RowsLack wide rows → RowsLack wide (scrolled_up n top bottom rows)
  up_lacks wide n top bottom rows lacks =
      rows_told (RowLacks key wide)
      (λ line. if nat_le top line && nat_le line bottom
      then (if nat_le (line + n) bottom then row_at rows (line + n) else blank_row)
      else row_at rows line) (row_blank wide)
      (λ line. pick (RowLacks key wide) (nat_le top line && nat_le line bottom) (if nat_le (line + n) bottom then row_at rows (line + n) else blank_row) (row_at rows line)
      (pick (RowLacks key wide) (nat_le (line + n) bottom) (row_at rows (line + n)) blank_row (lacks (line + n)) (row_blank wide)) (lacks line))

  down_lacks : (wide : Bool) (n top bottom : ℕ) (rows : List Row) → RowsLack wide rows → RowsLack wide (scrolled_down n top bottom rows)
  down_lacks wide n top bottom rows lacks =
      rows_told (RowLacks key wide)
      (λ line. if nat_le top line && nat_le line bottom
      then (if nat_le (top + n) line then row_at rows (line - n) else blank_row)
      else row_at rows line) (row_blank wide)
      (λ line. pick (RowLacks key wide) (nat_le top line && nat_le line bottom) (if nat_le (top + n) line then row_at rows (line - n) else blank_row) (row_at rows line)
      (pick (RowLacks key wide) (nat_le (top + n) line) (row_at rows (line - n)) blank_row (lacks (line - n)) (row_blank wide)) (lacks line))

  pub left_lacks : Keeps moved_to_left
  left_lacks p lacks = record { row = lacks.row }

  pub index_lacks : Keeps indexed
  index_lacks p lacks =
      pick (ScreenLacks key) (p.line == p.bottom) (on_line p.line (record p { rows = scrolled_up 1 p.top p.bottom p.rows })) (if p.line == 24 then on_line 24 p else on_line (p.line + 1) p)
      (record { row = up_lacks p.wide 1 p.top p.bottom p.rows lacks.row })
      (pick (ScreenLacks key) (p.line == 24) (on_line 24 p) (on_line (p.line + 1) p) (record { row = lacks.row }) (record { row = lacks.row }))

  pub reverse_index_lacks : Keeps reverse_indexed
  reverse_index_lacks p lacks =
      pick (ScreenLacks key) (p.line == p.top) (on_line p.line (record p { rows = scrolled_down 1 p.top p.bottom p.rows })) (if p.line == 1 then on_line 1 p else on_line (p.line - 1) p)
      (record { row = down_lacks p.wide 1 p.top p.bottom p.rows lacks.row })
      (pick (ScreenLacks key) (p.line == 1) (on_line 1 p) (on_line (p.line - 1) p) (record { row = lacks.row }) (record { row = lacks.row }))

  pub row_changed : (wide : Bool) (at : ℕ) (row : Row) (rows : List Row) → RowLacks key wide row → RowsLack wide rows → RowsLack wide (with_row at row rows)
  row_changed wide at row rows new lacks =
      rows_told (RowLacks key wide) (λ line. if line == at then row else row_at rows line) (row_blank wide)
      (λ line. pick (RowLacks key wide) (line == at) row (row_at rows line) new (lacks line))

  -- the rows of all lines
  pub rows_lack : (p : Picture) → length p.rows ≡ 24 → ((line : ℕ) → 1 ≤ line → line < 25 → RowLacks key p.wide (row_at p.rows line)) → ScreenLacks key p
  rows_lack p whole each = record {
    row = λ line. elim (cases_lt (line - 1) 24) [
      | inl lt ↦ subst (RowLacks key p.wide) (sym (zero_is_one p.rows line)) (each (line - 1 + 1) (omega arith) (omega arith))
      | inr past ↦ subst (RowLacks key p.wide) (sym (nth_is blank_row p.rows line ∙ get_or_past p.rows (line - 1) blank_row (omega arith))) (row_blank p.wide)
    ];
  }

  -- cells that become blank
  blanked : (b : Bool) (cell : Cell) → Read key (character (if b then blank else cell).glyph) (character cell.glyph)
  blanked b cell = pick (λ (c : Cell). Read key (character c.glyph) (character cell.glyph)) b blank cell (inr good.inked) (inl refl)

  pub erase_line_lacks : (part : ℕ) → Keeps (line_erased part)
  erase_line_lacks part p lacks =
      let row = row_at p.rows p.line in
      record {
        row = row_changed p.wide p.line (part_erased part p.column row) p.rows
            (row_kept p.wide row (λ column. if in_line_part part p.column column then blank else cell_at row column) (lacks.row p.line)
            (λ column. blanked (in_line_part part p.column column) (cell_at row column))) lacks.row;
      }

  all_in : (test : ℕ → Bool) (a n k : ℕ) → list_all test (range_with_len a n) ≡ true → a ≤ k → k < a + n → test k ≡ true
  all_in test a zero k all low high = absurd (omega arith)
  all_in test a (suc n) k all low high =
      let parts = and_parts (test a) (list_all test (range_with_len (a + 1) n)) all in
      elim (cases_eq k a) [
        | inl e ↦ ap test e ∙ parts.0
        | inr ne ↦ all_in test (a + 1) n k parts.1 (omega arith) (omega arith)
      ]

  -- a line that is erased completely
  erased_cell : (part : ℕ) (p : Picture) (line column : ℕ) → SoundRow p.wide (row_at p.rows line) → erased_whole part p line ≡ true → 1 ≤ column
      → is_in key (character (if in_part part p line column then blank else cell_at (row_at p.rows line) column).glyph) ≡ false
  erased_cell part p line column sound whole low = elim (cases_Bool (in_part part p line column)) [
    | inl t ↦ rw t good.inked
    | inr f ↦ elim (cases_lt (right_margin p line) column) [
      | inl past ↦ rw (f, sound.blank_right column past) good.inked
      | inr within ↦ absurd (both_ways (in_part part p line column) f (all_in (in_part part p line) 1 (right_margin p line) column whole low (omega arith)))
    ]
  ]

  erased_row : (part : ℕ) (p : Picture) (line : ℕ) → SoundRow p.wide (row_at p.rows line) → RowLacks key p.wide (row_at p.rows line)
      → RowLacks key p.wide (row_by (if erased_whole part p line then Single else (row_at p.rows line).size)
      (λ column. if in_part part p line column then blank else cell_at (row_at p.rows line) column))
  erased_row part p line sound lacks =
      let row = row_at p.rows line in
      let f : ℕ → Cell = λ column. if in_part part p line column then blank else cell_at row column in
      elim (cases_Bool (erased_whole part p line)) [
        | inl t ↦ rw t
            (row_strange p.wide Single (table 132 f) (length-table 132 f)
            (λ k d lt.
            let within : k < 132 = omega (arith, length-table 132 f) in
            subst (λ (cell : Cell). is_in key (character cell.glyph) ≡ false) (sym (get_or-table 132 f k d within))
            (erased_cell part p line (k + 1) sound t (omega arith))))
        | inr e ↦ rw e (row_kept p.wide row f lacks (λ column. blanked (in_part part p line column) (cell_at row column)))
      ]

  pub erase_display_lacks : (part : ℕ) (p : Picture) → Sound p → ScreenLacks key p → ScreenLacks key (display_erased part p)
  erase_display_lacks part p sound lacks = record {
    row = rows_told (RowLacks key p.wide)
        (λ line. row_by (if erased_whole part p line then Single else (row_at p.rows line).size)
        (λ column. if in_part part p line column then blank else cell_at (row_at p.rows line) column)) (row_blank p.wide)
        (λ line. erased_row part p line (sound.row line) (lacks.row line));
  }

  blank_lacks : (wide : Bool) → RowsLack wide (rows_by (λ _. blank_row))
  blank_lacks wide = rows_told (RowLacks key wide) (λ _. blank_row) (row_blank wide) (λ _. row_blank wide)

  pub reset_lacks : ScreenLacks key reset
  reset_lacks = record { row = blank_lacks false }

  pub columns_lack : (wide origin : Bool) → Keeps (columns_set wide origin)
  columns_lack wide origin p lacks = record { row = blank_lacks wide }

  pub lines_deleted_lack : (n : ℕ) → Keeps (lines_deleted n)
  lines_deleted_lack n p lacks =
      pick (ScreenLacks key) (is_in_region p) (moved_to_left (record p { rows = scrolled_up n p.line p.bottom p.rows })) p
      (record { row = up_lacks p.wide n p.line p.bottom p.rows lacks.row }) lacks

  pub lines_inserted_lack : (n : ℕ) → Keeps (lines_inserted n)
  lines_inserted_lack n p lacks =
      pick (ScreenLacks key) (is_in_region p) (moved_to_left (record p { rows = scrolled_down n p.line p.bottom p.rows })) p
      (record { row = down_lacks p.wide n p.line p.bottom p.rows lacks.row }) lacks

  wrap_lacks : Keeps wrap_taken
  wrap_lacks p lacks = pick (ScreenLacks key) p.wrap (indexed (moved_to_left p)) p (index_lacks (moved_to_left p) (left_lacks p lacks)) lacks

  -- the rows after a cell is written
  abbrev pub put_rows : Cell → Picture → List Row
  put_rows cell p = with_row p.line (with_cell p.column cell (row_at p.rows p.line)) p.rows

  pub put_lacks : (cell : Cell) (autowrap : Bool) (p : Picture) → RowsLack p.wide (put_rows cell p) → ScreenLacks key (put cell autowrap p)
  put_lacks cell autowrap p lacks =
      let rows = put_rows cell p in
      pick (ScreenLacks key) (p.column == right_margin p p.line) (record p { rows = rows; wrap = autowrap }) (record p { rows = rows; column = p.column + 1 })
      (record { row = lacks }) (record { row = lacks })

  -- a glyph is shown that isn't one of the key's
  pub shown_lacks : (glyph : ℕ) (rendition : Attributes) (autowrap : Bool) → is_in key (character glyph) ≡ false → Keeps (shown glyph rendition autowrap)
  shown_lacks glyph rendition autowrap strange p lacks =
      let q = wrap_taken p in
      let cell : Cell = record { glyph = glyph; rendition = rendition } in
      let row = row_at q.rows q.line in
      let rest = wrap_lacks p lacks in
      put_lacks cell autowrap q
      (row_changed q.wide q.line (with_cell q.column cell row) q.rows
      (row_kept q.wide row (λ column. if column == q.column then cell else cell_at row column) (rest.row q.line)
      (λ column. pick (λ (c : Cell). Read key (character c.glyph) (character (cell_at row column).glyph)) (column == q.column) cell (cell_at row column) (inr strange) (inl refl)))
      rest.row)

  -- a row is another, and lacks the key too
  other_line : (rows : List Row) (at line : ℕ) (row : Row) → line - 1 + 1 ≢ at → (P : Row → Type 0) → P blank_row → ((k : ℕ) → P (row_at rows k)) → P (row_at (with_row at row rows) line)
  other_line rows at line row apart P none each = elim (cases_lt (line - 1) 24) [
    | inl lt ↦ subst P (sym (row_told (λ k. if k == at then row else row_at rows k) line lt)) (rw (ne_eqb (line - 1 + 1) at apart) (each (line - 1 + 1)))
    | inr past ↦ subst P (sym (row_past (λ k. if k == at then row else row_at rows k) line past)) none
  ]

  row_checked : (wide : Bool) (at : ℕ) (row : Row) (rows : List Row) → RowsLack wide rows → RowLacks key wide (row_at (with_row at row rows) at) → RowsLack wide (with_row at row rows)
  row_checked wide at row rows lacks here line = elim (cases_eq (line - 1 + 1) at) [
    | inl e ↦ subst (RowLacks key wide) (sym (zero_is_one (with_row at row rows) line ∙ ap (row_at (with_row at row rows)) e)) here
    | inr apart ↦ other_line rows at line row apart (RowLacks key wide) (row_blank wide) lacks
  ]

  put_checked : (cell : Cell) (autowrap : Bool) (p : Picture) → ScreenLacks key p
      → RowLacks key p.wide (row_at (put_rows cell p) p.line) → ScreenLacks key (put cell autowrap p)
  put_checked cell autowrap p lacks here =
      put_lacks cell autowrap p (row_checked p.wide p.line (with_cell p.column cell (row_at p.rows p.line)) p.rows lacks.row here)

  -- what the row of the cursor shows after a cell is written
  put_here : (P : Picture → Type 0) (cell : Cell) (autowrap : Bool) (p : Picture)
      → P (put cell autowrap p) → P (record p { rows = put_rows cell p; wrap = autowrap }) ⊎ P (record p { rows = put_rows cell p; column = p.column + 1 })
  put_here P cell autowrap p h = elim (cases_Bool (p.column == right_margin p p.line)) [
    | inl t ↦ inl (rw t at h)
    | inr f ↦ inr (rw f at h)
  ]

  row_of_put : (cell : Cell) (autowrap : Bool) (p : Picture) → RowLacks key (put cell autowrap p).wide (row_at (put cell autowrap p).rows (put cell autowrap p).line)
      → RowLacks key p.wide (row_at (put_rows cell p) p.line)
  row_of_put cell autowrap p here =
      elim (put_here (λ (q : Picture). RowLacks key q.wide (row_at q.rows q.line)) cell autowrap p here) [
        | inl h ↦ h
        | inr h ↦ h
      ]

  -- any glyph is shown, and the row of the cursor lacks the key then
  pub shown_checked : (glyph : ℕ) (rendition : Attributes) (autowrap : Bool) (p : Picture) → ScreenLacks key p
      → let q = shown glyph rendition autowrap p in RowLacks key q.wide (row_at q.rows q.line) → ScreenLacks key q
  shown_checked glyph rendition autowrap p lacks here =
      let cell : Cell = record { glyph = glyph; rendition = rendition } in
      put_checked cell autowrap (wrap_taken p) (wrap_lacks p lacks) (row_of_put cell autowrap (wrap_taken p) here)
