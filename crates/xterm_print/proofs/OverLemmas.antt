-- Characters that are put over plain cells, and how their row is read then.
use Rattle.std.proofs.Common.{◌≡◌, ℕ, suc, ◌+◌, ◌-◌, ◌<◌, ◌≤◌, Bool, false, List, [], ◌∷◌, ◌++◌, append_assoc, drop, get_or, length, map, not, set, take, refl, ap, ap₂, subst, sym, ◌∙◌, arith, inl, inr, get_or-set_other, get_or-set_same}
use Rattle.std.specs.Prelude.{◌&&◌, ◌||◌, if◌then◌else◌}
use Rattle.std.specs.List.{flat_map, range_with_len}
use Rattle.std.proofs.Math.Seq.{drop-append_seam, length-sets, sets, take-append-add, take-append_seam}
use Rattle.std.proofs.lemmas.Bool.{cases_Bool, cases_eq}
use Rattle.std.proofs.lemmas.List.{drop-drop, get_or-drop, get_or-map, get_or-take, length-append, length-drop, length-map, length-set, length-take, length-take-le, take-append-drop, take_all}
use Rattle.std.proofs.lemmas.List.Concat.{flat_map-append}
use Rattle.std.proofs.lemmas.List.Edits.{sets-eq}
use Rattle.sheet.specs.declared.rendition.Colour.TheVariants.{Default}
use Rattle.sheet.specs.Cells.{Cell, blank, is_covered, is_wide}
use Rattle.standings.specs.Rows.{Row}
use Rattle.standings.specs.Written.{row_written}
use Rattle.xterm_rows.specs.RowText.{characters, is_space}
use Rattle.xterm_rows.specs.Runs.{cell_behind}
use Rattle.xterm_print.specs.FindRows.{columns_from, ends_in_space, kept_cells, leaves_last, row_read}
use Rattle.xterm_print.specs.Pieces.{IsPlain}

-- ---- elements that are written over others

pub sets_outside : {X : Type 0} (vs xs : List X) (i j : ℕ) (d : X) → i + length vs ≤ j → get_or (sets xs i vs) j d ≡ get_or xs j d
sets_outside [] xs i j d past = refl
sets_outside (v ∷ vs) xs i j d past = sets_outside vs (set xs i v) (suc i) j d (omega arith) ∙ get_or-set_other xs i j v d (λ e. omega arith)

-- where a function has the same for each of them as for the one that it replaces, it has the same for each element of the list
pub sets_alike : {X Y : Type 0} (f : X → Y) (vs xs : List X) (i j : ℕ) (d : X) → i + length vs ≤ length xs
    → ((m : ℕ) → m < length vs → f (get_or vs m d) ≡ f (get_or xs (i + m) d)) → f (get_or (sets xs i vs) j d) ≡ f (get_or xs j d)
sets_alike f [] xs i j d room same = refl
sets_alike f (v ∷ vs) xs i j d room same =
    sets_alike f vs (set xs i v) (suc i) j d (omega (arith, length-set xs i v))
    (λ m lt.
    let next : i + suc m ≡ suc i + m = omega arith in
    same (suc m) (omega arith) ∙ ap (λ k. f (get_or xs k d)) next ∙ ap f (sym (get_or-set_other xs i (suc i + m) v d (λ e. omega arith))))
    ∙ elim (cases_eq j i) [
      | inl e ↦
          let here : i + 0 ≡ i = omega arith in
          ap (λ k. f (get_or (set xs i v) k d)) e ∙ ap f (get_or-set_same xs i v d (omega arith)) ∙ same 0 (omega arith)
          ∙ ap (λ k. f (get_or xs k d)) (here ∙ sym e)
      | inr ne ↦ ap f (get_or-set_other xs i j v d ne)
    ]

take_past : {X : Type 0} (front rest : List X) (m : ℕ) → length front ≤ m → take m (front ++ rest) ≡ front ++ take (m - length front) rest
take_past front rest m past =
    let parts : m ≡ length front + (m - length front) = omega arith in
    ap (λ k. take k (front ++ rest)) parts ∙ take-append-add front rest (m - length front)

-- ---- cells

pub plain_narrow : (cell : Cell) → IsPlain cell → is_wide cell ≡ false
unfolding is_wide
plain_narrow cell plain = rw plain.kind refl

pub plain_open : (cell : Cell) → IsPlain cell → is_covered cell ≡ false
unfolding is_covered
plain_open cell plain = rw plain.kind refl

pub character_plain : (cell : Cell) → IsPlain cell → characters cell ≡ cell.character ∷ []
unfolding characters is_covered
character_plain cell plain = rw (plain.kind, plain.alone) refl

pub characters_plain : (cells : List Cell) → ((k : ℕ) → k < length cells → IsPlain (get_or cells k (blank Default)))
    → flat_map characters cells ≡ map (λ (cell : Cell). cell.character) cells
characters_plain [] plain = refl
characters_plain (cell ∷ cells) plain =
    ap₂ (λ a b. a ++ b) (character_plain cell (plain 0 (omega arith))) (characters_plain cells (λ k lt. plain (suc k) (omega arith)))

columns_plain : (cells : List Cell) (column : ℕ) → ((k : ℕ) → k < length cells → IsPlain (get_or cells k (blank Default)))
    → columns_from column cells ≡ range_with_len column (length cells)
columns_plain [] column plain = refl
columns_plain (cell ∷ cells) column plain =
    ap₂ (λ a b. map (λ _. column) a ++ b) (character_plain cell (plain 0 (omega arith))) (columns_plain cells (column + 1) (λ k lt. plain (suc k) (omega arith)))

-- a row of plain cells, by their characters
pub row_plain : (row : Row) (cells : List Cell) (letters : List ℕ) (runs_on : Bool) → ((k : ℕ) → k < length cells → IsPlain (get_or cells k (blank Default)))
    → letters ≡ map (λ (cell : Cell). cell.character) cells
    → row ≡ record { characters = letters; columns = range_with_len 1 (length letters); runs_on = runs_on }
    → row ≡ record { characters = flat_map characters cells; columns = columns_from 1 cells; runs_on = runs_on }
row_plain row cells letters runs_on plain are is =
    let long : length letters ≡ length cells = ap length are ∙ length-map cells (λ (cell : Cell). cell.character) in
    is ∙ ap₂ (λ a b. record { characters = a; columns = b; runs_on = runs_on }) (are ∙ sym (characters_plain cells plain))
    (ap (range_with_len 1) long ∙ sym (columns_plain cells 1 plain))

-- ---- columns of cells that have as many characters each

column_for : (column : ℕ) (one other : List ℕ) → length one ≡ length other → map (λ _. column) one ≡ map (λ _. column) other
column_for column [] [] long = refl
column_for column [] (o ∷ os) long = absurd (omega (arith, long))
column_for column (c ∷ cs) [] long = absurd (omega (arith, long))
column_for column (c ∷ cs) (o ∷ os) long = ap (λ l. column ∷ l) (column_for column cs os (omega (arith, long)))

columns_same : (column : ℕ) (one other : List Cell) → length one ≡ length other
    → ((j : ℕ) → j < length one → length (characters (get_or one j (blank Default))) ≡ length (characters (get_or other j (blank Default))))
    → columns_from column one ≡ columns_from column other
columns_same column [] [] long same = refl
columns_same column [] (o ∷ os) long same = absurd (omega (arith, long))
columns_same column (c ∷ cs) [] long same = absurd (omega (arith, long))
columns_same column (c ∷ cs) (o ∷ os) long same =
    ap₂ (λ a b. a ++ b) (column_for column (characters c) (characters o) (same 0 (omega arith)))
    (columns_same (column + 1) cs os (omega (arith, long)) (λ j lt. same (suc j) (omega arith)))

-- ---- characters in place of as many others

pub in_place : (fore old back new : List ℕ) → length new ≡ length old
    → take (length fore) ((fore ++ old) ++ back) ++ new ++ drop (length fore + length new) ((fore ++ old) ++ back) ≡ (fore ++ new) ++ back
in_place fore old back new long =
    let end : length fore + length new ≡ length (fore ++ old) = omega (arith, long, length-append fore old) in
    ap (λ l. take (length fore) l ++ new ++ drop (length fore + length new) ((fore ++ old) ++ back)) (append_assoc fore old back)
    ∙ ap (λ l. l ++ new ++ drop (length fore + length new) ((fore ++ old) ++ back)) (take-append_seam fore (old ++ back))
    ∙ ap (λ n. fore ++ new ++ drop n ((fore ++ old) ++ back)) end ∙ ap (λ l. fore ++ new ++ l) (drop-append_seam (fore ++ old) back)

row_same : (one other : Row) → one.characters ≡ other.characters → one.columns ≡ other.columns → one.runs_on ≡ other.runs_on → one ≡ other
row_same one other characters columns runs =
    ap (λ l. record { characters = l; columns = one.columns; runs_on = one.runs_on }) characters
    ∙ ap₂ (λ l b. record { characters = other.characters; columns = l; runs_on = b }) columns runs

-- ---- the row

-- so many cells behind so many others are plain, and two stay behind them
pub record IsOver (row : List Cell) (before count : ℕ) : Type 0 where
  pub room : before + count + 2 ≤ length row
  pub plain : (k : ℕ) → k < count → IsPlain (get_or row (before + k) (blank Default))

-- these are plain cells with these characters
pub record AreLetters (letters : List ℕ) (cells : List Cell) : Type 0 where
  pub plain : (k : ℕ) → k < length cells → IsPlain (get_or cells k (blank Default))
  pub are : map (λ (cell : Cell). cell.character) cells ≡ letters

pub letters_long : (letters : List ℕ) (cells : List Cell) → AreLetters letters cells → length cells ≡ length letters
letters_long letters cells these = sym (length-map cells (λ (cell : Cell). cell.character)) ∙ ap length these.are

-- the characters of the first cells of a row, of those over which so many are put, and of so many behind them
abbrev pub left : List Cell → ℕ → List ℕ
left row before = flat_map characters (take before row)

abbrev replaced : List Cell → ℕ → ℕ → List Cell
replaced row before count = take count (drop before row)

abbrev pub old : List Cell → ℕ → ℕ → List ℕ
old row before count = map (λ (cell : Cell). cell.character) (replaced row before count)

abbrev rest : List Cell → ℕ → ℕ → List Cell
rest row before count = drop count (drop before row)

abbrev pub right : List Cell → ℕ → ℕ → ℕ → List ℕ
right row before count m = flat_map characters (take (m - (before + count)) (rest row before count))

-- how many cells are kept
abbrev pub kept : List Cell → List Cell → ℕ
kept row next = if leaves_last row next then length row - 1 else length row

module _ (row : List Cell) (before count : ℕ) (over : IsOver row before count) where
  replaced_length : length (replaced row before count) ≡ count
  replaced_length = length-take-le count (drop before row) (omega (arith, over.room, length-drop before row))

  pub old_length : length (old row before count) ≡ count
  old_length = length-map (replaced row before count) (λ (cell : Cell). cell.character) ∙ replaced_length

  -- each of those that are replaced
  replaced_at : (k : ℕ) → k < count → get_or (replaced row before count) k (blank Default) ≡ get_or row (before + k) (blank Default)
  replaced_at k lt = get_or-take count (drop before row) k (blank Default) lt ∙ get_or-drop before row k (blank Default)

  pub old_at : (k : ℕ) → k < count → get_or (old row before count) k 0 ≡ (get_or row (before + k) (blank Default)).character
  old_at k lt =
      get_or-map (λ (cell : Cell). cell.character) (replaced row before count) k (blank Default) 0 (omega (arith, lt, replaced_length))
      ∙ ap (λ (cell : Cell). cell.character) (replaced_at k lt)

  -- they are such cells themselves
  own_letters : AreLetters (old row before count) (replaced row before count)
  own_letters = record {
    plain = λ k lt. let low : k < count = omega (arith, lt, replaced_length) in subst IsPlain (sym (replaced_at k low)) (over.plain k low);
    are = refl;
  }

  -- the row, in three parts
  own_parts : row ≡ (take before row ++ replaced row before count) ++ rest row before count
  own_parts =
      sym (take-append-drop before row) ∙ ap (λ l. take before row ++ l) (sym (take-append-drop count (drop before row)))
      ∙ sym (append_assoc (take before row) (replaced row before count) (rest row before count))

  -- the characters of its first cells, with these in place of them
  characters_with : (letters : List ℕ) (cells : List Cell) (m : ℕ) → AreLetters letters cells → length letters ≡ count → before + count ≤ m
      → flat_map characters (take m ((take before row ++ cells) ++ rest row before count)) ≡ (left row before ++ letters) ++ right row before count m
  characters_with letters cells m these long past =
      let a = take before row in
      let front : length (a ++ cells) ≡ before + count =
      omega (arith, length-append a cells, length-take-le before row (omega (arith, over.room)), letters_long letters cells these, long) in
      ap (flat_map characters) (take_past (a ++ cells) (rest row before count) m (omega (arith, front, past)))
      ∙ ap (λ n. flat_map characters ((a ++ cells) ++ take (m - n) (rest row before count))) front
      ∙ flat_map-append characters (a ++ cells) (take (m - (before + count)) (rest row before count))
      ∙ ap (λ t. t ++ right row before count m) (flat_map-append characters a cells)
      ∙ ap (λ t. (left row before ++ t) ++ right row before count m) (characters_plain cells these.plain ∙ these.are)

  kept_high : (next : List Cell) → before + count ≤ kept row next
  kept_high next = elim (cases_Bool (leaves_last row next)) [
    | inl t ↦ rw t (omega (arith, over.room))
    | inr f ↦ rw f (omega (arith, over.room))
  ]

  kept_own : (next : List Cell) → kept_cells row next ≡ take (kept row next) row
  unfolding kept_cells
  kept_own next = elim (cases_Bool (leaves_last row next)) [
    | inl t ↦ rw t refl
    | inr f ↦ rw f (sym (take_all (length row) row (omega arith)))
  ]

  pub characters_own : (next : List Cell) → (row_read row next).characters ≡ (left row before ++ old row before count) ++ right row before count (kept row next)
  unfolding row_read
  characters_own next =
      ap (flat_map characters) (kept_own next ∙ ap (take (kept row next)) own_parts)
      ∙ characters_with (old row before count) (replaced row before count) (kept row next) own_letters old_length (kept_high next)

-- these characters go over plain cells
module _ (row : List Cell) (before : ℕ) (letters : List ℕ) (cells : List Cell) (over : IsOver row before (length letters)) (these : AreLetters letters cells) where
  abbrev count : ℕ
  count = length letters

  abbrev written : List Cell
  written = sets row before cells

  some : length cells ≡ count
  some = letters_long letters cells these

  parts : written ≡ (take before row ++ cells) ++ rest row before count
  parts =
      sets-eq cells row before (omega (arith, over.room, some))
      ∙ ap (λ t. take before row ++ cells ++ t) (ap (λ m. drop (before + m) row) some ∙ sym (drop-drop count before row))

  long : length written ≡ length row
  long = length-sets row before cells

  same_from_end : (j : ℕ) → 1 ≤ j → j ≤ 2 → cell_behind written (length written - j) ≡ cell_behind row (length row - j)
  same_from_end j low high =
      ap (λ n. cell_behind written (n - j)) long ∙ sets_outside cells row before (length row - j) (blank Default) (omega (arith, over.room, some, low, high))

  -- a function that has the same for all plain cells
  same_for : {Y : Type 0} (f : Cell → Y) (y : Y) → ((cell : Cell) → IsPlain cell → f cell ≡ y) → (j : ℕ) → f (cell_behind written j) ≡ f (cell_behind row j)
  same_for f y plain j =
      sets_alike f cells row before j (blank Default) (omega (arith, over.room, some))
      (λ m lt. plain (get_or cells m (blank Default)) (these.plain m lt) ∙ sym (plain (get_or row (before + m) (blank Default)) (over.plain m (omega (arith, lt, some)))))

  same_end : ends_in_space written ≡ ends_in_space row
  same_end = ap is_space (same_from_end 1 (omega arith) (omega arith))

  same_leaving : (next : List Cell) → leaves_last written next ≡ leaves_last row next
  unfolding leaves_last
  same_leaving next =
      ap₂ (λ a b. is_space a && not (is_space b) && is_wide (cell_behind next 0)) (same_from_end 1 (omega arith) (omega arith)) (same_from_end 2 (omega arith) (omega arith))

  kept_written : (next : List Cell) → kept_cells written next ≡ take (kept row next) written
  unfolding kept_cells
  kept_written next =
      let same = same_leaving next in
      elim (cases_Bool (leaves_last row next)) [
        | inl t ↦ rw (same, t, long) refl
        | inr f ↦ rw (same, f) (sym (take_all (length row) written (omega (arith, long))))
      ]

  pub read_running : (next : List Cell) → (row_read written next).runs_on ≡ (row_read row next).runs_on
  unfolding row_read
  read_running next = ap₂ (λ a b. not a || b) same_end (same_leaving next)

  read_characters : (next : List Cell) → (row_read written next).characters ≡ (left row before ++ letters) ++ right row before count (kept row next)
  unfolding row_read
  read_characters next =
      ap (flat_map characters) (kept_written next ∙ ap (take (kept row next)) parts)
      ∙ characters_with row before count over letters cells (kept row next) these refl (kept_high row before count over next)

  read_columns : (next : List Cell) → (row_read written next).columns ≡ (row_read row next).columns
  unfolding row_read
  read_columns next =
      let m = kept row next in
      let own = λ (cell : Cell). length (characters cell) in
      let long_written = length-take m written in
      ap (columns_from 1) (kept_written next)
      ∙ columns_same 1 (take m written) (take m row) (omega (arith, long_written, length-take m row, long))
      (λ j lt.
      let within : j < m = omega (arith, lt, long_written) in
      ap own (get_or-take m written j (blank Default) within) ∙ same_for own 1 (λ cell plain. ap length (character_plain cell plain)) j
      ∙ sym (ap own (get_or-take m row j (blank Default) within)))
      ∙ sym (ap (columns_from 1) (kept_own row before count over next))

  -- it has them in place of as many others
  pub read_written : (next : List Cell) → row_read written next ≡ row_written (length (left row before)) letters (row_read row next)
  read_written next =
      row_same (row_read written next) (row_written (length (left row before)) letters (row_read row next))
      (read_characters next
      ∙ sym (ap (λ l. take (length (left row before)) l ++ letters ++ drop (length (left row before) + count) l) (characters_own row before count over next)
      ∙ in_place (left row before) (old row before count) (right row before count (kept row next)) letters (sym (old_length row before count over))))
      (read_columns next) (read_running next)

  leaving_above : (other : List Cell) → leaves_last other written ≡ leaves_last other row
  unfolding leaves_last
  leaving_above other = ap (λ w. is_space (cell_behind other (length other - 1)) && not (is_space (cell_behind other (length other - 2))) && w) (same_for is_wide false plain_narrow 0)

  -- the row above it
  pub read_above : (other : List Cell) → row_read other written ≡ row_read other row
  unfolding row_read kept_cells
  read_above other = let same = leaving_above other in rw same refl
