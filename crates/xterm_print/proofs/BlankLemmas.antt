-- A text with ink stands nowhere on a blank sheet.
use Rattle.std.proofs.Common.{◌≡◌, ℕ, zero, suc, ◌+◌, ◌-◌, Bool, true, false, List, [], ◌∷◌, ◌++◌, cond, drop, filter, get_or, length, map, not, ◌==◌, take, refl, ap, ◌∙◌, inl, inr}
use Rattle.std.specs.List.{All, AllByRecursion, flat_map, range_with_len}
use Rattle.std.proofs.lemmas.Bool.{cases_Bool, eq-eqb, false_from_ne_true, not_from_true}
use Rattle.std.proofs.lemmas.Bool.Decides.{Decides-eqb}
use Rattle.std.proofs.lemmas.List.Elements.{All-append, All-drop, All-from_recursion, All-nil, All-same, All-take, recursion_from_All}
use Rattle.std.proofs.lemmas.Slice.Eq.{slice_eq-Decides}
use Rattle.sheet.specs.Cells.{Cell, blank, is_covered}
use Rattle.sheet.specs.Grid.{blank_row, blank_rows, row_at}
use Rattle.sheet.specs.Table.{nth, table}
use Rattle.sheet.specs.declared.rendition.Colour.TheVariants.{Default}
use Rattle.standings.specs.Rows.{Row}
use Rattle.standings.specs.Standing.{begins, line_text, place_in, places_from, places_in}
use Rattle.text_find.specs.FindLines.{BeginsBlank, has_ink}
use Rattle.xterm_rows.specs.RowText.{characters}
use Rattle.xterm_term.specs.Term.{play}
use Rattle.xterm_print.specs.FindRows.{kept_cells, leaves_last, row_read, rows_read, rows_shown}

-- ---- a text on spaces

line_is_blank : (rows : List Row) → AllByRecursion (λ row. All (λ c. c ≡ 32) row.characters) rows → All (λ c. c ≡ 32) (line_text rows)
unfolding line_text
line_is_blank [] h = All-nil (λ c. c ≡ 32)
line_is_blank (row ∷ rows) h =
    All-append (λ c. c ≡ 32) row.characters (cond row.runs_on (line_text rows) []) h.0
    (elim (cases_Bool row.runs_on) [
      | inl t ↦ rw t (line_is_blank rows h.1)
      | inr f ↦ rw f (All-nil (λ c. c ≡ 32))
    ])

blank_has_no_ink : (text : List ℕ) → AllByRecursion (λ c. c ≡ 32) text → has_ink text ≡ true → ⊥
blank_has_no_ink [] h ink = cc
blank_has_no_ink (c ∷ text) h ink =
    let here : not (c == 32) ≡ false = not_from_true (c == 32) (eq-eqb c 32 h.0) in
    blank_has_no_ink text h.1 (rw here at ink)

begins_not : (text line : List ℕ) (before : ℕ) → has_ink text ≡ true → All (λ c. c ≡ 32) line → begins text line before ≡ false
begins_not text line before ink spaces =
    false_from_ne_true (begins text line before) (λ is.
    let there = take (length text) (drop before line) in
    let same : text ≡ there = (slice_eq-Decides Decides-eqb text there (begins text line before) refl).0 is in
    blank_has_no_ink text (recursion_from_All (λ c. c ≡ 32) text (All-same (λ c. c ≡ 32) text there same (All-take (λ c. c ≡ 32) (length text) (drop before line) (All-drop (λ c. c ≡ 32) before line spaces)))) ink)

none_passes : {X : Type 0} (p : X → Bool) → ((x : X) → p x ≡ false) → (xs : List X) → filter p xs ≡ []
none_passes p h [] = refl
none_passes p h (x ∷ xs) = rw (h x) (none_passes p h xs)

blank_nowhere : (text : List ℕ) (above : ℕ) (rows : List Row) → has_ink text ≡ true → AllByRecursion (λ row. All (λ c. c ≡ 32) row.characters) rows → places_from text above rows ≡ []
unfolding places_from
blank_nowhere text above [] ink h = refl
blank_nowhere text above (row ∷ rows) ink h =
    let line = line_text (row ∷ rows) in
    let none : places_in text above line (length row.characters) ≡ [] =
    ap (map (place_in above)) (none_passes (begins text line) (λ before. begins_not text line before ink (line_is_blank (row ∷ rows) h)) (range_with_len 0 (length row.characters))) in
    ap (λ l. l ++ places_from text (above + 1) rows) none ∙ blank_nowhere text (above + 1) rows ink h.1

-- ---- a blank sheet

all_mapped : {X : Type 0} (P : X → Type 0) (f : ℕ → X) → ((n : ℕ) → P (f n)) → (ns : List ℕ) → AllByRecursion P (map f ns)
all_mapped P f h [] = tt
all_mapped P f h (n ∷ ns) = (h n, all_mapped P f h ns)

all_taken : {X : Type 0} (P : X → Type 0) (n : ℕ) (xs : List X) → AllByRecursion P xs → AllByRecursion P (take n xs)
all_taken P n xs h = recursion_from_All P (take n xs) (All-take P n xs (All-from_recursion P xs h))

has_at : {X : Type 0} (P : X → Type 0) (d : X) → P d → (xs : List X) → AllByRecursion P xs → (k : ℕ) → P (get_or xs k d)
has_at P d hd [] h k = hd
has_at P d hd (x ∷ xs) h zero = h.0
has_at P d hd (x ∷ xs) h (suc k) = has_at P d hd xs h.1 k

abbrev pub IsBlank : List Cell → Type 0
IsBlank cells = AllByRecursion (λ cell. cell ≡ blank Default) cells

blank_there : (columns lines k : ℕ) → IsBlank (row_at (blank_rows columns lines Default) k)
unfolding nth table
blank_there columns lines zero = tt
blank_there columns lines (suc k) =
    has_at IsBlank [] tt (blank_rows columns lines Default)
    (all_mapped IsBlank (λ _. blank_row columns Default) (λ _. all_mapped (λ cell. cell ≡ blank Default) (λ _. blank Default) (λ _. refl) (range_with_len 1 columns)) (range_with_len 1 lines)) k

one_space : characters (blank Default) ≡ 32 ∷ []
unfolding characters blank is_covered
one_space = refl

only_spaces : (cells : List Cell) → IsBlank cells → AllByRecursion (λ c. c ≡ 32) (flat_map characters cells)
only_spaces [] h = tt
only_spaces (cell ∷ cells) h =
    let here : characters cell ≡ 32 ∷ [] = ap characters h.0 ∙ one_space in
    rw here (refl, only_spaces cells h.1)

kept_blank : (row next : List Cell) → IsBlank row → IsBlank (kept_cells row next)
unfolding kept_cells
kept_blank row next h = elim (cases_Bool (leaves_last row next)) [
  | inl t ↦ rw t (all_taken (λ cell. cell ≡ blank Default) (length row - 1) row h)
  | inr f ↦ rw f h
]

row_blank : (row next : List Cell) → IsBlank row → All (λ c. c ≡ 32) (row_read row next).characters
unfolding row_read
row_blank row next h = All-from_recursion (λ c. c ≡ 32) (flat_map characters (kept_cells row next)) (only_spaces (kept_cells row next) (kept_blank row next h))

-- where nothing was played a text with ink stands nowhere
pub begins_blank : BeginsBlank rows_shown
unfolding rows_read play table
begins_blank size text ink =
    let rows = blank_rows size.columns size.lines Default in
    blank_nowhere text 0 (rows_read size.lines rows) ink
    (all_mapped (λ (row : Row). All (λ c. c ≡ 32) row.characters) (λ line. row_read (row_at rows line) (row_at rows (line + 1)))
    (λ line. row_blank (row_at rows line) (row_at rows (line + 1)) (blank_there size.columns size.lines line)) (range_with_len 1 size.lines))
