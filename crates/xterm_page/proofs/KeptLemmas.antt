-- Rows that are kept of a terminal, as it plays on.
use Rattle.std.proofs.Common.{◌≡◌, ℕ, suc, ◌+◌, ◌-◌, ◌<◌, ◌≤◌, Bool, true, false, not, List, [], ◌∷◌, ◌++◌, cond, filter, Option, Some, None, inl, inr, length, get_or, set, refl, ap, sym, ◌∙◌, subst, arith, get_or-set_same}
use Rattle.std.specs.Prelude.{◌&&◌}
use Rattle.std.specs.List.{range_with_len}
use Rattle.std.proofs.lemmas.List.Elements.{filter-append}
use Rattle.screen_page.specs.Entries.{first_of}
use Rattle.xterm_rows.proofs.RangeLemmas.{range_first, range_split}
use Rattle.sheet.specs.Cells.{Cell}
use Rattle.std.proofs.lemmas.Bool.{cases_Bool, not-false}
use Rattle.std.proofs.lemmas.List.{length-set}
use Rattle.sheet.specs.Grid.{AreMarked as MarksTell, is_touched, row_at}
use Rattle.sheet.specs.Table.{nth}
use Rattle.xterm_screen.specs.Picture.{Picture}
use Rattle.xterm_term.specs.declared.measure.Size.{Size}
use Rattle.xterm_term.specs.Law.{SizeStays}
use Rattle.xterm_term.specs.Seen.{Seen, Shows}
use Rattle.xterm_term.specs.Term.{play}
use Rattle.xterm_print.specs.Moments.{reset_as}
use Rattle.xterm_print.proofs.KeptLemmas.{row_read}
use Rattle.xterm_page.specs.Entries.{console_by, line_of}
use Rattle.xterm_page.specs.Parts.{AreWide, KeptAll, is_renewed}
use Rattle.xterm_page.specs.Same.{row_number, same_row}
use Rattle.xterm_page.proofs.EqualLemmas.{lists_equal, rows_equal}

-- a row that is written
pub row_written : (rows : List (List Cell)) (line : ℕ) (row : List Cell) → 1 ≤ line → line ≤ length rows → row_at (set rows (line - 1) row) line ≡ row
row_written rows line row low high =
    let within : line - 1 < length rows = omega arith in
    let long : length (set rows (line - 1) row) ≡ length rows = simp length-set in
    row_read (set rows (line - 1) row) line row low (omega (arith, high, long)) ∙ get_or-set_same rows (line - 1) row row within

-- as many rows that are the others line by line are the others
pub rows_by_line : (height : ℕ) (rows others : List (List Cell)) → length rows ≡ height → length others ≡ height
    → ((line : ℕ) → 1 ≤ line → line ≤ height → row_at rows line ≡ row_at others line) → rows ≡ others
unfolding nth
rows_by_line height rows others long long' same =
    lists_equal [] rows others (long ∙ sym long') (λ k below. same (suc k) (omega arith) (omega (arith, below, long)))

-- rows of the sheet that a terminal shows are those of what was played
pub kept_by : SizeStays → (p : Picture) (terminal : Seen) (size : Size) (bytes : List ℕ) (rows : List (List Cell)) → p ≡ terminal.console.picture
    → Shows terminal (play (reset_as size) bytes) → KeptAll p.lines p.columns rows p.rows
    → KeptAll size.lines size.columns rows (console_by size.columns size.lines bytes).picture.rows
kept_by law p terminal size bytes rows is shows kept =
    let same : p ≡ (play (reset_as size) bytes).console.picture = is ∙ sym (ap (λ s. s.picture) shows.console) in
    let stays = law (reset_as size) bytes in
    subst (λ others. KeptAll size.lines size.columns rows others) (ap (λ (q : Picture). q.rows) same)
    (subst (λ m. KeptAll size.lines m rows p.rows) (ap (λ (q : Picture). q.columns) same ∙ stays.columns)
    (subst (λ n. KeptAll n p.columns rows p.rows) (ap (λ (q : Picture). q.lines) same ∙ stays.lines) kept))

-- rows as wide as the terminal is are as wide as the sheet that it shows
pub wide_by : SizeStays → (p : Picture) (terminal : Seen) (size : Size) (bytes : List ℕ) (rows : List (List Cell)) → p ≡ terminal.console.picture
    → Shows terminal (play (reset_as size) bytes) → AreWide size.lines size.columns rows → AreWide p.lines p.columns rows
wide_by law p terminal size bytes rows is shows wide =
    let same : p ≡ (play (reset_as size) bytes).console.picture = is ∙ sym (ap (λ s. s.picture) shows.console) in
    let stays = law (reset_as size) bytes in
    subst (λ m. AreWide p.lines m rows) (sym (ap (λ (q : Picture). q.columns) same ∙ stays.columns))
    (subst (λ n. AreWide n size.columns rows) (sym (ap (λ (q : Picture). q.lines) same ∙ stays.lines)) wide)

-- a terminal has the size that it was opened with
pub columns_by : SizeStays → (terminal : Seen) (size : Size) (bytes : List ℕ) → Shows terminal (play (reset_as size) bytes)
    → terminal.console.picture.columns ≡ size.columns
columns_by law terminal size bytes shows = ap (λ s. s.picture.columns) (sym shows.console) ∙ (law (reset_as size) bytes).columns

pub lines_by : SizeStays → (terminal : Seen) (size : Size) (bytes : List ℕ) → Shows terminal (play (reset_as size) bytes)
    → terminal.console.picture.lines ≡ size.lines
lines_by law terminal size bytes shows = ap (λ s. s.picture.lines) (sym shows.console) ∙ (law (reset_as size) bytes).lines

-- ---- lines that differ

-- where the others are told, a line that isn't renewed has the row of before
stays : (origins : List ℕ) (line : ℕ) (before after : List (List Cell)) → MarksTell before origins after
    → is_renewed origins (row_at before line) (row_at after line) line ≡ false → row_at before line ≡ row_at after line
stays origins line before after told same = elim (cases_Bool (is_touched origins line)) [
  | inl t ↦ rows_equal (row_at before line) (row_at after line)
      (not-false _ (sym (ap (λ b. b && not (same_row (row_at before line) (row_at after line))) t) ∙ same))
  | inr f ↦ sym (told.stay line f)
]

-- where the others are told, a line has its row of after, renewed or not
pub told_or_stays : (origins : List ℕ) (line : ℕ) (before after : List (List Cell)) → MarksTell before origins after
    → cond (is_renewed origins (row_at before line) (row_at after line) line) (row_at after line) (row_at before line) ≡ row_at after line
told_or_stays origins line before after told =
    elim (cases_Bool (is_renewed origins (row_at before line) (row_at after line) line)) [
      | inl t ↦ ap (λ b. cond b (row_at after line) (row_at before line)) t
      | inr f ↦ ap (λ b. cond b (row_at after line) (row_at before line)) f ∙ stays origins line before after told f
    ]

-- a line that was a row, where an earlier one may have been it
abbrev pub or_line : Option ℕ → ℕ → ℕ
or_line (Some line) other = line
or_line None other = other

first_or : (xs : List ℕ) (x : ℕ) (ys : List ℕ) → first_of (xs ++ x ∷ ys) ≡ Some (or_line (first_of xs) x)
first_or [] x ys = refl
first_or (y ∷ xs) x ys = refl

pub line_or : (rows : List (List Cell)) (row : List Cell) (place : ℕ) → place < length rows → same_row (row_at rows (place + 1)) row ≡ true
    → line_of (length rows) rows row ≡ Some (or_line (line_of place rows row) (place + 1))
line_or rows row place within same =
    let p : ℕ → Bool = λ line. same_row (row_at rows line) row in
    let more = length rows - (place + 1) in
    let all : length rows ≡ place + (more + 1) = omega (arith, within) in
    let next : 1 + place ≡ place + 1 = omega arith in
    let here : p (1 + place) ≡ true = ap p next ∙ same in
    ap (λ n. first_of (filter p (range_with_len 1 n))) all
    ∙ ap (λ l. first_of (filter p l)) (range_split 1 place (more + 1) ∙ ap (λ l. range_with_len 1 place ++ l) (range_first (1 + place) (more + 1) more refl))
    ∙ ap first_of (filter-append p (range_with_len 1 place) ((1 + place) ∷ range_with_len (1 + place + 1) more))
    ∙ ap (λ b. first_of (filter p (range_with_len 1 place) ++ cond b ((1 + place) ∷ filter p (range_with_len (1 + place + 1) more)) (filter p (range_with_len (1 + place + 1) more)))) here
    ∙ first_or (filter p (range_with_len 1 place)) (1 + place) (filter p (range_with_len (1 + place + 1) more))
    ∙ ap (λ n. Some (or_line (line_of place rows row) n)) next

-- the number of a row that a line was
pub line_number : (rows : List (List Cell)) (row d : List Cell) (place number : ℕ) → place < length rows → d ≡ get_or rows place d
    → number ≡ row_number d → same_row (row_at rows (place + 1)) row ≡ true → number ≡ row_number row
line_number rows row d place number within is told same =
    let there : place + 1 - 1 ≡ place = omega arith in
    told ∙ ap row_number (is ∙ sym (row_read rows (place + 1) d (omega arith) (omega (arith, within)) ∙ ap (λ n. get_or rows n d) there)
    ∙ rows_equal (row_at rows (place + 1)) row same)
