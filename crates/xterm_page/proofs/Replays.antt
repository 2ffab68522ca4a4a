-- The page replays: rows that entries name or give are those of the terminal, entry by entry.
use Rattle.std.proofs.Common.{◌≡◌, ℕ, zero, suc, ◌+◌, ◌-◌, ◌<◌, ◌≤◌, true, List, [], ◌∷◌, ◌++◌, length, get_or, map, take, not, refl, ap, sym, ◌∙◌, arith, inl, inr, Option, Some, None}
use Rattle.std.specs.List.{range_with_len}
use Rattle.std.proofs.lemmas.Bool.{cases_Bool, not-false}
use Rattle.std.proofs.lemmas.List.{get_or-map, length-map}
use Rattle.std.proofs.lemmas.List.Sums.{suffix_len_is}
use Rattle.std.specs.List.{suffix_len}
use Rattle.std.proofs.lemmas.List.FromFn.{get_or-map-range_with_len, length-map-range_with_len, map-range_with_len_more, take-map-range_with_len}
use Rattle.tape_core.specs.Due.{due_time, first}
use Rattle.tape_core.specs.Tape.{Tape}
use Rattle.sheet.specs.declared.rendition.Colour.TheVariants.{Default}
use Rattle.sheet.specs.Cells.{Cell, blank, is_covered}
use Rattle.sheet.specs.Grid.{blank_row, row_at}
use Rattle.sheet.specs.Table.{nth, table}
use Rattle.vt_term.specs.Rows.{named}
use Rattle.xterm_term.specs.Console.{Console, IsSafe}
use Rattle.xterm_term.specs.Law.{SizeStays, StaysSafe}
use Rattle.xterm_term.specs.Size.{IsSize}
use Rattle.xterm_term.specs.Term.{play, reset_term}
use Rattle.xterm_rows.specs.Ink.{attribute_number, colour_number, inked, is_blank}
use Rattle.xterm_rows.specs.RowText.{is_space}
use Rattle.screen_page.proofs.Replays.{IsFirst, first_is, named_in, named_out, table_moved, table_same}
use Rattle.xterm_page.specs.Entries.{Change, Entry, ShownRun, cells_shown, change_by, changed_lines, changes, console_by, entries, entry_at, entry_of, first_entry, is_changed, line_of, shown}
use Rattle.xterm_page.specs.Folded.{empty_rows, folded, line_after, row_of_line, rows_after, rows_from}
use Rattle.xterm_page.specs.Law.{IsFolded, PageReplays, entry_behind}
use Rattle.xterm_page.specs.Same.{same_row}
use Rattle.xterm_page.proofs.EqualLemmas.{lists_equal, rows_equal}

-- ---- rows

-- shown rows are told by their lines
shown_at_line : (lines : ℕ) (rows : List (List Cell)) (line : ℕ) → length rows ≡ lines → 1 ≤ line → line ≤ lines
    → row_of_line (map shown rows) line ≡ shown (row_at rows line)
unfolding nth
shown_at_line lines rows zero whole low high = absurd (omega (arith, low))
shown_at_line lines rows (suc k) whole low high = get_or-map shown rows k [] [] (omega (arith, high, whole))

-- a table by line is the list whose lines it tells
told_by_line : {X : Type 0} (lines : ℕ) (f : ℕ → X) (xs : List X) (d : X) → length xs ≡ lines
    → ((k : ℕ) → k < lines → get_or xs k d ≡ f (k + 1)) → table lines f ≡ xs
unfolding table
told_by_line lines f xs d whole same =
    sym (table_moved f 0 lines) ∙ sym (lists_equal d xs (map (λ k. f (k + 1)) (range_with_len 0 lines))
    (whole ∙ sym (length-map-range_with_len (λ k. f (k + 1)) 0 lines))
    (λ k below. same k (omega (arith, below, whole))
    ∙ sym (get_or-map-range_with_len (λ i. f (i + 1)) 0 lines k k d (omega (arith, below, whole)) (omega arith))))

shown_next : (rows : List (List Cell)) (k : ℕ) → shown (get_or rows k []) ≡ shown (row_at rows (k + 1))
unfolding nth
shown_next rows k = let next : suc k ≡ k + 1 = omega arith in ap (λ n. shown (row_at rows n)) next

shown_told : (lines : ℕ) (rows : List (List Cell)) → length rows ≡ lines → table lines (λ line. shown (row_at rows line)) ≡ map shown rows
unfolding nth
shown_told lines rows whole =
    told_by_line lines (λ line. shown (row_at rows line)) (map shown rows) [] (length-map rows shown ∙ whole)
    (λ k below. get_or-map shown rows k [] [] (omega (arith, below, whole)) ∙ shown_next rows k)

-- ---- an entry

-- a line that is told by another or as it is
told_by : (lines : ℕ) (before : List (List Cell)) (row : List Cell) (line : ℕ) (first : Option ℕ) → length before ≡ lines
    → IsFirst (λ k. same_row (row_at before k) row) 1 (1 + lines) first
    → line_after (map shown before) line (Some (change_by first row)) ≡ shown row
told_by lines before row line None whole is = refl
told_by lines before row line (Some other) whole is =
    shown_at_line lines before other whole is.1 (omega (arith, is.2)) ∙ ap shown (rows_equal (row_at before other) row is.0)

-- a line after a chunk
line_becomes : (lines : ℕ) (before after : List (List Cell)) (line : ℕ) → length before ≡ lines → 1 ≤ line → line ≤ lines
    → line_after (map shown before) line (named (changes lines before after) line) ≡ shown (row_at after line)
unfolding changes changed_lines
line_becomes lines before after line whole low high =
    let row = row_at after line in
    let becomes : ℕ → Change = λ k. change_by (line_of lines before (row_at after k)) (row_at after k) in
    elim (cases_Bool (is_changed before after line)) [
      | inl t ↦
          ap (line_after (map shown before) line) (named_in becomes (is_changed before after) 1 lines line low (omega arith) t)
          ∙ told_by lines before row line (line_of lines before row) whole (first_is (λ k. same_row (row_at before k) row) 1 lines)
      | inr f ↦
          ap (line_after (map shown before) line) (named_out becomes (is_changed before after) 1 lines line f)
          ∙ shown_at_line lines before line whole low high ∙ ap shown (rows_equal (row_at before line) row (not-false _ f))
    ]

-- all rows after a chunk
entry_tells : (due lines : ℕ) (before : List (List Cell)) (after : Console) → after.picture.lines ≡ lines → length before ≡ lines
    → length after.picture.rows ≡ lines → rows_after lines (map shown before) (entry_of due before after) ≡ map shown after.picture.rows
unfolding table
entry_tells due lines before after size whole whole' =
    ap (λ n. table lines (λ line. line_after (map shown before) line (named (changes n before after.picture.rows) line))) size
    ∙ table_same _ (λ line. shown (row_at after.picture.rows line)) 1 lines
    (λ line low high. line_becomes lines before after.picture.rows line whole low (omega arith))
    ∙ shown_told lines after.picture.rows whole'

-- ---- all entries

rows_more : (lines : ℕ) (rows : List (List ShownRun)) (all : List Entry) (last : Entry)
    → rows_from lines rows (all ++ last ∷ []) ≡ rows_after lines (rows_from lines rows all) last
rows_more lines rows [] last = refl
rows_more lines rows (entry ∷ rest) last = rows_more lines (rows_after lines rows entry) rest last

-- nothing is shown of blank cells
blank_is : is_blank (blank Default) ≡ true
unfolding is_space is_covered blank attribute_number colour_number
blank_is = refl

all_blank : (cells : List Cell) → ((k : ℕ) → k < length cells → get_or cells k (blank Default) ≡ blank Default) → inked cells ≡ []
unfolding inked
all_blank cells same =
    let none : length cells - suffix_len is_blank cells ≡ 0 =
    omega (arith, suffix_len_is is_blank cells 0 (blank Default) (omega arith) (λ k low below. ap is_blank (same k below) ∙ blank_is) (λ impossible. absurd (omega (arith, impossible)))) in
    ap (λ n. take n cells) none

none_inked : (columns : ℕ) → inked (blank_row columns Default) ≡ []
unfolding table
none_inked columns =
    all_blank (blank_row columns Default)
    (λ k below. get_or-map-range_with_len (λ _. blank Default) 1 columns k (1 + k) (blank Default)
    (omega (arith, below, length-map-range_with_len (λ _. blank Default) 1 columns)) refl)

none_shown : (columns : ℕ) → shown (blank_row columns Default) ≡ []
unfolding shown cells_shown
none_shown columns = ap cells_shown (none_inked columns)

map_all : (row : List Cell) (lines : List ℕ) → map shown (map (λ _. row) lines) ≡ map (λ _. shown row) lines
map_all row [] = refl
map_all row (line ∷ rest) = ap (λ l. shown row ∷ l) (map_all row rest)

-- before all chunks nothing stands on the screen
first_shown : (columns lines : ℕ) → map shown (console_by columns lines []).picture.rows ≡ empty_rows lines
unfolding empty_rows table play
first_shown columns lines =
    map_all (blank_row columns Default) (range_with_len 1 lines)
    ∙ ap (λ row. map (λ _. row) (range_with_len 1 lines)) (none_shown columns)

empty_at : (lines line : ℕ) → 1 ≤ line → line < 1 + lines → row_of_line (empty_rows lines) line ≡ []
unfolding empty_rows table nth
empty_at lines zero low high = absurd (omega (arith, low))
empty_at lines (suc k) low high = get_or-map-range_with_len (λ _. []) 1 lines k (1 + k) [] (omega (arith, high)) refl

first_tells : (lines : ℕ) → rows_after lines (empty_rows lines) first_entry ≡ empty_rows lines
unfolding empty_rows table
first_tells lines = table_same (row_of_line (empty_rows lines)) (λ _. []) 1 lines (empty_at lines)

-- the laws of a terminal that this stands on
pub record Laws : Type 0 where
  pub reset : (columns lines : ℕ) → IsSize columns lines → IsSafe (reset_term columns lines).console
  pub played : StaysSafe
  pub size : SizeStays

-- what stands after so many chunks
abbrev console_after : ℕ → ℕ → Tape → ℕ → Console
console_after columns lines tape count = console_by columns lines (first tape.chunks count)

lines_after : (columns lines : ℕ) (tape : Tape) (count : ℕ) → Laws → (console_after columns lines tape count).picture.lines ≡ lines
lines_after columns lines tape count laws = (laws.size (reset_term columns lines) (first tape.chunks count)).lines

whole_after : (columns lines : ℕ) (tape : Tape) (count : ℕ) → Laws → IsSize columns lines
    → length (console_after columns lines tape count).picture.rows ≡ lines
whole_after columns lines tape count laws is =
    (laws.played (reset_term columns lines) (first tape.chunks count) (laws.reset columns lines is)).sound.rows ∙ lines_after columns lines tape count laws

rows_fold : (columns lines : ℕ) (tape : Tape) (count : ℕ) → Laws → IsSize columns lines
    → folded lines (first_entry ∷ map (entry_at columns lines tape) (range_with_len 0 count)) ≡ map shown (console_after columns lines tape count).picture.rows
rows_fold columns lines tape zero laws is = first_tells lines ∙ sym (first_shown columns lines)
rows_fold columns lines tape (suc n) laws is =
    let entry = entry_at columns lines tape in
    let before = console_after columns lines tape n in
    let after = console_after columns lines tape (n + 1) in
    let next : suc n ≡ n + 1 = omega arith in
    ap (λ m. folded lines (first_entry ∷ map entry (range_with_len 0 m))) next
    ∙ ap (λ l. folded lines (first_entry ∷ l)) (map-range_with_len_more entry 0 n n (omega arith))
    ∙ rows_more lines (rows_after lines (empty_rows lines) first_entry) (map entry (range_with_len 0 n)) (entry n)
    ∙ ap (λ rows. rows_after lines rows (entry n)) (rows_fold columns lines tape n laws is)
    ∙ entry_tells (due_time tape.chunks n) lines before.picture.rows after (lines_after columns lines tape (n + 1) laws) (whole_after columns lines tape n laws is) (whole_after columns lines tape (n + 1) laws is)
    ∙ ap (λ m. map shown (console_after columns lines tape m).picture.rows) (sym next)

-- entry n + 1 is that of chunk n
entry_told : (columns lines : ℕ) (tape : Tape) (n : ℕ) → n < length tape.chunks → entry_behind columns lines tape (suc n) ≡ entry_at columns lines tape n
entry_told columns lines tape n below =
    get_or-map-range_with_len (entry_at columns lines tape) 0 (length tape.chunks) n n first_entry below (omega arith)

last_is : (columns lines : ℕ) (tape : Tape) (count : ℕ) (all : List Entry) → count ≤ length tape.chunks
    → folded lines all ≡ map shown (console_after columns lines tape count).picture.rows
    → IsFolded lines all (entry_behind columns lines tape count) (console_after columns lines tape count)
unfolding play
last_is columns lines tape zero all within rows =
    record { rows = rows; reversed = refl; hidden = refl; line = refl; column = refl }
last_is columns lines tape (suc n) all within rows =
    let is = entry_told columns lines tape n (omega arith) in
    let at : n + 1 ≡ suc n = omega arith in
    let console = console_after columns lines tape in
    record {
      rows = rows;
      reversed = ap (λ e. e.reversed) is ∙ ap (λ m. (console m).modes.reverse_screen) at;
      hidden = ap (λ e. e.hidden) is ∙ ap (λ m. not (console m).modes.cursor_shown) at;
      line = ap (λ e. e.line) is ∙ ap (λ m. (console m).picture.line) at;
      column = ap (λ e. e.column) is ∙ ap (λ m. (console m).picture.column) at;
    }

taken : (columns lines : ℕ) (tape : Tape) (count : ℕ) → count ≤ length tape.chunks
    → take (count + 1) (entries columns lines tape) ≡ first_entry ∷ map (entry_at columns lines tape) (range_with_len 0 count)
taken columns lines tape count within =
    let next : count + 1 ≡ suc count = omega arith in
    ap (λ m. take m (entries columns lines tape)) next
    ∙ ap (λ l. first_entry ∷ l) (take-map-range_with_len (entry_at columns lines tape) 0 (length tape.chunks) count within)

pub page_replays : ((columns lines : ℕ) → IsSize columns lines → IsSafe (reset_term columns lines).console) → StaysSafe → SizeStays → PageReplays
page_replays reset played stays =
    let laws : Laws = record { reset = reset; played = played; size = stays } in
    record {
      folds = λ columns lines tape count is within.
          last_is columns lines tape count (take (count + 1) (entries columns lines tape)) within
          (ap (folded lines) (taken columns lines tape count within) ∙ rows_fold columns lines tape count laws is);
      begins = λ columns lines tape. refl;
      due = λ columns lines tape index below.
          let next : index + 1 ≡ suc index = omega arith in
          ap (λ m. (entry_behind columns lines tape m).due) next ∙ ap (λ e. e.due) (entry_told columns lines tape index below);
      whole = λ columns lines tape.
          omega (arith, length-map-range_with_len (entry_at columns lines tape) 0 (length tape.chunks));
    }
