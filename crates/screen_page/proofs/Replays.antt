-- The page replays: rows that entries name or give are those of the terminal, entry by entry.
use Rattle.std.proofs.Common.{◌≡◌, ℕ, zero, suc, ◌+◌, ◌-◌, ◌<◌, ◌≤◌, Bool, true, false, List, [], ◌∷◌, ◌++◌, length, get_or, map, filter, take, refl, ap, sym, ◌∙◌, arith, inl, inr, Option, Some, None}
use Rattle.std.specs.Prelude.{◌↔◌}
use Rattle.std.specs.List.{range_with_len}
use Rattle.std.proofs.lemmas.Bool.{cases_Bool, cases_eq, not-false}
use Rattle.std.proofs.lemmas.Bool.Decides.{nat_tests}
use Rattle.std.proofs.lemmas.List.{get_or-map, length-map}
use Rattle.std.proofs.lemmas.List.FromFn.{fill_by_all, get_or-map-range_with_len, length-map-range_with_len, map-range_with_len_more, take-map-range_with_len}
use Rattle.tape_core.specs.Due.{due_time, first}
use Rattle.tape_core.specs.Tape.{Tape}
use Rattle.vt_screen.specs.declared.cell.Row.{Row}
use Rattle.vt_screen.specs.Cells.{blank_cells, blank_row, row_at}
use Rattle.vt_screen.specs.Table.{nth, table}
use Rattle.vt_term.specs.declared.profile.Profile.{Profile}
use Rattle.vt_term.specs.Console.{IsSafe}
use Rattle.vt_term.specs.Law.{StaysSafe}
use Rattle.vt_term.specs.Rows.{named}
use Rattle.vt_term.specs.Term.{play, reset_term_as}
use Rattle.screen_rows.specs.SameRows.{changed_lines, is_changed, same_row}
use Rattle.screen_print.specs.Stills.{Still}
use Rattle.screen_print.specs.Walk.{still_after}
use Rattle.screen_rows.specs.Runs.{runs_of}
use Rattle.screen_page.specs.Entries.{Change, Entry, ShownRow, change_by, change_of, entries, entry_at, entry_of, first_entry, first_of, line_of, shown}
use Rattle.screen_page.specs.Folded.{empty_row, empty_rows, folded, line_after, rows_after, rows_from, shown_at}
use Rattle.screen_page.specs.Law.{IsFolded, PageReplays, entry_behind}

-- ---- what a list of changes names

-- a line that passes is named as what it becomes
pub named_in : {X : Type 0} (f : ℕ → X) (p : ℕ → Bool) (a n k : ℕ) → a ≤ k → k < a + n → p k ≡ true
    → named (map (λ line. (line, f line)) (filter p (range_with_len a n))) k ≡ Some (f k)
named_in f p a zero k low high is = absurd (omega arith)
named_in f p a (suc n) k low high is = elim (cases_eq k a) [
  | inl e ↦
      let here = ap p (sym e) ∙ is in
      let same = ap f (sym e) in
      rw here (grind (arith, nat_tests))
  | inr ne ↦
      let rest = named_in f p (a + 1) n k (omega arith) (omega arith) is in
      elim (cases_Bool (p a)) [ inl t ↦ rw t (grind (arith, nat_tests)) | inr f ↦ rw f rest ]
]

-- any other line isn't named
pub named_out : {X : Type 0} (f : ℕ → X) (p : ℕ → Bool) (a n k : ℕ) → p k ≡ false
    → named (map (λ line. (line, f line)) (filter p (range_with_len a n))) k ≡ None
named_out f p a zero k is = refl
named_out f p a (suc n) k is =
    let rest = named_out f p (a + 1) n k is in
    elim (cases_eq k a) [
      | inl e ↦ rw (ap p (sym e) ∙ is) rest
      | inr ne ↦ elim (cases_Bool (p a)) [ inl t ↦ rw t (grind (arith, nat_tests)) | inr f ↦ rw f rest ]
    ]

-- ---- the first line that was a row

-- a number that passes, of a range, or none
abbrev pub IsFirst : (ℕ → Bool) → ℕ → ℕ → Option ℕ → Type 0
IsFirst p low high None = Unit {0}
IsFirst p low high (Some line) = (p line ≡ true) × (low ≤ line) × (line < high)

first_below : (p : ℕ → Bool) (a n : ℕ) (first : Option ℕ) → IsFirst p (a + 1) (a + 1 + n) first
    → IsFirst p a (a + suc n) first
first_below p a n None is = tt
first_below p a n (Some line) is = (is.0, omega (arith, is.1), omega (arith, is.2))

pub first_is : (p : ℕ → Bool) (a n : ℕ) → IsFirst p a (a + n) (first_of (filter p (range_with_len a n)))
first_is p a zero = tt
first_is p a (suc n) = elim (cases_Bool (p a)) [
  | inl t ↦ rw t (t, omega arith, omega arith)
  | inr f ↦ rw f (first_below p a n (first_of (filter p (range_with_len (a + 1) n))) (first_is p (a + 1) n))
]

-- ---- rows

pub table_same : {X : Type 0} (f g : ℕ → X) (a n : ℕ) → ((k : ℕ) → a ≤ k → k < a + n → f k ≡ g k)
    → map f (range_with_len a n) ≡ map g (range_with_len a n)
table_same f g a zero same = refl
table_same f g a (suc n) same =
    rw (same a (omega arith) (omega arith))
    (ap (λ rest. g a ∷ rest) (table_same f g (a + 1) n (λ k low high. same k (omega arith) (omega arith))))

pub table_moved : {X : Type 0} (f : ℕ → X) (a n : ℕ)
    → map (λ k. f (k + 1)) (range_with_len a n) ≡ map f (range_with_len (a + 1) n)
table_moved f a zero = refl
table_moved f a (suc n) = ap (λ rest. f (a + 1) ∷ rest) (table_moved f (a + 1) n)

-- shown rows are told by their lines
shown_at_line : (rows : List Row) (line : ℕ) → length rows ≡ 24 → 1 ≤ line → line ≤ 24
    → shown_at (map shown rows) line ≡ shown (row_at rows line)
unfolding nth
shown_at_line rows line whole low high = get_or-map shown rows (line - 1) blank_row empty_row (omega arith)

shown_told : (rows : List Row) → length rows ≡ 24 → map shown rows ≡ table 24 (λ line. shown (row_at rows line))
unfolding table nth
shown_told rows whole =
    fill_by_all (λ k. shown (row_at rows (k + 1))) (map shown rows) 24 empty_row (length-map rows shown ∙ whole)
    (λ k below. get_or-map shown rows k blank_row empty_row (omega arith) ∙ ap (λ i. shown (get_or rows i blank_row)) (omega arith))
    ∙ table_moved (λ line. shown (row_at rows line)) 0 24

-- ---- an entry

-- laws below: the test that lines go by tells equal rows
abbrev pub SameTells : Type 0
SameTells = (one other : Row) → ((same_row one other ≡ true) ↔ (one ≡ other))

-- a line that is told by another or as it is
told_by : (before : List Row) (row : Row) (line : ℕ) (first : Option ℕ) → SameTells → length before ≡ 24
    → IsFirst (λ k. same_row (row_at before k) row) 1 25 first
    → line_after (map shown before) line (Some (change_by first row)) ≡ shown row
told_by before row line None same whole is = refl
told_by before row line (Some other) same whole is =
    shown_at_line before other whole is.1 (omega (arith, is.2)) ∙ ap shown ((same (row_at before other) row).0 is.0)

-- a line after a chunk
line_becomes : (before after : List Row) (line : ℕ) → SameTells → length before ≡ 24 → 1 ≤ line → line ≤ 24
    → line_after (map shown before) line (named (map (change_of before after) (changed_lines before after)) line)
    ≡ shown (row_at after line)
unfolding changed_lines
line_becomes before after line same whole low high =
    let row = row_at after line in
    let becomes : ℕ → Change = λ k. change_by (line_of before (row_at after k)) (row_at after k) in
    elim (cases_Bool (is_changed before after line)) [
      | inl t ↦
          ap (line_after (map shown before) line) (named_in becomes (is_changed before after) 1 24 line low (omega arith) t)
          ∙ told_by before row line (line_of before row) same whole (first_is (λ k. same_row (row_at before k) row) 1 24)
      | inr f ↦
          ap (line_after (map shown before) line) (named_out becomes (is_changed before after) 1 24 line f)
          ∙ shown_at_line before line whole low high ∙ ap shown ((same (row_at before line) row).0 (not-false _ f))
    ]

-- all rows after a chunk
entry_tells : (due : ℕ) (before after : Still) → SameTells → length before.rows ≡ 24 → length after.rows ≡ 24
    → rows_after (map shown before.rows) (entry_of due before after) ≡ map shown after.rows
unfolding table
entry_tells due before after same whole whole' =
    table_same _ (λ line. shown (row_at after.rows line)) 1 24
    (λ line low high. line_becomes before.rows after.rows line same whole low (omega arith))
    ∙ sym (shown_told after.rows whole')

-- ---- all entries

rows_more : (rows : List ShownRow) (all : List Entry) (last : Entry)
    → rows_from rows (all ++ last ∷ []) ≡ rows_after (rows_from rows all) last
rows_more rows [] last = refl
rows_more rows (entry ∷ rest) last = rows_more (rows_after rows entry) rest last

map_all : (row : Row) (lines : List ℕ) → map shown (map (λ _. row) lines) ≡ map (λ _. shown row) lines
map_all row [] = refl
map_all row (line ∷ rest) = ap (λ l. shown row ∷ l) (map_all row rest)

blank_shown : shown blank_row ≡ empty_row
unfolding shown runs_of blank_cells
blank_shown = refl

-- before all chunks nothing stands on the screen
none_shown : (profile : Profile) (tape : Tape) → map shown (still_after profile tape 0).rows ≡ empty_rows
unfolding empty_rows table play
none_shown profile tape = map_all blank_row (range_with_len 1 24) ∙ ap (λ row. map (λ _. row) (range_with_len 1 24)) blank_shown

empty_at : (line : ℕ) → 1 ≤ line → line < 25 → shown_at empty_rows line ≡ empty_row
unfolding empty_rows table nth
empty_at line low high = get_or-map-range_with_len (λ _. empty_row) 1 24 (line - 1) line empty_row (omega arith) (omega arith)

first_tells : rows_after empty_rows first_entry ≡ empty_rows
unfolding empty_rows table
first_tells = table_same (shown_at empty_rows) (λ _. empty_row) 1 24 empty_at

-- the laws of a terminal that this stands on
pub record Safe : Type 0 where
  pub reset : (profile : Profile) → IsSafe (reset_term_as profile).console
  pub played : StaysSafe

whole_after : (profile : Profile) (tape : Tape) (count : ℕ) → Safe → length (still_after profile tape count).rows ≡ 24
whole_after profile tape count safe =
    (safe.played (reset_term_as profile) (first tape.chunks count) (safe.reset profile)).sound.rows

rows_fold : (profile : Profile) (tape : Tape) (count : ℕ) → SameTells → Safe
    → folded (first_entry ∷ map (entry_at profile tape) (range_with_len 0 count)) ≡ map shown (still_after profile tape count).rows
rows_fold profile tape zero same safe = first_tells ∙ sym (none_shown profile tape)
rows_fold profile tape (suc n) same safe =
    let entry = entry_at profile tape in
    let before = still_after profile tape n in
    let after = still_after profile tape (n + 1) in
    let next : suc n ≡ n + 1 = omega arith in
    ap (λ m. folded (first_entry ∷ map entry (range_with_len 0 m))) next
    ∙ ap (λ l. folded (first_entry ∷ l)) (map-range_with_len_more entry 0 n n (omega arith))
    ∙ rows_more (rows_after empty_rows first_entry) (map entry (range_with_len 0 n)) (entry n)
    ∙ ap (λ rows. rows_after rows (entry n)) (rows_fold profile tape n same safe)
    ∙ entry_tells (due_time tape.chunks n) before after same (whole_after profile tape n safe) (whole_after profile tape (n + 1) safe)
    ∙ ap (λ m. map shown (still_after profile tape m).rows) (sym next)

-- entry n + 1 is that of chunk n
entry_is : (profile : Profile) (tape : Tape) (n : ℕ) → n < length tape.chunks
    → entry_behind profile tape (suc n) ≡ entry_at profile tape n
entry_is profile tape n below =
    get_or-map-range_with_len (entry_at profile tape) 0 (length tape.chunks) n n first_entry below (omega arith)

last_is : (profile : Profile) (tape : Tape) (count : ℕ) (all : List Entry) → count ≤ length tape.chunks
    → folded all ≡ map shown (still_after profile tape count).rows
    → IsFolded all (entry_behind profile tape count) (still_after profile tape count)
unfolding play
last_is profile tape zero all within rows =
    record { rows = rows; wide = refl; reversed = refl; line = refl; column = refl }
last_is profile tape (suc n) all within rows =
    let is = entry_is profile tape n (omega arith) in
    let at : n + 1 ≡ suc n = omega arith in
    let still = still_after profile tape in
    record {
      rows = rows;
      wide = ap (λ e. e.wide) is ∙ ap (λ m. (still m).wide) at;
      reversed = ap (λ e. e.reversed) is ∙ ap (λ m. (still m).reversed) at;
      line = ap (λ e. e.line) is ∙ ap (λ m. (still m).line) at;
      column = ap (λ e. e.column) is ∙ ap (λ m. (still m).column) at;
    }

taken : (profile : Profile) (tape : Tape) (count : ℕ) → count ≤ length tape.chunks
    → take (count + 1) (entries profile tape) ≡ first_entry ∷ map (entry_at profile tape) (range_with_len 0 count)
taken profile tape count within =
    let next : count + 1 ≡ suc count = omega arith in
    ap (λ m. take m (entries profile tape)) next
    ∙ ap (λ l. first_entry ∷ l) (take-map-range_with_len (entry_at profile tape) 0 (length tape.chunks) count within)

pub page_replays : SameTells → ((profile : Profile) → IsSafe (reset_term_as profile).console) → StaysSafe → PageReplays
page_replays same reset played =
    let safe : Safe = record { reset = reset; played = played } in
    record {
      folds = λ profile tape count within.
          last_is profile tape count (take (count + 1) (entries profile tape)) within
          (ap folded (taken profile tape count within) ∙ rows_fold profile tape count same safe);
      begins = λ profile tape. refl;
      due = λ profile tape index below.
          let next : index + 1 ≡ suc index = omega arith in
          ap (λ m. (entry_behind profile tape m).due) next ∙ ap (λ e. e.due) (entry_is profile tape index below);
      whole = λ profile tape.
          omega (arith, length-map-range_with_len (entry_at profile tape) 0 (length tape.chunks));
    }
