-- The data of a page is read as the entries that it was written of.
use Rattle.std.proofs.Common.{◌≡◌, ℕ, ◌+◌, ◌*◌, ◌^◌, ◌<◌, ◌≤◌, All, Bool, true, false, List, [], ◌∷◌, ◌++◌, Option, Some, None, append_assoc, append-nil, ap, sym, refl, subst, ◌∙◌, arith, decimal, get_or, map}
use Rattle.std.specs.List.{flat_map}
use Rattle.std.proofs.lemmas.List.Elements.{All-cons, All-head, All-map, All-nil, All-tail}
use Rattle.std.proofs.lemmas.List.Sums.{sum_by-le, sum_by-take-le}
use Rattle.tape_core.specs.Due.{due_time, first, indices}
use Rattle.tape_core.specs.Tape.{Tape, fits, longest_delay}
use Rattle.tape_core.specs.Law.{NumbersReadBack, SecondsReadBack}
use Rattle.tape_core.specs.Seconds.{last_moment}
use Rattle.tape_core.specs.Written.{seconds_form}
use Rattle.vt_screen.specs.Attributes.{bit}
use Rattle.vt_screen.specs.declared.cell.Size.{Size}
use Rattle.vt_screen.specs.declared.cell.Size.TheVariants.{Single, Double, Top, Bottom}
use Rattle.vt_screen.specs.declared.cell.Row.{Row}
use Rattle.vt_screen.specs.Cells.{row_at}
use Rattle.vt_screen.specs.Picture.{Picture, right_margin}
use Rattle.vt_term.specs.declared.profile.Profile.{Profile}
use Rattle.vt_term.specs.Console.{IsSafe}
use Rattle.vt_term.specs.Law.{StaysSafe}
use Rattle.vt_term.specs.Term.{play, reset_term_as}
use Rattle.screen_rows.specs.SameRows.{changed_lines, same_row, size_number}
use Rattle.screen_print.specs.Walk.{still_after}
use Rattle.screen_rows.specs.declared.runs.Kind.{Kind}
use Rattle.screen_rows.specs.Runs.{kind_number, runs_of}
use Rattle.screen_page.specs.Entries.{Change, Was, Is, Entry, ShownRow, ShownRun, change_by, change_of, entries, entry_at, first_entry, line_of, shown, shown_run}
use Rattle.screen_page.specs.EntryText.{comma_number, data_text, entry_front, entry_text, flags, listed, named_text, next_text, row_text, run_text}
use Rattle.screen_page.specs.Law.{IsShortChange, IsShortRun, IsWritable, PageReadsBack}
use Rattle.screen_page.specs.Reading.{Figure, Field, Number, Inner, Place, Before, InData, InEntry, InRow, Digits, Reading, all_told, at, changes_told, entries_read, entry_told, entry_with, fields_read, read_bytes, row_told, runs_told, size_told, told_by, whole}
use Rattle.screen_page.proofs.PageLemmas.{changed_are_lines}
use Rattle.screen_page.proofs.Replays.{IsFirst, Safe, first_is}
use Rattle.screen_page.proofs.ReadLemmas.{Reads, Stands, change_fields, close_at, number_text, read_append, reads_both, reads_close, reads_comma, reads_first, reads_lf, reads_number, reads_open, reads_runs, row_items, run_items, seconds_number, stands_at}

-- ---- changes

size_short : (size : Size) → size_number size < 2 ^ 64
size_short Single = omega arith
size_short Double = omega arith
size_short Top = omega arith
size_short Bottom = omega arith

-- a row behind its line's number
reads_row : (entries : List (List Field)) (fields : List Field) (row : ShownRow) → All IsShortRun row.runs
    → Reads (44 ∷ row_text row) (InEntry entries fields) (InEntry entries (fields ++ Inner (row_items row) ∷ []))
reads_row entries fields row short =
    let size = decimal (size_number row.size) in
    let runs = flat_map run_text row.runs in
    let outer : Place = InEntry entries fields in
    let first : Place = InRow entries fields (Figure size ∷ []) in
    let last : Place = InRow entries fields (row_items row) in
    let closing : Place = InEntry entries (fields ++ Inner (row_items row) ∷ []) in
    reads_both (44 ∷ []) (row_text row) outer outer closing (reads_comma outer)
    (reads_both ((91 ∷ size) ++ runs) (93 ∷ []) outer last closing
    (reads_both (91 ∷ size) runs outer first last (reads_first outer size (number_text (size_number row.size) (size_short row.size))) (reads_runs entries fields (Figure size ∷ []) row.runs short))
    (reads_close last))

reads_change : (entries : List (List Field)) (fields : List Field) (change : ℕ × Change) → IsShortChange change
    → Reads (named_text change) (InEntry entries fields) (InEntry entries (fields ++ change_fields change))
reads_change entries fields (line, Was other) short =
    let number = decimal line in
    let next = decimal other in
    let between : Place = InEntry entries (fields ++ Number number ∷ []) in
    subst (λ l. Reads (named_text (line, Was other)) (InEntry entries fields) (InEntry entries l))
    (append_assoc fields (Number number ∷ []) (Number next ∷ []))
    (reads_both (44 ∷ number) (44 ∷ next) (InEntry entries fields) between (InEntry entries ((fields ++ Number number ∷ []) ++ Number next ∷ []))
    (reads_number (InEntry entries fields) number (number_text line short.0)) (reads_number between next (number_text other short.1)))
reads_change entries fields (line, Is row) short =
    let number = decimal line in
    let between : Place = InEntry entries (fields ++ Number number ∷ []) in
    subst (λ l. Reads (named_text (line, Is row)) (InEntry entries fields) (InEntry entries l))
    (append_assoc fields (Number number ∷ []) (Inner (row_items row) ∷ []))
    (reads_both (44 ∷ number) (44 ∷ row_text row) (InEntry entries fields) between (InEntry entries ((fields ++ Number number ∷ []) ++ Inner (row_items row) ∷ []))
    (reads_number (InEntry entries fields) number (number_text line short.0)) (reads_row entries (fields ++ Number number ∷ []) row short.1))

reads_changes : (entries : List (List Field)) (fields : List Field) (changes : List (ℕ × Change)) → All IsShortChange changes
    → Reads (flat_map named_text changes) (InEntry entries fields) (InEntry entries (fields ++ flat_map change_fields changes))
reads_changes entries fields [] short = λ reading stands. subst (λ l. Stands reading (InEntry entries l)) (sym (append-nil fields)) stands
reads_changes entries fields (change ∷ changes) short =
    subst (λ l. Reads (flat_map named_text (change ∷ changes)) (InEntry entries fields) (InEntry entries l))
    (append_assoc fields (change_fields change) (flat_map change_fields changes))
    (reads_both (named_text change) (flat_map named_text changes) (InEntry entries fields) (InEntry entries (fields ++ change_fields change)) (InEntry entries ((fields ++ change_fields change) ++ flat_map change_fields changes))
    (reads_change entries fields change (All-head IsShortChange change changes short))
    (reads_changes entries (fields ++ change_fields change) changes (All-tail IsShortChange change changes short)))

-- ---- entries

abbrev fields_of : Entry → List Field
fields_of entry =
    Number (seconds_form entry.due) ∷ Number (decimal (flags entry)) ∷ Number (decimal entry.line) ∷ Number (decimal entry.column)
    ∷ flat_map change_fields entry.changes

bits_low : (wide reversed : Bool) → bit wide + 2 * bit reversed < 2 ^ 64
bits_low true true = omega arith
bits_low true false = omega arith
bits_low false true = omega arith
bits_low false false = omega arith

flags_low : (entry : Entry) → flags entry < 2 ^ 64
flags_low entry = bits_low entry.wide entry.reversed

reads_entry : SecondsReadBack → (entries : List (List Field)) (entry : Entry) → IsWritable entry
    → Reads (entry_text entry) (InData entries) (InData (entries ++ fields_of entry ∷ []))
reads_entry seconds entries entry short =
    let due = seconds_form entry.due in
    let marks = decimal (flags entry) in
    let line = decimal entry.line in
    let column = decimal entry.column in
    let outer : Place = InData entries in
    let one : Place = InEntry entries (Number due ∷ []) in
    let two : Place = InEntry entries (Number due ∷ Number marks ∷ []) in
    let three : Place = InEntry entries (Number due ∷ Number marks ∷ Number line ∷ []) in
    let front : List Field = Number due ∷ Number marks ∷ Number line ∷ Number column ∷ [] in
    let four : Place = InEntry entries front in
    let last : Place = InEntry entries (fields_of entry) in
    let changes = flat_map named_text entry.changes in
    reads_both ((91 ∷ entry_front entry) ++ changes) (93 ∷ []) outer last (InData (entries ++ fields_of entry ∷ []))
    (reads_both (91 ∷ entry_front entry) changes outer four last
    (reads_both (91 ∷ ((due ++ comma_number (flags entry)) ++ comma_number entry.line)) (44 ∷ column) outer three four
    (reads_both (91 ∷ (due ++ comma_number (flags entry))) (44 ∷ line) outer two three
    (reads_both (91 ∷ due) (44 ∷ marks) outer one two (reads_first outer due (seconds_number seconds entry.due short.due)) (reads_number one marks (number_text (flags entry) (flags_low entry))))
    (reads_number two line (number_text entry.line short.line)))
    (reads_number three column (number_text entry.column short.column)))
    (reads_changes entries front entry.changes short.changes))
    (reads_close last)

reads_next : SecondsReadBack → (entries : List (List Field)) (entry : Entry) → IsWritable entry
    → Reads (next_text entry) (InData entries) (InData (entries ++ fields_of entry ∷ []))
reads_next seconds entries entry short =
    let after : Place = InData (entries ++ fields_of entry ∷ []) in
    reads_both (44 ∷ []) (10 ∷ entry_text entry) (InData entries) (InData entries) after (reads_comma (InData entries))
    (reads_both (10 ∷ []) (entry_text entry) (InData entries) (InData entries) after (reads_lf (InData entries)) (reads_entry seconds entries entry short))

reads_rest : SecondsReadBack → (entries : List (List Field)) (rest : List Entry) → All IsWritable rest
    → Reads (flat_map next_text rest) (InData entries) (InData (entries ++ map fields_of rest))
reads_rest seconds entries [] short = λ reading stands. subst (λ l. Stands reading (InData l)) (sym (append-nil entries)) stands
reads_rest seconds entries (entry ∷ rest) short =
    subst (λ l. Reads (flat_map next_text (entry ∷ rest)) (InData entries) (InData l))
    (append_assoc entries (fields_of entry ∷ []) (map fields_of rest))
    (reads_both (next_text entry) (flat_map next_text rest) (InData entries) (InData (entries ++ fields_of entry ∷ [])) (InData ((entries ++ fields_of entry ∷ []) ++ map fields_of rest))
    (reads_next seconds entries entry (All-head IsWritable entry rest short))
    (reads_rest seconds (entries ++ fields_of entry ∷ []) rest (All-tail IsWritable entry rest short)))

reads_listed : SecondsReadBack → (all : List Entry) → All IsWritable all → Reads (listed all) (InData []) (InData (map fields_of all))
reads_listed seconds [] short = λ reading stands. stands
reads_listed seconds (entry ∷ rest) short =
    reads_both (entry_text entry) (flat_map next_text rest) (InData []) (InData (fields_of entry ∷ [])) (InData (map fields_of (entry ∷ rest)))
    (reads_entry seconds [] entry (All-head IsWritable entry rest short))
    (reads_rest seconds (fields_of entry ∷ []) rest (All-tail IsWritable entry rest short))

reads_data : SecondsReadBack → (all : List Entry) → All IsWritable all → fields_read (data_text all) ≡ Some (map fields_of all)
unfolding fields_read
reads_data seconds all short =
    let start = at Before (Digits []) in
    let opens = reads_both (91 ∷ []) (listed all) Before (InData []) (InData (map fields_of all)) (reads_open Before) (reads_listed seconds all short) in
    let stands = opens start (stands_at Before) in
    ap (λ (r : Reading). whole r.place)
    (read_append start (91 ∷ listed all) (93 ∷ []) ∙ close_at (read_bytes start (91 ∷ listed all)) (InData (map fields_of all)) stands)

-- ---- what fields tell

tells_runs : NumbersReadBack → (runs : List ShownRun) → All IsShortRun runs → runs_told (flat_map run_items runs) ≡ Some runs
tells_runs numbers [] short = refl
tells_runs numbers (run ∷ runs) short =
    rw (numbers.read run.kind (All-head IsShortRun run runs short), tells_runs numbers runs (All-tail IsShortRun run runs short)) refl

size_same : (size : Size) → size_told (size_number size) ≡ size
size_same Single = refl
size_same Double = refl
size_same Top = refl
size_same Bottom = refl

tells_row : NumbersReadBack → (row : ShownRow) → All IsShortRun row.runs → row_told (row_items row) ≡ Some (Is row)
tells_row numbers row short =
    rw (numbers.read (size_number row.size) (size_short row.size), tells_runs numbers row.runs short, size_same row.size) refl

tells_changes : NumbersReadBack → (changes : List (ℕ × Change)) → All IsShortChange changes
    → changes_told (flat_map change_fields changes) ≡ Some changes
tells_changes numbers [] short = refl
tells_changes numbers ((line, Was other) ∷ changes) short =
    let here = All-head IsShortChange (line, Was other) changes short in
    rw (numbers.read line here.0, numbers.read other here.1, tells_changes numbers changes (All-tail IsShortChange (line, Was other) changes short)) refl
tells_changes numbers ((line, Is row) ∷ changes) short =
    let here = All-head IsShortChange (line, Is row) changes short in
    rw (numbers.read line here.0, tells_row numbers row here.1, tells_changes numbers changes (All-tail IsShortChange (line, Is row) changes short)) refl

-- what the flags tell
flags_told : (due line column : ℕ) (wide reversed : Bool) (changes : List (ℕ × Change))
    → entry_with (Some due) (Some (bit wide + 2 * bit reversed)) (Some line) (Some column) (Some changes)
    ≡ Some (record { due = due; wide = wide; reversed = reversed; line = line; column = column; changes = changes })
flags_told due line column true true changes = refl
flags_told due line column true false changes = refl
flags_told due line column false true changes = refl
flags_told due line column false false changes = refl

tells_entry : NumbersReadBack → SecondsReadBack → (entry : Entry) → IsWritable entry → entry_told (fields_of entry) ≡ Some entry
tells_entry numbers seconds entry short =
    rw (seconds.read entry.due short.due, numbers.read (flags entry) (flags_low entry), numbers.read entry.line short.line, numbers.read entry.column short.column, tells_changes numbers entry.changes short.changes)
    (flags_told entry.due entry.line entry.column entry.wide entry.reversed entry.changes)

tells_all : NumbersReadBack → SecondsReadBack → (all : List Entry) → All IsWritable all → all_told (map fields_of all) ≡ Some all
tells_all numbers seconds [] short = refl
tells_all numbers seconds (entry ∷ rest) short =
    rw (tells_entry numbers seconds entry (All-head IsWritable entry rest short), tells_all numbers seconds rest (All-tail IsWritable entry rest short)) refl

reads_all : NumbersReadBack → SecondsReadBack → (all : List Entry) → All IsWritable all → entries_read (data_text all) ≡ Some all
unfolding entries_read
reads_all numbers seconds all short =
    ap told_by (reads_data seconds all short) ∙ tells_all numbers seconds all short

-- ---- the entries of a recording

bit_low : (b : Bool) → bit b ≤ 1
bit_low true = omega arith
bit_low false = omega arith

kind_low : (kind : Kind) → kind_number kind < 2 ^ 64
kind_low kind = omega (arith, bit_low kind.bold, bit_low kind.underscore, bit_low kind.blink, bit_low kind.reverse, bit_low kind.drawn)

shown_short : (row : Row) → All IsShortRun (shown row).runs
unfolding shown
shown_short row = All-map IsShortRun (shown_run row) (runs_of row) (λ k d lt. kind_low (get_or (runs_of row) k d).kind)

short_by : (p : ℕ → Bool) (line : ℕ) (row : Row) (first : Option ℕ) → line < 2 ^ 64 → IsFirst p 1 25 first
    → IsShortChange (line, change_by first row)
short_by p line row None low is = (low, shown_short row)
short_by p line row (Some other) low is = (low, omega (arith, is.2))

changes_short : (before after : List Row) → All IsShortChange (map (change_of before after) (changed_lines before after))
changes_short before after =
    All-map IsShortChange (change_of before after) (changed_lines before after) (λ k d lt.
    let line = get_or (changed_lines before after) k d in
    let row = row_at after line in
    let is = changed_are_lines before after k d lt in
    let p : ℕ → Bool = λ other. same_row (row_at before other) row in
    short_by p line row (line_of before row) (omega (arith, is.high)) (first_is p 1 24))

due_early : (tape : Tape) (i : ℕ) → fits tape → due_time tape.chunks i ≤ last_moment
due_early tape i fit = omega (arith, sum_by-take-le (λ c. c.delay) tape.chunks (i + 1), sum_by-le (λ c. c.delay) longest_delay tape.chunks fit.delays, fit.few)

entry_short : (profile : Profile) (tape : Tape) (i : ℕ) → Safe → ((p : Picture) (line : ℕ) → right_margin p line ≤ 132) → fits tape
    → IsWritable (entry_at profile tape i)
entry_short profile tape i safe margins fit =
    let sound = (safe.played (reset_term_as profile) (first tape.chunks (i + 1)) (safe.reset profile)).sound in
    let picture = (play (reset_term_as profile) (first tape.chunks (i + 1))).console.picture in
    record {
      due = due_early tape i fit;
      line = omega (arith, sound.line_high);
      column = omega (arith, sound.column_high, margins picture picture.line);
      changes = changes_short (still_after profile tape i).rows (still_after profile tape (i + 1)).rows;
    }

pub reads_back : NumbersReadBack → SecondsReadBack → ((profile : Profile) → IsSafe (reset_term_as profile).console) → StaysSafe
    → ((p : Picture) (line : ℕ) → right_margin p line ≤ 132) → PageReadsBack
reads_back numbers seconds reset played margins =
    let safe : Safe = record { reset = reset; played = played } in
    record {
      texts = reads_all numbers seconds;
      page = λ profile tape fit.
          reads_all numbers seconds (entries profile tape)
          (All-cons IsWritable first_entry (map (entry_at profile tape) (indices tape.chunks))
          (record { due = omega arith; line = omega arith; column = omega arith; changes = All-nil IsShortChange })
          (All-map IsWritable (entry_at profile tape) (indices tape.chunks) (λ k d lt. entry_short profile tape (get_or (indices tape.chunks) k d) safe margins fit)));
    }
