-- Reading what was written, piece by piece.
use Rattle.std.proofs.Common.{◌≡◌, ℕ, ◌*◌, ◌^◌, ◌<◌, ◌≤◌, All, Bool, true, false, List, [], ◌∷◌, ◌++◌, Some, append_assoc, append-nil, ap, sym, refl, subst, ◌∙◌, arith, decimal, if◌then◌else◌}
use Rattle.std.specs.Prelude.{map, ◌==◌}
use Rattle.std.specs.List.{flat_map}
use Rattle.std.proofs.lemmas.Fmt.{decimal_digit}
use Rattle.std.proofs.lemmas.List.Elements.{All-cons, All-head, All-nil, All-tail}
use Rattle.tape_core.specs.Law.{SecondsReadBack}
use Rattle.tape_core.specs.Written.{seconds_form}
use Rattle.xterm_rows.specs.Ink.{bit}
use Rattle.screen_page.specs.EntryText.{comma_number, string_text}
use Rattle.screen_page.specs.Reading.{Item, Figure, Text, Field, Number, Inner, Place, Before, InData, InEntry, InRow, Digits, Reading, at, fields_read, read_bytes, whole}
use Rattle.screen_page.proofs.ReadLemmas.{IsNumber, Reads, Stands, close_at, number_text, read_append, reads_both, reads_close, reads_comma, reads_first, reads_lf, reads_number, reads_open, reads_text, seconds_number, stands_at}
use Rattle.xterm_page.specs.Entries.{Change, Was, Is, Entry, ShownRun}
use Rattle.xterm_page.specs.EntryText.{change_text, data_text, entry_front, entry_text, flags, named_text, next_text, numbers_text, row_text, run_text, size_text}
use Rattle.xterm_page.specs.Law.{IsShortChange, IsShortRun, IsWritable}

-- what reads each of a list reads all of it
reads_each : {A B : Type 0} (text : A → List ℕ) (told : A → List B) (place : List B → Place) (P : A → Type 0)
    → ((before : List B) (x : A) → P x → Reads (text x) (place before) (place (before ++ told x)))
    → (before : List B) (xs : List A) → All P xs → Reads (flat_map text xs) (place before) (place (before ++ flat_map told xs))
reads_each text told place P one before [] all = λ reading stands. subst (λ l. Stands reading (place l)) (sym (append-nil before)) stands
reads_each text told place P one before (x ∷ xs) all =
    subst (λ l. Reads (flat_map text (x ∷ xs)) (place before) (place l))
    (append_assoc before (told x) (flat_map told xs))
    (reads_both (text x) (flat_map text xs) (place before) (place (before ++ told x)) (place ((before ++ told x) ++ flat_map told xs))
    (one before x (All-head P x xs all))
    (reads_each text told place P one (before ++ told x) xs (All-tail P x xs all)))

-- ---- runs

-- a run's numbers that are told, by whether its paper, its ink and its kind are 0
abbrev pub numbers_by : Bool → Bool → Bool → ShownRun → List ℕ
numbers_by paper ink kind run =
    if paper
    then (if ink then (if kind then [] else run.kind ∷ []) else run.kind ∷ run.ink ∷ [])
    else run.kind ∷ run.ink ∷ run.paper ∷ []

abbrev numbers_of : ShownRun → List ℕ
numbers_of run = numbers_by (run.paper == 0) (run.ink == 0) (run.kind == 0) run

abbrev pub figure : ℕ → List Item
figure n = Figure (decimal n) ∷ []

abbrev pub run_items : ShownRun → List Item
run_items run = flat_map figure (numbers_of run) ++ Text run.characters ∷ []

texts_by : (paper ink kind : Bool) (run : ShownRun)
    → (if paper
    then (if ink then (if kind then [] else comma_number run.kind) else comma_number run.kind ++ comma_number run.ink)
    else comma_number run.kind ++ comma_number run.ink ++ comma_number run.paper)
    ≡ flat_map comma_number (numbers_by paper ink kind run)
texts_by true true true run = refl
texts_by true true false run = sym (append-nil (comma_number run.kind))
texts_by true false kind run = ap (λ l. comma_number run.kind ++ l) (sym (append-nil (comma_number run.ink)))
texts_by false ink kind run =
    append_assoc (comma_number run.kind) (comma_number run.ink) (comma_number run.paper)
    ∙ ap (λ l. comma_number run.kind ++ (comma_number run.ink ++ l)) (sym (append-nil (comma_number run.paper)))

numbers_are : (run : ShownRun) → numbers_text run.kind run.ink run.paper ≡ flat_map comma_number (numbers_of run)
unfolding numbers_text
numbers_are run = texts_by (run.paper == 0) (run.ink == 0) (run.kind == 0) run

short_by : (paper ink kind : Bool) (run : ShownRun) → IsShortRun run → All (λ n. n < 2 ^ 64) (numbers_by paper ink kind run)
short_by true true true run short = All-nil (λ n. n < 2 ^ 64)
short_by true true false run short = All-cons (λ n. n < 2 ^ 64) run.kind [] short.kind (All-nil (λ n. n < 2 ^ 64))
short_by true false kind run short =
    All-cons (λ n. n < 2 ^ 64) run.kind (run.ink ∷ []) short.kind (All-cons (λ n. n < 2 ^ 64) run.ink [] short.ink (All-nil (λ n. n < 2 ^ 64)))
short_by false ink kind run short =
    All-cons (λ n. n < 2 ^ 64) run.kind (run.ink ∷ run.paper ∷ []) short.kind
    (All-cons (λ n. n < 2 ^ 64) run.ink (run.paper ∷ []) short.ink (All-cons (λ n. n < 2 ^ 64) run.paper [] short.paper (All-nil (λ n. n < 2 ^ 64))))

reads_figure : (entries : List (List Field)) (fields : List Field) (items : List Item) (n : ℕ) → n < 2 ^ 64
    → Reads (comma_number n) (InRow entries fields items) (InRow entries fields (items ++ figure n))
reads_figure entries fields items n small = reads_number (InRow entries fields items) (decimal n) (number_text n small)

reads_run : (entries : List (List Field)) (fields : List Field) (items : List Item) (run : ShownRun) → IsShortRun run
    → Reads (run_text run) (InRow entries fields items) (InRow entries fields (items ++ run_items run))
unfolding run_text
reads_run entries fields items run short =
    let row : List Item → Place = λ l. InRow entries fields l in
    let figures = flat_map figure (numbers_of run) in
    let text = 44 ∷ string_text run.characters in
    subst (λ l. Reads (numbers_text run.kind run.ink run.paper ++ text) (row items) (row l)) (append_assoc items figures (Text run.characters ∷ []))
    (subst (λ l. Reads (l ++ text) (row items) (row ((items ++ figures) ++ Text run.characters ∷ []))) (sym (numbers_are run))
    (reads_both (flat_map comma_number (numbers_of run)) text (row items) (row (items ++ figures)) (row ((items ++ figures) ++ Text run.characters ∷ []))
    (reads_each comma_number figure row (λ n. n < 2 ^ 64) (reads_figure entries fields) items (numbers_of run)
    (short_by (run.paper == 0) (run.ink == 0) (run.kind == 0) run short))
    (reads_text (row (items ++ figures)) run.characters)))

-- ---- changes

-- a row begins with 0
abbrev pub row_items : List ShownRun → List Item
row_items row = Figure (48 ∷ []) ∷ flat_map run_items row

abbrev pub change_fields : ℕ × Change → List Field
change_fields (line, Was other) = Number (decimal line) ∷ Number (decimal other) ∷ []
change_fields (line, Is row) = Number (decimal line) ∷ Inner (row_items row) ∷ []

reads_row : (entries : List (List Field)) (fields : List Field) (row : List ShownRun) → All IsShortRun row
    → Reads (44 ∷ row_text row) (InEntry entries fields) (InEntry entries (fields ++ Inner (row_items row) ∷ []))
unfolding row_text
reads_row entries fields row short =
    let runs = flat_map run_text row in
    let outer : Place = InEntry entries fields in
    let first : Place = InRow entries fields (Figure (48 ∷ []) ∷ []) in
    let last : Place = InRow entries fields (row_items row) in
    let closing : Place = InEntry entries (fields ++ Inner (row_items row) ∷ []) in
    reads_both (44 ∷ []) (91 ∷ (48 ∷ runs) ++ 93 ∷ []) outer outer closing (reads_comma outer)
    (reads_both ((91 ∷ 48 ∷ []) ++ runs) (93 ∷ []) outer last closing
    (reads_both (91 ∷ 48 ∷ []) runs outer first last (reads_first outer (48 ∷ []) (subst IsNumber (decimal_digit 0 (omega arith)) (number_text 0 (omega arith))))
    (reads_each run_text run_items (λ l. InRow entries fields l) IsShortRun (reads_run entries fields) (Figure (48 ∷ []) ∷ []) row short))
    (reads_close last))

reads_change : (entries : List (List Field)) (fields : List Field) (change : ℕ × Change) → IsShortChange change
    → Reads (named_text change) (InEntry entries fields) (InEntry entries (fields ++ change_fields change))
unfolding named_text change_text
reads_change entries fields (line, Was other) short =
    let number = decimal line in
    let next = decimal other in
    let between : Place = InEntry entries (fields ++ Number number ∷ []) in
    subst (λ l. Reads ((44 ∷ number) ++ 44 ∷ next) (InEntry entries fields) (InEntry entries l))
    (append_assoc fields (Number number ∷ []) (Number next ∷ []))
    (reads_both (44 ∷ number) (44 ∷ next) (InEntry entries fields) between (InEntry entries ((fields ++ Number number ∷ []) ++ Number next ∷ []))
    (reads_number (InEntry entries fields) number (number_text line short.0)) (reads_number between next (number_text other short.1)))
reads_change entries fields (line, Is row) short =
    let number = decimal line in
    let between : Place = InEntry entries (fields ++ Number number ∷ []) in
    subst (λ l. Reads ((44 ∷ number) ++ 44 ∷ row_text row) (InEntry entries fields) (InEntry entries l))
    (append_assoc fields (Number number ∷ []) (Inner (row_items row) ∷ []))
    (reads_both (44 ∷ number) (44 ∷ row_text row) (InEntry entries fields) between (InEntry entries ((fields ++ Number number ∷ []) ++ Inner (row_items row) ∷ []))
    (reads_number (InEntry entries fields) number (number_text line short.0)) (reads_row entries (fields ++ Number number ∷ []) row short.1))

-- ---- entries

abbrev pub fields_of : Entry → List Field
fields_of entry =
    Number (seconds_form entry.due) ∷ Number (decimal (flags entry)) ∷ Number (decimal entry.line) ∷ Number (decimal entry.column)
    ∷ flat_map change_fields entry.changes

-- a truth value adds at most its weight
pub weight_low : (n : ℕ) (b : Bool) → n * bit b ≤ n
weight_low n true = omega arith
weight_low n false = omega arith

pub flags_low : (entry : Entry) → flags entry < 2 ^ 64
flags_low entry = omega (arith, weight_low 2 entry.reversed, weight_low 4 entry.hidden)

reads_front : SecondsReadBack → (entries : List (List Field)) (entry : Entry) → IsWritable entry
    → Reads (91 ∷ entry_front entry) (InData entries)
    (InEntry entries (Number (seconds_form entry.due) ∷ Number (decimal (flags entry)) ∷ Number (decimal entry.line) ∷ Number (decimal entry.column) ∷ []))
unfolding entry_front
reads_front seconds entries entry short =
    let due = seconds_form entry.due in
    let marks = decimal (flags entry) in
    let line = decimal entry.line in
    let column = decimal entry.column in
    let outer : Place = InData entries in
    let one : Place = InEntry entries (Number due ∷ []) in
    let two : Place = InEntry entries (Number due ∷ Number marks ∷ []) in
    let three : Place = InEntry entries (Number due ∷ Number marks ∷ Number line ∷ []) in
    let four : Place = InEntry entries (Number due ∷ Number marks ∷ Number line ∷ Number column ∷ []) in
    reads_both (91 ∷ ((due ++ comma_number (flags entry)) ++ comma_number entry.line)) (44 ∷ column) outer three four
    (reads_both (91 ∷ (due ++ comma_number (flags entry))) (44 ∷ line) outer two three
    (reads_both (91 ∷ due) (44 ∷ marks) outer one two (reads_first outer due (seconds_number seconds entry.due short.due)) (reads_number one marks (number_text (flags entry) (flags_low entry))))
    (reads_number two line (number_text entry.line short.line)))
    (reads_number three column (number_text entry.column short.column))

reads_entry : SecondsReadBack → (entries : List (List Field)) (entry : Entry) → IsWritable entry
    → Reads (entry_text entry) (InData entries) (InData (entries ++ fields_of entry ∷ []))
unfolding entry_text
reads_entry seconds entries entry short =
    let front : List Field =
    Number (seconds_form entry.due) ∷ Number (decimal (flags entry)) ∷ Number (decimal entry.line) ∷ Number (decimal entry.column) ∷ [] in
    let changes = flat_map named_text entry.changes in
    let outer : Place = InData entries in
    let four : Place = InEntry entries front in
    let last : Place = InEntry entries (fields_of entry) in
    reads_both ((91 ∷ entry_front entry) ++ changes) (93 ∷ []) outer last (InData (entries ++ fields_of entry ∷ []))
    (reads_both (91 ∷ entry_front entry) changes outer four last (reads_front seconds entries entry short)
    (reads_each named_text change_fields (λ l. InEntry entries l) IsShortChange (reads_change entries) front entry.changes short.changes))
    (reads_close last)

reads_next : SecondsReadBack → (entries : List (List Field)) (entry : Entry) → IsWritable entry
    → Reads (next_text entry) (InData entries) (InData (entries ++ fields_of entry ∷ []))
unfolding next_text
reads_next seconds entries entry short =
    let after : Place = InData (entries ++ fields_of entry ∷ []) in
    reads_both (44 ∷ []) (10 ∷ entry_text entry) (InData entries) (InData entries) after (reads_comma (InData entries))
    (reads_both (10 ∷ []) (entry_text entry) (InData entries) (InData entries) after (reads_lf (InData entries)) (reads_entry seconds entries entry short))

-- ---- the data

abbrev pub size_fields : ℕ → ℕ → List Field
size_fields columns lines = Number (decimal columns) ∷ Number (decimal lines) ∷ []

reads_size : (columns lines : ℕ) → columns < 2 ^ 64 → lines < 2 ^ 64
    → Reads (size_text columns lines) (InData []) (InData (size_fields columns lines ∷ []))
unfolding size_text
reads_size columns lines wide high =
    let outer : Place = InData [] in
    let one : Place = InEntry [] (Number (decimal columns) ∷ []) in
    let two : Place = InEntry [] (size_fields columns lines) in
    reads_both (91 ∷ (decimal columns ++ comma_number lines)) (93 ∷ []) outer two (InData (size_fields columns lines ∷ []))
    (reads_both (91 ∷ decimal columns) (44 ∷ decimal lines) outer one two (reads_first outer (decimal columns) (number_text columns wide))
    (reads_number one (decimal lines) (number_text lines high)))
    (reads_close two)

abbrev next_fields : Entry → List (List Field)
next_fields entry = fields_of entry ∷ []

one_each : (all : List Entry) → flat_map next_fields all ≡ map fields_of all
one_each [] = refl
one_each (entry ∷ rest) = ap (λ l. fields_of entry ∷ l) (one_each rest)

pub reads_data : SecondsReadBack → (columns lines : ℕ) (all : List Entry) → columns < 2 ^ 64 → lines < 2 ^ 64 → All IsWritable all
    → fields_read (data_text columns lines all) ≡ Some (size_fields columns lines ∷ map fields_of all)
unfolding fields_read data_text
reads_data seconds columns lines all wide high short =
    let start = at Before (Digits []) in
    let size = size_text columns lines in
    let entries = flat_map next_text all in
    let sized : Place = InData (size_fields columns lines ∷ []) in
    let last : Place = InData (size_fields columns lines ∷ flat_map next_fields all) in
    let opens =
    reads_both ((91 ∷ []) ++ size) entries Before sized last
    (reads_both (91 ∷ []) size Before (InData []) sized (reads_open Before) (reads_size columns lines wide high))
    (reads_each next_text next_fields (λ l. InData l) IsWritable (reads_next seconds) (size_fields columns lines ∷ []) all short) in
    ap (λ (r : Reading). whole r.place)
    (read_append start (91 ∷ (size ++ entries)) (93 ∷ []) ∙ close_at (read_bytes start (91 ∷ (size ++ entries))) last (opens start (stands_at Before)))
    ∙ ap (λ l. Some (size_fields columns lines ∷ l)) (one_each all)
