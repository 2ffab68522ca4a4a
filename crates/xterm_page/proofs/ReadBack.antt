-- The data of a page is read as the size and the entries that it was written of.
use Rattle.std.proofs.Common.{◌≡◌, ℕ, ◌+◌, ◌*◌, ◌^◌, ◌<◌, All, Bool, true, false, List, [], ◌∷◌, ◌++◌, Some, ap, refl, ◌∙◌, arith}
use Rattle.std.specs.Prelude.{map, ◌==◌}
use Rattle.std.specs.List.{flat_map}
use Rattle.std.proofs.lemmas.Bool.Decides.{nat_tests}
use Rattle.std.proofs.lemmas.List.Elements.{All-head, All-tail}
use Rattle.tape_core.specs.Law.{NumbersReadBack, SecondsReadBack}
use Rattle.xterm_rows.specs.Ink.{bit}
use Rattle.screen_page.specs.Reading.{Item, Text}
use Rattle.xterm_page.specs.Entries.{Change, Was, Is, Entry, ShownRun}
use Rattle.xterm_page.specs.EntryText.{data_text, flags}
use Rattle.xterm_page.specs.Law.{IsShortChange, IsShortRun, IsWritable}
use Rattle.xterm_page.specs.Reading.{all_told, changes_told, data_read, data_told, entry_told, entry_with, row_told, runs_told}
use Rattle.xterm_page.proofs.ReadLemmas.{change_fields, fields_of, figure, flags_low, numbers_by, reads_data, row_items, run_items}

-- ---- what fields tell

nought : (n : ℕ) → (n == 0) ≡ true → 0 ≡ n
nought n is = grind (arith, nat_tests)

same_run : (run : ShownRun) (kind ink paper : ℕ) (runs : List ShownRun) → kind ≡ run.kind → ink ≡ run.ink → paper ≡ run.paper
    → Some (record { kind = kind; ink = ink; paper = paper; characters = run.characters } ∷ runs) ≡ Some (run ∷ runs)
same_run run kind ink paper runs k i p = rw (k, i, p) refl

-- a run, by whether its paper, its ink and its kind are 0
run_by : NumbersReadBack → (paper ink kind : Bool) (run : ShownRun) (rest : List Item) (runs : List ShownRun)
    → (run.paper == 0) ≡ paper → (run.ink == 0) ≡ ink → (run.kind == 0) ≡ kind → IsShortRun run → runs_told rest ≡ Some runs
    → runs_told ((flat_map figure (numbers_by paper ink kind run) ++ Text run.characters ∷ []) ++ rest) ≡ Some (run ∷ runs)
run_by numbers true true true run rest runs p i k short told =
    rw told (same_run run 0 0 0 runs (nought run.kind k) (nought run.ink i) (nought run.paper p))
run_by numbers true true false run rest runs p i k short told =
    rw (numbers.read run.kind short.kind, told) (same_run run run.kind 0 0 runs refl (nought run.ink i) (nought run.paper p))
run_by numbers true false kind run rest runs p i k short told =
    rw (numbers.read run.kind short.kind, numbers.read run.ink short.ink, told)
    (same_run run run.kind run.ink 0 runs refl refl (nought run.paper p))
run_by numbers false ink kind run rest runs p i k short told =
    rw (numbers.read run.kind short.kind, numbers.read run.ink short.ink, numbers.read run.paper short.paper, told) refl

tells_runs : NumbersReadBack → (runs : List ShownRun) → All IsShortRun runs → runs_told (flat_map run_items runs) ≡ Some runs
tells_runs numbers [] short = refl
tells_runs numbers (run ∷ runs) short =
    run_by numbers (run.paper == 0) (run.ink == 0) (run.kind == 0) run (flat_map run_items runs) runs refl refl refl
    (All-head IsShortRun run runs short) (tells_runs numbers runs (All-tail IsShortRun run runs short))

tells_row : NumbersReadBack → (row : List ShownRun) → All IsShortRun row → row_told (row_items row) ≡ Some (Is row)
tells_row numbers row short = rw (tells_runs numbers row short) refl

tells_changes : NumbersReadBack → (changes : List (ℕ × Change)) → All IsShortChange changes
    → changes_told (flat_map change_fields changes) ≡ Some changes
tells_changes numbers [] short = refl
tells_changes numbers ((line, Was other) ∷ changes) short =
    let here = All-head IsShortChange (line, Was other) changes short in
    rw (numbers.read line here.0, numbers.read other here.1, tells_changes numbers changes (All-tail IsShortChange (line, Was other) changes short)) refl
tells_changes numbers ((line, Is row) ∷ changes) short =
    let here = All-head IsShortChange (line, Is row) changes short in
    rw (numbers.read line here.0, tells_row numbers row here.1, tells_changes numbers changes (All-tail IsShortChange (line, Is row) changes short)) refl

-- what the flags tell
flags_told : (due line column : ℕ) (reversed hidden : Bool) (changes : List (ℕ × Change))
    → entry_with (Some due) (Some (2 * bit reversed + 4 * bit hidden)) (Some line) (Some column) (Some changes)
    ≡ Some (record { due = due; reversed = reversed; hidden = hidden; line = line; column = column; changes = changes })
flags_told due line column true true changes = refl
flags_told due line column true false changes = refl
flags_told due line column false true changes = refl
flags_told due line column false false changes = refl

tells_entry : NumbersReadBack → SecondsReadBack → (entry : Entry) → IsWritable entry → entry_told (fields_of entry) ≡ Some entry
tells_entry numbers seconds entry short =
    rw (seconds.read entry.due short.due, numbers.read (flags entry) (flags_low entry), numbers.read entry.line short.line, numbers.read entry.column short.column, tells_changes numbers entry.changes short.changes)
    (flags_told entry.due entry.line entry.column entry.reversed entry.hidden entry.changes)

tells_all : NumbersReadBack → SecondsReadBack → (all : List Entry) → All IsWritable all → all_told (map fields_of all) ≡ Some all
tells_all numbers seconds [] short = refl
tells_all numbers seconds (entry ∷ rest) short =
    rw (tells_entry numbers seconds entry (All-head IsWritable entry rest short), tells_all numbers seconds rest (All-tail IsWritable entry rest short)) refl

pub reads_all : NumbersReadBack → SecondsReadBack → (columns lines : ℕ) (all : List Entry) → columns < 2 ^ 64 → lines < 2 ^ 64
    → All IsWritable all → data_read (data_text columns lines all) ≡ Some (record { columns = columns; lines = lines; entries = all })
unfolding data_read
reads_all numbers seconds columns lines all wide high short =
    ap data_told (reads_data seconds columns lines all wide high short)
    ∙ rw (numbers.read columns wide, numbers.read lines high, tells_all numbers seconds all short) refl
