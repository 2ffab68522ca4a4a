-- The entries of a recording have short numbers, so its data is read as its entries.
use Rattle.std.proofs.Common.{◌≡◌, ℕ, zero, suc, ◌+◌, ◌^◌, ◌<◌, ◌≤◌, All, Bool, List, [], ◌∷◌, Option, Some, None, ap, sym, ◌∙◌, arith, length, get_or, map, take}
use Rattle.std.specs.List.{range_with_len}
use Rattle.std.proofs.lemmas.List.Elements.{All-cons, All-filter, All-map, All-nil}
use Rattle.std.proofs.lemmas.List.FromFn.{get_or-range_with_len, length-range_with_len}
use Rattle.std.proofs.lemmas.List.Sums.{sum_by-le, sum_by-take-le}
use Rattle.tape_core.specs.Due.{first, indices}
use Rattle.tape_core.specs.Law.{NumbersReadBack, SecondsReadBack}
use Rattle.tape_core.specs.Tape.{Tape, fits, longest_delay}
use Rattle.sheet.specs.declared.rendition.Colour.TheVariants.{Default}
use Rattle.sheet.specs.Cells.{Cell, blank}
use Rattle.sheet.specs.Grid.{row_at}
use Rattle.sheet.specs.Table.{nth}
use Rattle.xterm_term.specs.Size.{IsSize}
use Rattle.xterm_term.specs.Term.{reset_term}
use Rattle.xterm_rows.specs.Groups.{starts}
use Rattle.xterm_rows.specs.Ink.{attribute_number, colour_number, inked}
use Rattle.xterm_rows.specs.Runs.{begins, cell_behind, kind_number, kind_of, run_at}
use Rattle.xterm_rows.specs.declared.runs.Kind.{Kind}
use Rattle.xterm_escaped.specs.Colours.{ColoursAreBytes, IsColoured}
use Rattle.screen_page.proofs.Replays.{IsFirst, first_is}
use Rattle.xterm_page.specs.Entries.{cells_shown, change_by, change_of, changed_lines, changes, console_by, entries, entry_at, first_entry, is_changed, line_of, shown, shown_at, shown_run}
use Rattle.xterm_page.specs.EntryText.{data_text}
use Rattle.xterm_page.specs.Law.{IsShortChange, IsShortRun, IsWritable, PageReadsBack, data_of}
use Rattle.xterm_page.specs.Reading.{Data, data_read}
use Rattle.xterm_page.specs.Same.{same_row}
use Rattle.xterm_page.proofs.ReadBack.{reads_all}
use Rattle.xterm_page.proofs.ReadLemmas.{weight_low}
use Rattle.xterm_page.proofs.Replays.{Laws}

-- ---- cells

abbrev CellColoured : Cell → Type 0
CellColoured cell = IsColoured cell.rendition

-- what holds of each element and of a default holds so of some of them
in_taken : {X : Type 0} (P : X → Type 0) (d : X) (n : ℕ) (xs : List X) → P d → ((k : ℕ) → P (get_or xs k d)) → (k : ℕ) → P (get_or (take n xs) k d)
in_taken P d zero xs none all k = none
in_taken P d (suc n) [] none all k = none
in_taken P d (suc n) (x ∷ xs) none all zero = all zero
in_taken P d (suc n) (x ∷ xs) none all (suc k) = in_taken P d n xs none (λ j. all (suc j)) k

-- ---- runs

kind_low : (kind : Kind) → kind_number kind < 2 ^ 64
unfolding kind_number attribute_number
kind_low kind =
    let r = kind.rendition in
    omega (arith, weight_low 1 r.bold, weight_low 2 r.underscore, weight_low 4 r.blink, weight_low 8 r.reverse, weight_low 32 r.faint, weight_low 64 r.italic, weight_low 128 r.concealed, weight_low 256 r.crossed_out, weight_low 16 kind.drawn, weight_low 512 kind.wide, weight_low 1024 kind.marked)

run_short : (cells : List Cell) (at : ℕ) → CellColoured (cell_behind cells at) → IsShortRun (shown_at cells at)
unfolding shown_run run_at kind_of
run_short cells at is = record { kind = kind_low (kind_of (cell_behind cells at)); ink = omega (arith, is.ink); paper = omega (arith, is.paper) }

row_short : (row : List Cell) → ((k : ℕ) → CellColoured (cell_behind row k)) → CellColoured (blank Default) → All IsShortRun (shown row)
unfolding shown cells_shown inked
row_short row all none =
    All-map IsShortRun (shown_at (inked row)) (starts (begins (inked row)) 0 (length (inked row)))
    (λ k d below.
    let at = get_or (starts (begins (inked row)) 0 (length (inked row))) k d in
    run_short (inked row) at (in_taken CellColoured (blank Default) _ row none all at))

-- ---- changes

change_short : (p : ℕ → Bool) (lines line : ℕ) (row : List Cell) (first : Option ℕ) → line < 2 ^ 64 → lines ≤ 500 → IsFirst p 1 (1 + lines) first
    → All IsShortRun (shown row) → IsShortChange (line, change_by first row)
change_short p lines line row None low few is short = (low, short)
change_short p lines line row (Some other) low few is short = (low, omega (arith, is.2, few))

changes_short : (lines : ℕ) (before after : List (List Cell)) → lines ≤ 500 → ((line : ℕ) → All IsShortRun (shown (row_at after line)))
    → All IsShortChange (changes lines before after)
unfolding changes changed_lines
changes_short lines before after few short =
    All-map IsShortChange (λ line. change_of lines before (row_at after line) line) (changed_lines lines before after)
    (All-filter (is_changed before after) (λ line. IsShortChange (change_of lines before (row_at after line) line)) (range_with_len 1 lines)
    (λ k d below.
    let line = get_or (range_with_len 1 lines) k d in
    let long = length-range_with_len 1 lines in
    let is = get_or-range_with_len 1 lines k d (omega (arith, below, long)) in
    let row = row_at after line in
    change_short (λ other. same_row (row_at before other) row) lines line row (line_of lines before row) (omega (arith, is, below, long, few)) few
    (first_is (λ other. same_row (row_at before other) row) 1 lines) (short line)))

-- ---- recordings

blank_coloured : CellColoured (blank Default)
unfolding blank colour_number
blank_coloured = record { ink = omega arith; paper = omega arith }

rows_short : (columns lines : ℕ) (bytes : List ℕ) (line : ℕ) → ColoursAreBytes → All IsShortRun (shown (row_at (console_by columns lines bytes).picture.rows line))
unfolding nth
rows_short columns lines bytes line coloured =
    row_short (row_at (console_by columns lines bytes).picture.rows line) (λ k. coloured columns lines bytes line (suc k)) blank_coloured

entry_short : (columns lines : ℕ) (tape : Tape) (i : ℕ) → Laws → ColoursAreBytes → IsSize columns lines → fits tape
    → IsWritable (entry_at columns lines tape i)
entry_short columns lines tape i laws coloured is fit =
    let after = first tape.chunks (i + 1) in
    let sound = (laws.played (reset_term columns lines) after (laws.reset columns lines is)).sound in
    let console = console_by columns lines after in
    record {
      due = omega (arith, sum_by-take-le (λ c. c.delay) tape.chunks (i + 1), sum_by-le (λ c. c.delay) longest_delay tape.chunks fit.delays, fit.few);
      line = omega (arith, sound.line_high, sound.lines_high);
      column = omega (arith, sound.column_high, sound.columns_high);
      changes = changes_short console.picture.lines (console_by columns lines (first tape.chunks i)).picture.rows console.picture.rows sound.lines_high
          (λ line. rows_short columns lines after line coloured);
    }

entries_short : (columns lines : ℕ) (tape : Tape) → Laws → ColoursAreBytes → IsSize columns lines → fits tape → All IsWritable (entries columns lines tape)
entries_short columns lines tape laws coloured is fit =
    All-cons IsWritable first_entry (map (entry_at columns lines tape) (indices tape.chunks))
    (record { due = omega arith; line = omega arith; column = omega arith; changes = All-nil IsShortChange })
    (All-map IsWritable (entry_at columns lines tape) (indices tape.chunks)
    (λ k d lt. entry_short columns lines tape (get_or (indices tape.chunks) k d) laws coloured is fit))

-- ---- the law

some_same : (one other : Data) → Some one ≡ Some other → one ≡ other
some_same one other same = cc

module _ (numbers : NumbersReadBack) (seconds : SecondsReadBack) (laws : Laws) (coloured : ColoursAreBytes) where
  page_read : (columns lines : ℕ) (tape : Tape) → IsSize columns lines → fits tape
      → data_read (data_text columns lines (entries columns lines tape)) ≡ Some (data_of columns lines tape)
  page_read columns lines tape is fit =
      reads_all numbers seconds columns lines (entries columns lines tape) (omega (arith, is.columns_high)) (omega (arith, is.lines_high))
      (entries_short columns lines tape laws coloured is fit)

  pub reads_back : PageReadsBack
  reads_back = record {
    texts = reads_all numbers seconds;
    page = page_read;
    apart = λ columns lines tape columns' lines' tape' is fit is' fit' same.
        some_same (data_of columns lines tape) (data_of columns' lines' tape')
        (sym (page_read columns lines tape is fit) ∙ ap data_read same ∙ page_read columns' lines' tape' is' fit');
  }
