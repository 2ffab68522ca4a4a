-- The lines of a sheet are drawn one after another on a blank one.
use Rattle.std.proofs.Common.{◌≡◌, ℕ, zero, suc, ◌+◌, ◌-◌, ◌<◌, ◌≤◌, Bool, true, false, List, [], ◌++◌, length, take, min, refl, sym, ap, ap₂, subst, inl, inr, ◌∙◌, arith}
use Rattle.std.specs.Prelude.{if◌then◌else◌, nat_le, ◌==◌, not}
use Rattle.std.proofs.lemmas.Bool.{cases_Bool, cases_eq, cases_lt}
use Rattle.std.proofs.lemmas.Bool.Decides.{nat_tests}
use Rattle.characters.specs.Law.{AsciiIsNarrow}
use Rattle.sheet.specs.declared.rendition.Colour.TheVariants.{Default}
use Rattle.sheet.specs.declared.rendition.Rendition.{Rendition}
use Rattle.sheet.specs.Cells.{Cell, blank, cell_at, covering, is_wide}
use Rattle.sheet.specs.Grid.{blank_row, row_at, with_row}
use Rattle.sheet.specs.Table.{table}
use Rattle.xterm_rows.specs.Ink.{inked}
use Rattle.xterm_term.specs.Console.{Console}
use Rattle.xterm_escaped.specs.EscapedText.{cells_text, line_text, lines_text, no_rendition, placed_text, rendition_after, rendition_after_line, rendition_after_lines, text_where}
use Rattle.xterm_escaped.proofs.Blanks.{blank_behind, ink, ink_long, inked_is}
use Rattle.xterm_escaped.proofs.Cells.{IsByteRendition, LawsBelow}
use Rattle.xterm_escaped.proofs.Drawn.{all_drawn, blank_narrow, cell_outside, cells_to, end_of, none_drawn}
use Rattle.xterm_escaped.proofs.EscapedLemmas.{all_lines_text, lines_text_more, no_lines_rendition, no_lines_text, rendition_after_lines_more}
use Rattle.xterm_escaped.proofs.Fitting.{Fits}
use Rattle.xterm_escaped.proofs.FittingScreens.{RowsFit}
use Rattle.xterm_escaped.proofs.Led.{Leads, leads_as, leads_both, leads_none}
use Rattle.xterm_escaped.proofs.Lines.{place_leads}
use Rattle.xterm_escaped.proofs.Redrawing.{Draws}
use Rattle.xterm_escaped.proofs.RowDrawn.{IsRow, firsts_lead}
use Rattle.xterm_escaped.proofs.Shown.{behind_of, drawing}
use Rattle.xterm_escaped.proofs.Tables.{length-table, nth-table, table_ext, table_is}

-- the rows up to a line, and blank ones below
abbrev pub rows_to : ℕ → ℕ → List (List Cell) → List (List Cell)
rows_to last columns rows = table (length rows) (λ line. if nat_le line last then row_at rows line else blank_row columns Default)

with_table : (n line : ℕ) (row : List Cell) (f g : ℕ → List Cell) → ((k : ℕ) → 1 ≤ k → k ≤ n → (if k == line then row else f k) ≡ g k)
    → with_row line row (table n f) ≡ table n g
with_table n line row f g same =
    ap (λ m. table m (λ k. if k == line then row else row_at (table n f) k)) (length-table n f)
    ∙ table_ext n _ g (λ k low high. ap (λ r. if k == line then row else r) (nth-table [] n f k low high) ∙ same k low high)

pub no_rows_to : (columns lines : ℕ) (rows : List (List Cell)) → length rows ≡ lines → table lines (λ _. blank_row columns Default) ≡ rows_to 0 columns rows
no_rows_to columns lines rows long =
    ap (λ n. table n (λ _. blank_row columns Default)) (sym long)
    ∙ table_ext (length rows) _ _ (λ k low high. let test : nat_le k 0 ≡ false = grind (arith, nat_tests) in simp test)

pub all_rows_to : (columns : ℕ) (rows : List (List Cell)) → rows_to (length rows) columns rows ≡ rows
all_rows_to columns rows =
    table_ext (length rows) _ (row_at rows) (λ k low high. let test : nat_le k (length rows) ≡ true = grind (arith, nat_tests) in simp test)
    ∙ sym (table_is [] rows)

-- a row of a terminal
pub row_is : (row : List Cell) → Fits row → IsRow row
row_is row fits = record {
  whole = fits.whole;
  covers = λ k wide.
      let covered = fits.whole k ∙ wide in
      (fits.loose.cells (k + 1)).covers covered ∙ ap covering (fits.loose.agree k wide covered);
  letters = λ k low high open_. (fits.loose.cells k).letter open_;
  colours = λ k. (fits.loose.cells k).colours;
}

end_none : (row : List Cell) → end_of 0 row ≡ 0
end_none row = ap (λ b. if b then 0 + 1 else 0) (ap is_wide (cell_outside row 0 (λ some. absurd (omega arith))) ∙ blank_narrow Default)

end_least : (n : ℕ) (row : List Cell) → n ≤ end_of n row
end_least n row = elim (cases_Bool (is_wide (cell_at row n))) [
  | inl wide ↦ (let e : end_of n row ≡ n + 1 = ap (λ b. if b then n + 1 else n) wide in omega arith)
  | inr narrow ↦ (let e : end_of n row ≡ n = ap (λ b. if b then n + 1 else n) narrow in omega arith)
]

module _ (laws : LawsBelow) (ascii : AsciiIsNarrow) (c : Console) (draws : Draws c) (origin : c.modes.origin ≡ false) (few : c.picture.lines ≤ 9999)
    (narrow : c.picture.columns ≤ 9999) (some : 2 ≤ c.picture.columns) (rows : List (List Cell)) (all : RowsFit c.picture.columns rows)
    (high : length rows ≤ c.picture.lines) where
  abbrev columns : ℕ
  columns = c.picture.columns

  abbrev rows_by : ℕ → List (List Cell)
  rows_by last = rows_to last columns rows

  -- behind a line
  record LineLead (line : ℕ) (start : Rendition) (s : Console) : Type 0 where
    at : ℕ
    column : ℕ
    wrap : Bool
    leads : Leads s (line_text start line (row_at rows line)) (drawing c (rows_by line) at column wrap (rendition_after_line start (row_at rows line)))
    colours : IsByteRendition (rendition_after_line start (row_at rows line))

  module _ (line : ℕ) (line_low : 1 ≤ line) (line_high : line ≤ length rows) (start : Rendition) (start_is : IsByteRendition start) where
    abbrev row : List Cell
    row = row_at rows line

    row_fits : Fits row
    row_fits = all.fit line

    row_full : length row ≡ columns
    row_full = all.full line line_low line_high

    abbrev above : List (List Cell)
    above = rows_by (line - 1)

    blank_before : cells_to 0 row ≡ blank_row columns Default
    blank_before = sym (none_drawn row) ∙ ap (λ n. table n (λ _. blank Default)) row_full

    row_below : (k : ℕ) → line - 1 < k → (if nat_le k (line - 1) then row_at rows k else blank_row columns Default) ≡ blank_row columns Default
    row_below k below = let test : nat_le k (line - 1) ≡ false = grind (arith, nat_tests) in simp test

    -- a blank row where one stands
    begun : with_row line (cells_to 0 row) above ≡ above
    begun = with_table (length rows) line (cells_to 0 row) _ _ (λ k low within. elim (cases_eq k line) [
      | inl e ↦ (let same : (k == line) ≡ true = grind (arith, nat_tests) in
          ap (λ b. if b then cells_to 0 row else (if nat_le k (line - 1) then row_at rows k else blank_row columns Default)) same
          ∙ blank_before ∙ sym (row_below k (omega arith)))
      | inr ne ↦ (let apart : (k == line) ≡ false = grind (arith, nat_tests) in simp apart)
    ])

    -- the row itself
    ended_with : with_row line row above ≡ rows_by line
    ended_with = with_table (length rows) line row _ _ (λ k low within. elim (cases_eq k line) [
      | inl e ↦ (let same : (k == line) ≡ true = grind (arith, nat_tests) in let in_ : nat_le k line ≡ true = grind (arith, nat_tests) in
          simp (same, in_) (ap (row_at rows) (sym e)))
      | inr ne ↦ elim (cases_lt k line) [
        | inl before ↦ (let apart : (k == line) ≡ false = grind (arith, nat_tests) in let one : nat_le k (line - 1) ≡ true = grind (arith, nat_tests) in
            let two : nat_le k line ≡ true = grind (arith, nat_tests) in simp (apart, one, two))
        | inr past ↦ (let apart : (k == line) ≡ false = grind (arith, nat_tests) in let one : nat_le k (line - 1) ≡ false = grind (arith, nat_tests) in
            let two : nat_le k line ≡ false = grind (arith, nat_tests) in simp (apart, one, two))
      ]
    ])

    nothing : length (inked row) ≡ 0 → inked row ≡ []
    nothing none = inked_is row ∙ ap (λ n. take n row) (sym (ink_long row) ∙ none)

    module _ (at column : ℕ) (wrap : Bool) where
      abbrev before : Console
      before = drawing c above at column wrap start

      -- a line with no inked cell
      left_out : length (inked row) ≡ 0 → LineLead line start before
      unfolding line_text rendition_after_line
      left_out none =
          let test : (length (inked row) == 0) ≡ true = grind (arith, nat_tests) in
          let rendition : rendition_after start (inked row) ≡ start = ap (rendition_after start) (nothing none) in
          let no_ink : ink row ≡ 0 = sym (ink_long row) ∙ none in
          let blank_row_is : cells_to 0 row ≡ row = all_drawn 0 row (λ k past within. blank_behind ascii row row_fits k (subst (λ n. n < k) (sym no_ink) past) within) in
          let same : above ≡ rows_by line = sym begun ∙ ap (λ r. with_row line r above) blank_row_is ∙ ended_with in
          record {
            at = at;
            column = column;
            wrap = wrap;
            leads = leads_as before before (drawing c (rows_by line) at column wrap (rendition_after start (inked row))) [] _ (leads_none before)
                (sym (ap (λ b. text_where (not b) (placed_text line 1 ++ cells_text start (inked row))) test))
                (ap₂ (λ rs r. drawing c rs at column wrap r) same (sym rendition));
            colours = subst IsByteRendition (sym rendition) start_is;
          }

      -- one with some
      written_out : (length (inked row) == 0) ≡ false → LineLead line start before
      unfolding line_text rendition_after_line
      written_out inks =
          let n = ink row in
          let end = end_of n row in
          let within : line ≤ length above = (let long = length-table (length rows) (λ k. if nat_le k (line - 1) then row_at rows k else blank_row columns Default) in omega arith) in
          let placed : Console = drawing c above line 1 false start in
          let first = firsts_lead laws c draws above line line_low within row (row_is row row_fits) row_full start start_is n (omega arith) in
          let s : Console = behind_of c (with_row line (cells_to (end_of 0 row) row) above) line (end_of 0 row) start in
          let t : Console = behind_of c (with_row line (cells_to end row) above) line end (rendition_after start (take n row)) in
          let u : Console = behind_of c (rows_by line) line end (rendition_after start (inked row)) in
          let one : min columns (0 + 1) ≡ 1 = omega arith in
          let zero_apart : (0 == columns) ≡ false = grind (arith, nat_tests) in
          let here : placed ≡ s =
          sym (ap (λ e. behind_of c (with_row line (cells_to e row) above) line e start) (end_none row)
          ∙ ap (λ rs. behind_of c rs line 0 start) begun
          ∙ ap₂ (λ k b. drawing c above line k b start) one zero_apart) in
          let reach = end_least n row in
          let drawn : cells_to end row ≡ row = all_drawn end row (λ k past inside. blank_behind ascii row row_fits k (omega arith) inside) in
          let there : t ≡ u =
          ap (λ r. behind_of c (with_row line r above) line end (rendition_after start (take n row))) drawn
          ∙ ap₂ (λ rs cells. behind_of c rs line end (rendition_after start cells)) ended_with (sym (inked_is row)) in
          let place = place_leads laws c above at column wrap start line 1 draws.title origin few narrow line_low (omega arith) (omega arith) (omega arith) in
          record {
            at = line;
            column = min columns (end + 1);
            wrap = end == columns;
            leads = leads_as before u u (placed_text line 1 ++ cells_text start (inked row)) _
                (leads_both before s u (placed_text line 1) (cells_text start (inked row))
                (leads_as before placed s (placed_text line 1) (placed_text line 1) place refl here)
                (leads_as s t u (cells_text start (take n row)) (cells_text start (inked row)) first.leads (ap (cells_text start) (sym (inked_is row))) there))
                (sym (ap (λ b. text_where (not b) (placed_text line 1 ++ cells_text start (inked row))) inks)) refl;
            colours = subst (λ cells. IsByteRendition (rendition_after start cells)) (sym (inked_is row)) first.colours;
          }

      line_leads : LineLead line start before
      line_leads = elim (cases_Bool (length (inked row) == 0)) [
        | inl none ↦ left_out (is_zero none)
        | inr inks ↦ written_out inks
      ]
        where
          is_zero : (length (inked row) == 0) ≡ true → length (inked row) ≡ 0
          is_zero none = grind (arith, nat_tests)

  -- ---- all of them

  abbrev pub after_lines : ℕ → Rendition
  after_lines n = rendition_after_lines no_rendition (take n rows)

  -- behind the first lines
  pub record LinesLead (n : ℕ) : Type 0 where
    pub at : ℕ
    pub column : ℕ
    pub wrap : Bool
    pub leads : Leads (drawing c (rows_by 0) 1 1 false no_rendition) (lines_text no_rendition 1 (take n rows)) (drawing c (rows_by n) at column wrap (after_lines n))
    pub colours : IsByteRendition (after_lines n)

  first_lines : LinesLead 0
  first_lines =
      let s : Console = drawing c (rows_by 0) 1 1 false no_rendition in
      let rendition = no_lines_rendition no_rendition in
      record {
        at = 1;
        column = 1;
        wrap = false;
        leads = leads_as s s (drawing c (rows_by 0) 1 1 false (after_lines 0)) [] (lines_text no_rendition 1 []) (leads_none s) (sym (no_lines_text no_rendition 1))
            (ap (λ r. drawing c (rows_by 0) 1 1 false r) (sym rendition));
        colours = subst IsByteRendition (sym rendition) (record { ink = tt; paper = tt });
      }

  more_lines : (line : ℕ) → 1 ≤ line → line ≤ length rows → LinesLead (line - 1) → LinesLead line
  more_lines line low within before =
      let start = after_lines (line - 1) in
      let next = line_leads line low within start before.colours before.at before.column before.wrap in
      let rendition = rendition_after_lines_more no_rendition rows line low within in
      let s : Console = drawing c (rows_by 0) 1 1 false no_rendition in
      let t : Console = drawing c (rows_by (line - 1)) before.at before.column before.wrap start in
      let u : Console = drawing c (rows_by line) next.at next.column next.wrap (rendition_after_line start (row_at rows line)) in
      record {
        at = next.at;
        column = next.column;
        wrap = next.wrap;
        leads = leads_as s u (drawing c (rows_by line) next.at next.column next.wrap (after_lines line))
            (lines_text no_rendition 1 (take (line - 1) rows) ++ line_text start line (row_at rows line)) (lines_text no_rendition 1 (take line rows))
            (leads_both s t u (lines_text no_rendition 1 (take (line - 1) rows)) (line_text start line (row_at rows line)) before.leads next.leads)
            (sym (lines_text_more no_rendition rows line low within))
            (ap (λ r. drawing c (rows_by line) next.at next.column next.wrap r) (sym rendition));
        colours = subst IsByteRendition (sym rendition) next.colours;
      }

  lines_lead : (n : ℕ) → n ≤ length rows → LinesLead n
  lines_lead zero within = first_lines
  lines_lead (suc n) within =
      let same : n ≡ suc n - 1 = omega arith in
      more_lines (suc n) (omega arith) within (subst LinesLead same (lines_lead n (omega arith)))

  -- the whole sheet
  pub record SheetLead : Type 0 where
    pub at : ℕ
    pub column : ℕ
    pub wrap : Bool
    pub rendition : Rendition
    pub leads : Leads (drawing c (rows_by 0) 1 1 false no_rendition) (lines_text no_rendition 1 rows) (drawing c rows at column wrap rendition)

  pub sheet_leads : SheetLead
  sheet_leads =
      let done = lines_lead (length rows) (omega arith) in
      let s : Console = drawing c (rows_by 0) 1 1 false no_rendition in
      let t : Console = drawing c (rows_by (length rows)) done.at done.column done.wrap (after_lines (length rows)) in
      let u : Console = drawing c rows done.at done.column done.wrap (after_lines (length rows)) in
      record {
        at = done.at;
        column = done.column;
        wrap = done.wrap;
        rendition = after_lines (length rows);
        leads = leads_as s t u (lines_text no_rendition 1 (take (length rows) rows)) (lines_text no_rendition 1 rows) done.leads
            (all_lines_text no_rendition rows (length rows) (omega arith))
            (ap (λ rs. drawing c rs done.at done.column done.wrap (after_lines (length rows))) (all_rows_to columns rows));
      }
