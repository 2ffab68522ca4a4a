-- The cells of a row are drawn one after another.
use Rattle.std.proofs.Common.{◌≡◌, ℕ, zero, suc, ◌+◌, ◌-◌, ◌<◌, ◌≤◌, true, false, List, [], ◌∷◌, ◌++◌, length, take, get_or, encode_utf8, refl, sym, ap, inl, inr, ◌∙◌, arith, subst}
use Rattle.std.specs.Prelude.{if◌then◌else◌}
use Rattle.std.specs.List.{flat_map}
use Rattle.std.proofs.lemmas.Bool.{cases_Bool, cases_lt, false≢true}
use Rattle.sheet.specs.declared.rendition.Colour.TheVariants.{Default}
use Rattle.sheet.specs.declared.rendition.Rendition.{Rendition}
use Rattle.sheet.specs.Cells.{Cell, blank, cell_at, covering, is_covered, is_wide}
use Rattle.sheet.specs.Grid.{with_row}
use Rattle.sheet.specs.Halves.{Whole}
use Rattle.xterm_rows.specs.RowText.{characters, printed}
use Rattle.xterm_term.specs.Console.{Console}
use Rattle.xterm_escaped.specs.EscapedText.{cell_text, cells_text, rendition_after, rendition_text}
use Rattle.xterm_escaped.proofs.Cells.{IsByteRendition, LawsBelow, change_leads}
use Rattle.xterm_escaped.proofs.Drawn.{blank_open, cell_outside, cells_to, covering_narrow, end_of}
use Rattle.xterm_escaped.proofs.EscapedLemmas.{cells_text_more, rendition_after_more}
use Rattle.xterm_escaped.proofs.Led.{Leads, leads_as, leads_both, leads_none}
use Rattle.xterm_escaped.proofs.Redrawing.{Draws, IsLetter, cell_leads}
use Rattle.xterm_escaped.proofs.Shown.{behind_of}
use Rattle.xterm_escaped.proofs.Tables.{nth_next}

-- what a row of a terminal is
pub record IsRow (row : List Cell) : Type 0 where
  pub whole : Whole row
  pub covers : (k : ℕ) → is_wide (cell_at row k) ≡ true → cell_at row (k + 1) ≡ covering (cell_at row k).rendition
  pub letters : (k : ℕ) → 1 ≤ k → k ≤ length row → is_covered (cell_at row k) ≡ false → IsLetter (cell_at row k)
  pub colours : (k : ℕ) → IsByteRendition (cell_at row k).rendition

printed_none : (cell : Cell) → is_covered cell ≡ true → printed cell ≡ []
unfolding printed characters
printed_none cell covered = ap (λ b. flat_map encode_utf8 (if b then [] else cell.character ∷ cell.marks)) covered

-- one of a row's cells is no half
pub end_within : (row : List Cell) (k : ℕ) → Whole row → k ≤ length row → end_of k row ≤ length row
end_within row k whole within = elim (cases_Bool (is_wide (cell_at row k))) [
  | inl wide ↦ elim (cases_lt k (length row)) [
    | inl less ↦ (let e : end_of k row ≡ k + 1 = ap (λ b. if b then k + 1 else k) wide in omega arith)
    | inr all ↦
        (let outside = cell_outside row (k + 1) (λ some. omega arith) in
        absurd (false≢true (sym (ap is_covered outside ∙ blank_open Default) ∙ whole k ∙ wide)))
  ]
  | inr narrow ↦ (let e : end_of k row ≡ k = ap (λ b. if b then k + 1 else k) narrow in omega arith)
]

module _ (laws : LawsBelow) (c : Console) (draws : Draws c) (above : List (List Cell)) (line : ℕ) (low : 1 ≤ line) (high : line ≤ length above)
    (row : List Cell) (is : IsRow row) (full : length row ≡ c.picture.columns) (start : Rendition) (start_is : IsByteRendition start) where
  -- behind so many of its cells
  abbrev pub drawn_by : ℕ → Rendition → Console
  drawn_by n r = behind_of c (with_row line (cells_to (end_of n row) row) above) line (end_of n row) r

  abbrev pub after : ℕ → Rendition
  after n = rendition_after start (take n row)

  cell_is : (n : ℕ) → get_or row n (blank Default) ≡ cell_at row (n + 1)
  cell_is n = sym (nth_next (blank Default) row n)

  -- one more
  one_more : (n : ℕ) → n < length row → IsByteRendition (after n)
      → Leads (drawn_by n (after n)) (cell_text (after n) (cell_at row (n + 1))) (drawn_by (n + 1) (cell_at row (n + 1)).rendition)
  one_more n within before =
      let cell = cell_at row (n + 1) in
      let changed = change_leads laws c draws.title (with_row line (cells_to (end_of n row) row) above) line _ _ (after n) cell.rendition before (is.colours (n + 1)) in
      elim (cases_Bool (is_covered cell)) [
        | inl covered ↦
            (let wide : is_wide (cell_at row n) ≡ true = sym (is.whole n) ∙ covered in
            let ends : end_of n row ≡ n + 1 = ap (λ b. if b then n + 1 else n) wide in
            let narrow : is_wide cell ≡ false = ap is_wide (is.covers n wide) ∙ covering_narrow (cell_at row n).rendition in
            let next : end_of (n + 1) row ≡ n + 1 = ap (λ b. if b then n + 1 + 1 else n + 1) narrow in
            leads_both (drawn_by n (after n)) (drawn_by n cell.rendition) (drawn_by (n + 1) cell.rendition) (rendition_text (after n) cell.rendition) (printed cell) changed
            (leads_as (drawn_by n cell.rendition) (drawn_by n cell.rendition) (drawn_by (n + 1) cell.rendition) [] (printed cell) (leads_none (drawn_by n cell.rendition)) (sym (printed_none cell covered))
            (ap (λ e. behind_of c (with_row line (cells_to e row) above) line e cell.rendition) (ends ∙ sym next))))
        | inr open_ ↦
            (let narrow : is_wide (cell_at row n) ≡ false = sym (is.whole n) ∙ open_ in
            let ends : end_of n row ≡ n + 1 - 1 = ap (λ b. if b then n + 1 else n) narrow ∙ omega arith in
            let end_high : end_of (n + 1) row ≤ c.picture.columns = (let e = end_within row (n + 1) is.whole (omega arith) in omega arith) in
            let drawn = cell_leads laws c draws above line low high cell.rendition row is.whole (n + 1) (omega arith) (omega arith) open_ end_high (is.covers (n + 1))
            (is.letters (n + 1) (omega arith) (omega arith) open_) refl in
            leads_both (drawn_by n (after n)) (drawn_by n cell.rendition) (drawn_by (n + 1) cell.rendition) (rendition_text (after n) cell.rendition) (printed cell) changed
            (subst (λ e. Leads (behind_of c (with_row line (cells_to e row) above) line e cell.rendition) (printed cell) (drawn_by (n + 1) cell.rendition)) (sym ends) drawn))
      ]

  -- the first cells
  pub record FirstLead (n : ℕ) : Type 0 where
    pub leads : Leads (drawn_by 0 start) (cells_text start (take n row)) (drawn_by n (after n))
    pub colours : IsByteRendition (after n)

  pub firsts_lead : (n : ℕ) → n ≤ length row → FirstLead n
  firsts_lead zero within = record { leads = leads_none (drawn_by 0 start); colours = start_is }
  firsts_lead (suc n) within =
      let next : n + 1 ≡ suc n = omega arith in
      let before = firsts_lead n (omega arith) in
      let below : n < length row = omega arith in
      let cell = cell_at row (n + 1) in
      let text = cells_text_more start row n (blank Default) below ∙ ap (λ x. cells_text start (take n row) ++ cell_text (after n) x) (cell_is n) in
      let rendition = rendition_after_more start row n (blank Default) below ∙ ap (λ (x : Cell). x.rendition) (cell_is n) in
      subst FirstLead next (record {
        leads = leads_as (drawn_by 0 start) (drawn_by (n + 1) cell.rendition) (drawn_by (n + 1) (after (n + 1)))
            (cells_text start (take n row) ++ cell_text (after n) cell) (cells_text start (take (n + 1) row))
            (leads_both (drawn_by 0 start) (drawn_by n (after n)) (drawn_by (n + 1) cell.rendition) (cells_text start (take n row)) (cell_text (after n) cell)
            before.leads (one_more n below before.colours))
            (sym text) (ap (drawn_by (n + 1)) (sym rendition));
        colours = subst IsByteRendition (sym rendition) (is.colours (n + 1));
      })
