-- One cell more is drawn: the console behind the cells of a row before it becomes the console behind it.
use Rattle.std.proofs.Common.{◌≡◌, ℕ, ◌+◌, ◌-◌, ◌≤◌, Bool, true, false, List, [], ◌∷◌, ◌++◌, length, min, encode_utf8, refl, sym, ap, ap₂, inl, inr, ◌∙◌, arith, append-nil, append_assoc}
use Rattle.std.specs.Prelude.{◌==◌, if◌then◌else◌, Option, Some}
use Rattle.std.specs.List.{flat_map, AllByRecursion}
use Rattle.std.proofs.lemmas.Bool.{cases_Bool, cases_eq}
use Rattle.std.proofs.lemmas.Bool.Decides.{nat_tests}
use Rattle.std.proofs.lemmas.List.{length-append}
use Rattle.characters.specs.Width.{width}
use Rattle.sheet.specs.declared.rendition.Rendition.{Rendition}
use Rattle.sheet.specs.Cells.{Cell, cell_at, covering, is_covered, is_wide}
use Rattle.sheet.specs.Edits.{mark_added, put as letter_put}
use Rattle.sheet.specs.Grid.{row_at, with_row}
use Rattle.sheet.specs.Halves.{Whole}
use Rattle.sheet.specs.Table.{table}
use Rattle.xterm_screen.specs.Puts.{width as columns_of}
use Rattle.xterm_rows.specs.RowText.{characters, printed}
use Rattle.xterm_term.specs.declared.sets.CharacterSet.TheVariants.{Ascii}
use Rattle.xterm_term.specs.Console.{Console}
use Rattle.xterm_term.specs.Puts.{is_c1, put}
use Rattle.xterm_term.specs.Sets.{set_in_use}
use Rattle.xterm_escaped.proofs.Cells.{IsTyped, LawsBelow, typed_leads}
use Rattle.xterm_escaped.proofs.Drawn.{cells_to, end_of, letter_drawn, mark_drawn, marked, own_marks}
use Rattle.xterm_escaped.proofs.Led.{Leads, ended, leads_as, leads_both, leads_none}
use Rattle.xterm_escaped.proofs.Shown.{IsCanvas, behind_of, drawing, letter_shown, mark_shown}
use Rattle.xterm_escaped.proofs.Tables.{length-table, nth-table, table_ext}

-- ---- rows

itself : (k : ℕ) (x y : List Cell) → (if k == k then x else y) ≡ x
itself k x y = grind (arith, nat_tests)

pub row_there : (line : ℕ) (row : List Cell) (rows : List (List Cell)) → 1 ≤ line → line ≤ length rows → row_at (with_row line row rows) line ≡ row
row_there line row rows low high =
    nth-table [] (length rows) (λ k. if k == line then row else row_at rows k) line low high ∙ itself line row (row_at rows line)

pub row_twice : (line : ℕ) (x y : List Cell) (rows : List (List Cell)) → with_row line x (with_row line y rows) ≡ with_row line x rows
row_twice line x y rows =
    ap (λ n. table n (λ k. if k == line then x else row_at (with_row line y rows) k)) (length-table (length rows) _)
    ∙ table_ext (length rows) _ _ (λ k low high.
    let was = nth-table [] (length rows) (λ j. if j == line then y else row_at rows j) k low high in
    elim (cases_eq k line) [ inl e ↦ grind (arith, nat_tests) | inr ne ↦ grind (arith, nat_tests) ])

-- ---- what may stand in a cell

pub record IsMark (mark : ℕ) : Type 0 where
  pub no_c1 : is_c1 mark ≡ false
  pub none : width mark ≡ 0
  pub typed : IsTyped mark

pub record IsLetter (cell : Cell) : Type 0 where
  pub no_c1 : is_c1 cell.character ≡ false
  pub columns : width cell.character ≡ columns_of (is_wide cell)
  pub typed : IsTyped cell.character
  pub few : length cell.marks ≤ 2
  pub marks : AllByRecursion IsMark cell.marks

-- what a console is on which cells are drawn
pub record Draws (c : Console) : Type 0 where
  pub canvas : IsCanvas c
  pub title : c.title ≡ false
  pub set : set_in_use c.sets ≡ Ascii

module _ (laws : LawsBelow) (c : Console) (draws : Draws c) (above : List (List Cell)) (line : ℕ) (low : 1 ≤ line) (high : line ≤ length above)
    (rendition : Rendition) where
  -- with this row in the line, and the cursor behind a column
  abbrev pub with_line : List Cell → ℕ → Console
  with_line row last = behind_of c (with_row line row above) line last rendition

  again : (row other : List Cell) (last : ℕ) (f : List Cell → List Cell) → f row ≡ other
      → behind_of c (with_row line (f (row_at (with_row line row above) line)) (with_row line row above)) line last rendition ≡ with_line other last
  again row other last f is =
      ap (λ rs. behind_of c rs line last rendition)
      (ap (λ r. with_row line (f r) (with_row line row above)) (row_there line row above low high)
      ∙ row_twice line (f row) row above ∙ ap (λ r. with_row line r above) is)

  module _ (row : List Cell) (whole : Whole row) (at : ℕ) (at_low : 1 ≤ at) (at_high : at ≤ length row) (open_ : is_covered (cell_at row at) ≡ false)
      (end_high : end_of at row ≤ c.picture.columns) where
    end_low : 1 ≤ end_of at row
    end_low = elim (cases_Bool (is_wide (cell_at row at))) [ inl wide ↦ grind (arith, nat_tests) | inr narrow ↦ grind (arith, nat_tests) ]

    -- its marks join it one after another
    marks_lead : (todo done : List ℕ) → AllByRecursion IsMark todo → length done + length todo ≤ 2
        → Leads (with_line (cells_to (end_of at row) (marked at done row)) (end_of at row)) (flat_map encode_utf8 todo)
        (with_line (cells_to (end_of at row) (marked at (done ++ todo) row)) (end_of at row))
    marks_lead [] done are few =
        let s : Console = with_line (cells_to (end_of at row) (marked at done row)) (end_of at row) in
        let u : Console = with_line (cells_to (end_of at row) (marked at (done ++ []) row)) (end_of at row) in
        leads_as s s u [] [] (leads_none s) refl (ap (λ m. with_line (cells_to (end_of at row) (marked at m row)) (end_of at row)) (sym (append-nil done)))
    marks_lead (mark ∷ todo) done are few =
        let last = end_of at row in
        let s : Console = with_line (cells_to last (marked at done row)) last in
        let t : Console = with_line (cells_to last (marked at (done ++ mark ∷ []) row)) last in
        let u : Console = with_line (cells_to last (marked at (done ++ mark ∷ todo) row)) last in
        let is = are.0 in
        let joins = again (cells_to last (marked at done row)) (cells_to last (marked at (done ++ mark ∷ []) row)) last (mark_added last mark)
        (mark_drawn at mark done row whole at_low at_high open_ (omega arith)) in
        let first = typed_leads laws s t mark draws.title draws.set is.typed
        (λ l. (
          l,
          mark_shown c (with_row line (cells_to last (marked at done row)) above) line last rendition mark l is.no_c1 is.none end_low end_high
              ∙ ap (ended l) joins,
        )) in
        let longer = length-append done (mark ∷ []) in
        let rest = marks_lead todo (done ++ mark ∷ []) are.1 (omega arith) in
        let same = append_assoc done (mark ∷ []) todo in
        leads_both s t u (encode_utf8 mark) (flat_map encode_utf8 todo) first
        (leads_as t (with_line (cells_to last (marked at ((done ++ mark ∷ []) ++ todo) row)) last) u (flat_map encode_utf8 todo) (flat_map encode_utf8 todo) rest refl
        (ap (λ m. with_line (cells_to last (marked at m row)) last) same))

    -- the whole cell
    pub cell_leads : (covers : is_wide (cell_at row at) ≡ true → cell_at row (at + 1) ≡ covering (cell_at row at).rendition) → IsLetter (cell_at row at)
        → (cell_at row at).rendition ≡ rendition
        → Leads (with_line (cells_to (at - 1) row) (at - 1)) (printed (cell_at row at)) (with_line (cells_to (end_of at row) row) (end_of at row))
    unfolding printed characters
    cell_leads covers is same =
        let cell = cell_at row at in
        let last = end_of at row in
        let s : Console = with_line (cells_to (at - 1) row) (at - 1) in
        let t : Console = with_line (cells_to last (marked at [] row)) last in
        let u : Console = with_line (cells_to last row) last in
        let wrote = again (cells_to (at - 1) row) (cells_to last (marked at [] row)) last (letter_put at cell.character (is_wide cell) rendition)
        (ap (λ r. letter_put at cell.character (is_wide cell) r (cells_to (at - 1) row)) (sym same) ∙ letter_drawn at row whole at_low at_high open_ covers) in
        let first = typed_leads laws s t cell.character draws.title draws.set is.typed
        (λ l. (
          Some cell.character,
          ap (λ (v : Console). put_on l v) begun
              ∙ letter_shown c (with_row line (cells_to (at - 1) row) above) line at last rendition cell.character (is_wide cell) l draws.canvas is.no_c1 is.columns next_column end_high
              ∙ ap (ended (Some cell.character)) wrote,
        )) in
        let few = is.few in
        let rest = marks_lead cell.marks [] is.marks (omega arith) in
        leads_as s u u (encode_utf8 cell.character ++ flat_map encode_utf8 cell.marks) (printed cell)
        (leads_both s t u (encode_utf8 cell.character) (flat_map encode_utf8 cell.marks) first
        (leads_as t (with_line (cells_to last (marked at cell.marks row)) last) u (flat_map encode_utf8 cell.marks) (flat_map encode_utf8 cell.marks) rest refl
        (ap (λ r. with_line (cells_to last r) last) (own_marks at row))))
        (sym (ap (λ b. flat_map encode_utf8 (if b then [] else cell.character ∷ cell.marks)) open_)) refl
      where
        put_on : Option ℕ → Console → Console
        put_on l v = put (cell_at row at).character (ended l v)

        next_column : at + columns_of (is_wide (cell_at row at)) ≡ end_of at row + 1
        next_column = elim (cases_Bool (is_wide (cell_at row at))) [ inl wide ↦ grind (arith, nat_tests) | inr narrow ↦ grind (arith, nat_tests) ]

        at_most : at ≤ c.picture.columns
        at_most = elim (cases_Bool (is_wide (cell_at row at))) [ inl wide ↦ grind (arith, nat_tests, end_high) | inr narrow ↦ grind (arith, nat_tests, end_high) ]

        begun : with_line (cells_to (at - 1) row) (at - 1) ≡ drawing c (with_row line (cells_to (at - 1) row) above) line at false rendition
        begun =
            let within = at_most in
            let apart : (at - 1 == c.picture.columns) ≡ false = grind (arith, nat_tests) in
            let column : min c.picture.columns (at - 1 + 1) ≡ at = omega arith in
            ap₂ (λ (k : ℕ) (b : Bool). drawing c (with_row line (cells_to (at - 1) row) above) line k b rendition) column apart
