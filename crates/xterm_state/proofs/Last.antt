-- Where the last character stands, and what its text brings.
use Rattle.std.proofs.Common.{◌≡◌, ◌⊎◌, ℕ, ◌+◌, ◌-◌, ◌≤◌, Bool, true, false, List, [], ◌∷◌, ◌++◌, length, min, refl, sym, ap, ap₂, subst, inl, inr, ◌∙◌, arith, append_assoc}
use Rattle.std.specs.Prelude.{Option, Some, None, if◌then◌else◌, ◌==◌, ◌&&◌, ◌||◌, not}
use Rattle.std.proofs.lemmas.Bool.{cases_Bool, false≢true}
use Rattle.std.proofs.lemmas.Bool.Decides.{nat_tests}
use Rattle.characters.specs.Law.{AsciiIsNarrow}
use Rattle.sheet.specs.declared.rendition.Rendition.{Rendition}
use Rattle.sheet.specs.Cells.{Cell, cell_at, is_covered, is_wide}
use Rattle.sheet.specs.Edits.{character_column}
use Rattle.sheet.specs.Grid.{row_at}
use Rattle.xterm_rows.specs.RowText.{printed}
use Rattle.xterm_screen.specs.Picture.{Picture}
use Rattle.xterm_term.specs.Console.{Console, IsSafe}
use Rattle.xterm_term.specs.Sets.{set_in_use}
use Rattle.xterm_term.specs.Term.{play}
use Rattle.xterm_term.proofs.Runs.{on_ground}
use Rattle.xterm_escaped.specs.EscapedText.{same_rendition, text_where}
use Rattle.xterm_escaped.proofs.Cells.{LawsBelow}
use Rattle.xterm_escaped.proofs.Drawn.{end_of}
use Rattle.xterm_escaped.proofs.Fitting.{Fits}
use Rattle.xterm_escaped.proofs.FittingTerms.{Fit}
use Rattle.xterm_escaped.proofs.Led.{ended}
use Rattle.xterm_escaped.proofs.LinesDrawn.{row_is}
use Rattle.xterm_escaped.proofs.Same.{same_decides}
use Rattle.xterm_escaped.proofs.Shown.{drawing}
use Rattle.xterm_state.specs.StateText.{again_text, begin_of, cell_of, column_text, is_at_cursor, last_column, last_text, taken_out_text}
use Rattle.xterm_state.proofs.Again.{IsGiven, again_settles, put_behind}
use Rattle.xterm_state.proofs.Brings.{Goes, Settles, brings_goes, goes_nowhere}
use Rattle.xterm_state.proofs.ClosingLemmas.{column_brings, ends_last, lies}
use Rattle.xterm_state.proofs.Reached.{Reached}

-- ---- where it stands

-- It ends at the last column while a wrap is pending, or left of the cursor, or at the last column where no wrap becomes
-- pending; there a mark doesn't join one of width 1.
abbrev pub IsPlace : Picture → Bool → Cell → ℕ → Type 0
IsPlace p autowrap cell end =
    ((p.wrap ≡ true) × (end ≡ p.columns))
    ⊎ (((p.wrap ≡ false) × (end + 1 ≡ p.column))
    ⊎ ((p.wrap ≡ false) × (autowrap ≡ false) × (p.column ≡ p.columns) × (end ≡ p.columns) × (is_wide cell ≡ false → cell.marks ≡ [])))

-- in the cursor's row
pub record StandsIn (row : List Cell) (s : Console) (character : ℕ) : Type 0 where
  pub at : ℕ
  pub low : 1 ≤ at
  pub high : at ≤ length row
  pub open_ : is_covered (cell_at row at) ≡ false
  pub is : (cell_at row at).character ≡ character
  pub rendition : (cell_at row at).rendition ≡ s.rendition
  pub place : IsPlace s.picture s.modes.autowrap (cell_at row at) (end_of at row)
  pub given : IsGiven (set_in_use s.sets) character

abbrev pub Stands : Console → ℕ → Type 0
Stands s character = StandsIn (row_at s.picture.rows s.picture.line) s character

abbrev pub LastStands : Console → Option ℕ → Type 0
LastStands s None = Unit {0}
LastStands s (Some character) = Stands s character

same_itself : (r : Rendition) → same_rendition r r ≡ true
same_itself r = grind (arith, nat_tests)

same_as : (r t : Rendition) → r ≡ t → same_rendition r t ≡ true
same_as r t e = subst (λ (u : Rendition). same_rendition r u ≡ true) e (same_itself r)

none_of : (marks : List ℕ) → (length marks == 0) ≡ true → marks ≡ []
none_of [] is = refl
none_of (mark ∷ marks) is = absurd (omega (arith, nothing))
  where
    nothing : length (mark ∷ marks) ≡ 0
    nothing = grind (arith, nat_tests)

both_parts : (a b : Bool) → (a && b) ≡ true → (a ≡ true) × (b ≡ true)
both_parts true true is = (refl, refl)
both_parts true false is = absurd cc
both_parts false b is = absurd cc

number_is : (m n : ℕ) → (m == n) ≡ true → m ≡ n
number_is m n is = grind (arith, nat_tests)

unless : (b : Bool) → not b ≡ true → b ≡ false
unless true is = absurd cc
unless false is = refl

module _ (laws : LawsBelow) (ascii : AsciiIsNarrow) (s : Console) (safe : IsSafe s) (fit : Fit s) (reached : Reached s) where
  abbrev p : Picture
  p = s.picture

  abbrev row : List Cell
  row = row_at p.rows p.line

  row_fits : Fits row
  row_fits = fit.picture.rows.fit p.line

  line_within : p.line ≤ length p.rows
  line_within = let long = fit.picture.rows_long in let high = safe.sound.line_high in omega arith

  row_full : length row ≡ p.columns
  row_full = fit.picture.rows.full p.line safe.sound.line_low line_within

  -- a character that serves: over itself it gives all that is there
  record Serves (character at : ℕ) : Type 0 where
    low : 1 ≤ at
    high : at ≤ length row
    open_ : is_covered (cell_at row at) ≡ false
    is : (cell_at row at).character ≡ character
    rendition : (cell_at row at).rendition ≡ s.rendition
    column : min p.columns (end_of at row + 1) ≡ p.column
    wrap : ((end_of at row == p.columns) && s.modes.autowrap) ≡ p.wrap
    bare : s.modes.autowrap ≡ false → end_of at row ≡ p.columns → is_wide (cell_at row at) ≡ false → (cell_at row at).marks ≡ []

  -- the character that lies at a column begins where one does that ends there
  begins_where : (at column : ℕ) → 1 ≤ at → is_covered (cell_at row at) ≡ false → end_of at row ≡ column → character_column column row ≡ at
  begins_where at column low open_ ends = elim (cases_Bool (is_wide (cell_at row at))) [
    | inl wide ↦ (let e : column ≡ at + 1 = sym ends ∙ ap (λ b. if b then at + 1 else at) wide in
        let covered : is_covered (cell_at row column) ≡ true = ap (λ k. is_covered (cell_at row k)) e ∙ row_fits.whole at ∙ wide in
        ap (λ b. if b then column - 1 else column) covered ∙ omega arith)
    | inr narrow ↦ (let e : column ≡ at = sym ends ∙ ap (λ b. if b then at + 1 else at) narrow in
        let free : is_covered (cell_at row column) ≡ false = ap (λ k. is_covered (cell_at row k)) e ∙ open_ in
        ap (λ b. if b then column - 1 else column) free ∙ e)
  ]

  abbrev at_of : ℕ → ℕ
  at_of character = begin_of p (last_column s character)

  -- where a wrap is pending
  serves_pending : (character : ℕ) (stands : Stands s character) → p.wrap ≡ true → end_of stands.at row ≡ p.columns → Serves character (at_of character)
  serves_pending character stands wrap ends =
      let reach = reached.wraps wrap in
      let column : last_column s character ≡ p.columns =
      ap (λ b. if b || (not s.modes.autowrap && p.column == p.columns && (cell_of p p.columns).character == character
      && same_rendition (cell_of p p.columns).rendition s.rendition && (is_wide (cell_of p p.columns) || length (cell_of p p.columns).marks == 0)) then p.column else p.column - 1) wrap
      ∙ reach.0 in
      let at : at_of character ≡ stands.at = ap (λ k. begin_of p k) column ∙ begins_where stands.at p.columns stands.low stands.open_ ends in
      let same : (end_of stands.at row == p.columns) ≡ true = grind (arith, nat_tests) in
      subst (Serves character) (sym at) (record {
        low = stands.low;
        high = stands.high;
        open_ = stands.open_;
        is = stands.is;
        rendition = stands.rendition;
        column = (let here = reach.0 in omega arith);
        wrap = ap₂ (λ a b. a && b) same reach.1 ∙ sym wrap;
        bare = λ stays. absurd (false≢true (sym stays ∙ reach.1));
      })

  -- the cell at the last column is the one
  serves_there : (character : ℕ) → IsGiven (set_in_use s.sets) character → p.wrap ≡ false
      → (not s.modes.autowrap && p.column == p.columns && (cell_of p p.columns).character == character
      && same_rendition (cell_of p p.columns).rendition s.rendition && (is_wide (cell_of p p.columns) || length (cell_of p p.columns).marks == 0)) ≡ true
      → is_at_cursor s character ≡ true → Serves character (at_of character)
  serves_there character given unwrapped test at_cursor =
      let cell = cell_of p p.columns in
      let one = both_parts _ _ test in
      let two = both_parts _ _ one.0 in
      let three = both_parts _ _ two.0 in
      let four = both_parts _ _ three.0 in
      let stays = unless s.modes.autowrap four.0 in
      let here = number_is p.column p.columns four.1 in
      let is = number_is cell.character character three.1 in
      let some = safe.sound.columns_low in
      let full = row_full in
      let it = lies row row_fits.whole p.columns (omega arith) (omega arith) in
      let ends = ends_last row row_fits.whole p.columns (omega arith) (sym full) in
      let colours = (row_fits.loose.cells (begin_of p p.columns)).colours in
      let rendition = same_decides cell.rendition s.rendition colours.ink colours.paper fit.rendition.ink fit.rendition.paper two.1 in
      let column : last_column s character ≡ p.columns = ap (λ b. if b then p.column else p.column - 1) at_cursor ∙ here in
      let same : (end_of (begin_of p p.columns) row == p.columns) ≡ true = grind (arith, nat_tests) in
      subst (λ k. Serves character (begin_of p k)) (sym column) (record {
        low = it.low;
        high = it.high;
        open_ = it.open_;
        is = is;
        rendition = rendition;
        column = omega arith;
        wrap = ap₂ (λ a b. a && b) same stays ∙ sym unwrapped;
        bare = λ off last narrow. none_of cell.marks (sym (ap (λ b. b || length cell.marks == 0) narrow) ∙ one.1);
      })

  serves_left : (character : ℕ) (stands : Stands s character) → p.wrap ≡ false → end_of stands.at row + 1 ≡ p.column → is_at_cursor s character ≡ false → Serves character (at_of character)
  serves_left character stands unwrapped ends not_there =
      let column : last_column s character ≡ p.column - 1 = ap (λ b. if b then p.column else p.column - 1) not_there in
      let left : end_of stands.at row ≡ p.column - 1 = omega arith in
      let at : at_of character ≡ stands.at = ap (λ k. begin_of p k) column ∙ begins_where stands.at (p.column - 1) stands.low stands.open_ left in
      let high = safe.sound.column_high in
      let apart : (end_of stands.at row == p.columns) ≡ false = grind (arith, nat_tests) in
      subst (Serves character) (sym at) (record {
        low = stands.low;
        high = stands.high;
        open_ = stands.open_;
        is = stands.is;
        rendition = stands.rendition;
        column = omega arith;
        wrap = ap (λ b. b && s.modes.autowrap) apart ∙ sym unwrapped;
        bare = λ stays last. absurd (let e : end_of stands.at row ≡ p.columns = last in omega arith);
      })

  -- the one at the last column would have been found
  found_there : (character : ℕ) (stands : Stands s character) → s.modes.autowrap ≡ false → p.column ≡ p.columns → end_of stands.at row ≡ p.columns
      → (is_wide (cell_at row stands.at) ≡ false → (cell_at row stands.at).marks ≡ [])
      → (not s.modes.autowrap && p.column == p.columns && (cell_of p p.columns).character == character
      && same_rendition (cell_of p p.columns).rendition s.rendition && (is_wide (cell_of p p.columns) || length (cell_of p p.columns).marks == 0)) ≡ true
  found_there character stands stays here ends bare =
      let at : begin_of p p.columns ≡ stands.at = begins_where stands.at p.columns stands.low stands.open_ ends in
      let column : (p.column == p.columns) ≡ true = grind (arith, nat_tests) in
      let letter : ((cell_at row stands.at).character == character) ≡ true = (let e = stands.is in grind (arith, nat_tests)) in
      let rendition = same_as (cell_at row stands.at).rendition s.rendition stands.rendition in
      let alone : (is_wide (cell_at row stands.at) || length (cell_at row stands.at).marks == 0) ≡ true = elim (cases_Bool (is_wide (cell_at row stands.at))) [
        | inl wide ↦ ap (λ b. b || length (cell_at row stands.at).marks == 0) wide
        | inr narrow ↦ ap₂ (λ b (m : List ℕ). b || length m == 0) narrow (bare narrow)
      ] in
      ap (λ k. not s.modes.autowrap && p.column == p.columns && (cell_at row k).character == character
      && same_rendition (cell_at row k).rendition s.rendition && (is_wide (cell_at row k) || length (cell_at row k).marks == 0)) at
      ∙ simp (stays, column, letter, rendition, alone)

  serves : (character : ℕ) → Stands s character → Serves character (at_of character)
  serves character stands = elim (cases_Bool p.wrap) [
    | inl wrap ↦ elim stands.place [
      | inl pending ↦ serves_pending character stands wrap pending.1
      | inr not_pending ↦ absurd (false≢true (sym (elim not_pending [ inl left ↦ left.0 | inr last ↦ last.0 ]) ∙ wrap))
    ]
    | inr unwrapped ↦ elim (cases_Bool (is_at_cursor s character)) [
      | inl there ↦ serves_there character stands.given unwrapped
          (sym (ap (λ b. b || (not s.modes.autowrap && p.column == p.columns && (cell_of p p.columns).character == character
          && same_rendition (cell_of p p.columns).rendition s.rendition && (is_wide (cell_of p p.columns) || length (cell_of p p.columns).marks == 0))) unwrapped) ∙ there) there
      | inr not_there ↦ elim stands.place [
        | inl pending ↦ absurd (false≢true (sym unwrapped ∙ pending.0))
        | inr not_pending ↦ elim not_pending [
          | inl left ↦ serves_left character stands unwrapped left.1 not_there
          | inr last ↦ absurd (false≢true (sym not_there
              ∙ ap (λ b. b || (not s.modes.autowrap && p.column == p.columns && (cell_of p p.columns).character == character
              && same_rendition (cell_of p p.columns).rendition s.rendition && (is_wide (cell_of p p.columns) || length (cell_of p p.columns).marks == 0))) unwrapped
              ∙ found_there character stands last.1 last.2 last.3 last.4))
        ]
      ]
    ]
  ]

  -- ---- its text

  -- all but the last character and a title
  abbrev bare_console : Console
  bare_console = record s { last = None; title = false }

  again_goes : (character : ℕ) → Stands s character → Goes bare_console (again_text s (last_column s character)) (record s { last = Some character; title = false })
  again_goes character stands =
      let at = at_of character in
      let it = serves character stands in
      let is = row_is row row_fits in
      let full = row_full in
      let letter = is.letters at it.low it.high it.open_ in
      let cell = cell_at row at in
      let given : IsGiven (set_in_use s.sets) cell.character = subst (IsGiven (set_in_use s.sets)) (sym it.is) stands.given in
      let at_high = it.high in
      let there = column_brings laws ascii s safe fit reached bare_console p.line p.column at p.wrap s.rendition refl refl refl refl refl refl it.low (omega arith) in
      let again = again_settles laws ascii bare_console refl p.rows p.line safe.sound.line_low line_within row_fits.whole full at it.low it.high it.open_ (is.covers at) letter given
      s.modes.insert refl it.bare in
      let here : drawing bare_console p.rows p.line at false cell.rendition ≡ drawing bare_console p.rows p.line at false s.rendition
      = ap (drawing bare_console p.rows p.line at false) it.rendition in
      let after : ended (Some cell.character) (put_behind bare_console p.rows p.line (end_of at row) cell.rendition) ≡ record s { last = Some character; title = false }
      = ap₂ (λ (k : ℕ) (r : Rendition). ended (Some k) (put_behind bare_console p.rows p.line (end_of at row) r)) it.is it.rendition
      ∙ ap₂ (λ (k : ℕ) (b : Bool). ended (Some character) (drawing bare_console p.rows p.line k b s.rendition)) it.column it.wrap in
      let over : Settles (drawing bare_console p.rows p.line at false s.rendition) (text_where s.modes.insert (taken_out_text (is_wide cell)) ++ printed cell) (record s { last = Some character; title = false })
      = record {
        played = λ l reports.
            ap (λ (c : Console). play (on_ground (ended l c) reports) (text_where s.modes.insert (taken_out_text (is_wide cell)) ++ printed cell)) (sym here)
            ∙ again.played l reports ∙ ap (λ (c : Console). on_ground c reports) after;
      } in
      let all = brings_goes there over in
      let text = append_assoc (column_text s.modes.origin p at) (text_where s.modes.insert (taken_out_text (is_wide cell))) (printed cell) in
      record { played = λ reports. ap (λ t. play (on_ground bare_console reports) t) text ∙ all.played reports }

  pub last_goes : (last : Option ℕ) → s.last ≡ last → LastStands s last → Goes bare_console (last_text s last) (record s { title = false })
  last_goes None is stands = record { played = λ reports. (goes_nowhere bare_console).played reports ∙ ap (λ l. on_ground (record s { last = l; title = false }) reports) (sym is) }
  last_goes (Some character) is stands = record {
    played = λ reports. (again_goes character stands).played reports ∙ ap (λ l. on_ground (record s { last = l; title = false }) reports) (sym is);
  }
