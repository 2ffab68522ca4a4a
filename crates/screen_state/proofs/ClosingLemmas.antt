-- What the text behind the lines brings.
use Rattle.std.proofs.Common.{◌≡◌, ℕ, ◌+◌, ◌-◌, ◌<◌, ◌≤◌, Bool, true, false, List, [], ◌∷◌, ◌++◌, length, refl, sym, ap, ap₂, inl, inr, ◌∙◌, arith}
use Rattle.std.proofs.Math.Dec.{lit≤}
use Rattle.std.specs.Prelude.{codes, min, if◌then◌else◌}
use Rattle.std.proofs.lemmas.Bool.{cases_eq}
use Rattle.std.proofs.lemmas.Bool.Decides.{nat_tests}
use Rattle.vt_parser.specs.Syntax.{escape}
use Rattle.vt_screen.specs.declared.cell.Cell.{Cell}
use Rattle.vt_screen.specs.declared.cell.Row.{Row}
use Rattle.vt_screen.specs.Attributes.{Attributes}
use Rattle.vt_screen.specs.Cells.{blank, cell_at, row_at}
use Rattle.vt_screen.specs.Lines.{are_margins, margins_set}
use Rattle.vt_screen.specs.Moves.{placed}
use Rattle.vt_screen.specs.Picture.{Picture, Sound, IsInRegion, SoundRow, cell, right_margin}
use Rattle.vt_screen.specs.Puts.{with_cell, with_row}
use Rattle.vt_screen.proofs.Answers.{put_there}
use Rattle.vt_screen.proofs.Drawing.{placed_there}
use Rattle.vt_screen.proofs.Runs.{with_row_same, shown_unwrapped}
use Rattle.vt_screen.proofs.SoundRows.{right_margin_high}
use Rattle.vt_screen.proofs.Tables.{table_ext, table_is}
use Rattle.vt_term.specs.declared.modes.Modes.{Modes}
use Rattle.vt_term.specs.declared.sets.CharacterSet.TheVariants.{Ascii, SpecialGraphics}
use Rattle.vt_term.specs.declared.sets.Slot.{Slot}
use Rattle.vt_term.specs.Console.{Console, first_modes}
use Rattle.vt_term.specs.Effect.{glyphs_shown}
use Rattle.vt_term.specs.Printing.{Brings}
use Rattle.vt_term.specs.Replies.{reported_line}
use Rattle.vt_term.specs.Sequences.{param_or}
use Rattle.vt_term.proofs.Printed.{nothing_brings, characters_bring, control_sequences_bring, private_sequences_bring}
use Rattle.screen_rows.specs.Texts.{text_where}
use Rattle.screen_print.specs.EscapedText.{slot_for, byte_for, placed_text}
use Rattle.screen_print.proofs.Redrawn.{digit_texts, one_param, place_params, pair_text, brings_as, goes_brings, rendition_set_brings, shows_glyph, graphic_alone}
use Rattle.screen_state.specs.StateText.{margins_text, cell_again_text, cursor_text}
use Rattle.screen_state.proofs.Below.{below, joined}
use Rattle.screen_state.proofs.Kept.{slot_brings}

-- ---- the margins

second_param : (top bottom : ℕ) → 1 ≤ bottom → param_or (top ∷ bottom ∷ []) 1 24 ≡ bottom
second_param top bottom some = grind (arith, nat_tests)

first_param : (top bottom : ℕ) → 1 ≤ top → param_or (top ∷ bottom ∷ []) 0 1 ≡ top
first_param top bottom some = grind (arith, nat_tests)

are : (top bottom : ℕ) → 1 ≤ top → top < bottom → bottom ≤ 24 → are_margins top bottom ≡ true
are top bottom low apart high = grind (arith, nat_tests)

-- a console on the way: some picture, DECOM, DECAWM, and what is in force
abbrev pub on : Console → Picture → Bool → Bool → Attributes → Slot → Console
on c p origin autowrap rendition slot = record c {
  picture = p;
  modes = record first_modes { origin = origin; autowrap = autowrap };
  rendition = rendition;
  sets = record { g0 = Ascii; g1 = SpecialGraphics; invoked = slot; vt52_graphics = false };
}

module _ (c : Console) where
  abbrev bounded : Picture → ℕ → ℕ → Picture
  bounded p top bottom = record p { top = top; bottom = bottom; line = 1; column = 1; wrap = false }

  margins_bring : (p : Picture) (rendition : Attributes) (slot : Slot) (top bottom : ℕ) → 1 ≤ top → top < bottom → bottom ≤ 24
      → Brings (on c p false false rendition slot) (margins_text top bottom) (on c (bounded p top bottom) false false rendition slot)
  margins_bring p rendition slot top bottom low apart high =
      let s = on c p false false rendition slot in
      let set : margins_set (param_or (top ∷ bottom ∷ []) 0 1) (param_or (top ∷ bottom ∷ []) 1 24) false p ≡ bounded p top bottom =
      ap₂ (λ (t b : ℕ). margins_set t b false p) (first_param top bottom low) (second_param top bottom (omega arith))
      ∙ ap (λ (b : Bool). if b then bounded p top bottom else p) (are top bottom low apart high) in
      brings_as s (control_sequences_bring s (top ∷ bottom ∷ []) 114 refl (place_params top bottom (omega arith) (omega arith)) refl refl)
      (pair_text top bottom 114) (ap (λ (q : Picture). on c q false false rendition slot) set)

  -- ---- DECOM and DECAWM

  counts : (p : Picture) (rendition : Attributes) (slot : Slot) (origin : Bool) → p.column ≡ 1 → p.wrap ≡ false
      → (line : ℕ) × Brings (on c p false false rendition slot) (text_where origin (escape ∷ codes "[?6h")) (on c (record p { line = line; column = 1; wrap = false }) origin false rendition slot)
  counts p rendition slot true left none =
      let s = on c p false false rendition slot in
      (p.top, brings_as s (private_sequences_bring s (6 ∷ []) 104 refl (one_param 6 (lit≤ tt)) refl) (simp digit_texts refl) refl)
  counts p rendition slot false left none =
      let s = on c p false false rendition slot in
      (p.line, brings_as s (nothing_brings s) refl (ap₂ (λ (k : ℕ) (w : Bool). on c (record p { column = k; wrap = w }) false false rendition slot) left none))

  wraps : (p : Picture) (rendition : Attributes) (slot : Slot) (origin autowrap : Bool)
      → Brings (on c p origin false rendition slot) (text_where autowrap (escape ∷ codes "[?7h")) (on c p origin autowrap rendition slot)
  wraps p rendition slot origin true =
      let s = on c p origin false rendition slot in
      brings_as s (private_sequences_bring s (7 ∷ []) 104 refl (one_param 7 (lit≤ tt)) refl) (simp digit_texts refl) refl
  wraps p rendition slot origin false = nothing_brings _

  -- ---- the cursor

  goes_there : (p : Picture) (line column : ℕ) (origin : Bool) → 1 ≤ p.top → 1 ≤ line → line ≤ 24 → 1 ≤ column → column ≤ right_margin p line
      → (origin ≡ true → (p.top ≤ line) × (line ≤ p.bottom))
      → placed (reported_line origin line p.top) column origin p ≡ record p { line = line; column = column; wrap = false }
  goes_there p line column true top low high left within inside =
      let region = inside refl in
      let same : min (p.top + (line - (p.top - 1) - 1)) p.bottom ≡ line = omega (arith, region.0, region.1) in
      ap (λ (l : ℕ). let q : Picture = record p { line = l; column = min column (right_margin p l); wrap = false } in q) same
      ∙ ap (λ (k : ℕ). let q : Picture = record p { line = line; column = k; wrap = false } in q) (omega arith)
  goes_there p line column false top low high left within inside = placed_there line column p high within

  reported_low : (origin : Bool) (line top bottom : ℕ) → 1 ≤ line → (origin ≡ true → (top ≤ line) × (line ≤ bottom)) → 1 ≤ reported_line origin line top
  reported_low true line top bottom low inside = let region = inside refl in omega (arith, region.0)
  reported_low false line top bottom low inside = low

  reported_high : (origin : Bool) (line top : ℕ) → line ≤ 24 → reported_line origin line top ≤ 132
  reported_high true line top high = omega arith
  reported_high false line top high = omega arith

  goes : (p : Picture) (rendition : Attributes) (slot : Slot) (line column : ℕ) (origin autowrap : Bool) → 1 ≤ p.top → 1 ≤ line → line ≤ 24 → 1 ≤ column → column ≤ right_margin p line
      → (origin ≡ true → (p.top ≤ line) × (line ≤ p.bottom))
      → Brings (on c p origin autowrap rendition slot) (placed_text (reported_line origin line p.top) column) (on c (record p { line = line; column = column; wrap = false }) origin autowrap rendition slot)
  goes p rendition slot line column origin autowrap top low high left within inside =
      goes_brings below (on c p origin autowrap rendition slot) (reported_line origin line p.top) column origin (record p { line = line; column = column; wrap = false }) refl refl
      (reported_low origin line p.top p.bottom low inside) (reported_high origin line p.top high) left (omega (arith, right_margin_high p line))
      (goes_there p line column origin top low high left within inside)

  -- ---- the cell at the margin once more

  same_row : (row : Row) (column : ℕ) → length row.cells ≡ 132 → with_cell column (cell_at row column) row ≡ row
  same_row row column whole =
      ap (λ (cells : List Cell). let r : Row = record { size = row.size; cells = cells } in r)
      (table_ext 132 _ _ (λ k low high. elim (cases_eq k column) [ inl e ↦ (let same = ap (cell_at row) e in grind (arith, nat_tests)) | inr ne ↦ grind (arith, nat_tests) ])
      ∙ sym (table_is blank 132 row.cells whole))

  same_rows : (rows : List Row) (line column : ℕ) → length rows ≡ 24 → length (row_at rows line).cells ≡ 132
      → with_row line (with_cell column (cell_at (row_at rows line) column) (row_at rows line)) rows ≡ rows
  same_rows rows line column whole cells =
      ap (λ (r : Row). with_row line r rows) (same_row (row_at rows line) column cells) ∙ sym (with_row_same line rows whole)

  again : (p : Picture) (rendition : Attributes) (slot : Slot) (origin autowrap : Bool) → length p.rows ≡ 24 → SoundRow (p.wide) (row_at p.rows p.line) → p.wrap ≡ false
      → p.column ≡ right_margin p p.line
      → Brings (on c p origin autowrap rendition slot) (cell_again_text (cell p p.line p.column)) (on c (record p { wrap = autowrap }) origin autowrap (cell p p.line p.column).rendition (slot_for (cell p p.line p.column).glyph))
  again p rendition slot origin autowrap whole row none is =
      let it = cell p p.line p.column in
      let shows = shows_glyph it.glyph (row.glyphs p.column) in
      let s = on c p origin autowrap it.rendition (slot_for it.glyph) in
      let put : glyphs_shown (it.glyph ∷ []) s ≡ on c (record p { wrap = autowrap }) origin autowrap it.rendition (slot_for it.glyph) =
      ap (λ (q : Picture). on c q origin autowrap it.rendition (slot_for it.glyph))
      (shown_unwrapped it.rendition autowrap it.glyph p none ∙ sym (put_there p it autowrap is)
      ∙ ap (λ (rows : List Row). let q : Picture = record p { rows = rows; wrap = autowrap } in q) (same_rows p.rows p.line p.column whole row.cells)) in
      joined (rendition_set_brings below (on c p origin autowrap rendition slot) it.rendition refl)
      (joined (slot_brings (on c p origin autowrap it.rendition slot) (slot_for it.glyph) refl)
      (brings_as s (characters_bring s (byte_for it.glyph ∷ []) (graphic_alone (byte_for it.glyph) shows.graphic)) refl
      (ap (λ (g : ℕ). glyphs_shown (g ∷ []) s) (shows.glyph_is false) ∙ put)))

  -- where a wrap is pending, and where none is
  again_where : (p : Picture) (rendition : Attributes) (slot : Slot) (origin autowrap wrap : Bool) → length p.rows ≡ 24 → SoundRow p.wide (row_at p.rows p.line)
      → p.wrap ≡ false → (wrap ≡ true → (p.column ≡ right_margin p p.line) × (autowrap ≡ true))
      → (last : Attributes) × (in_force : Slot)
      × Brings (on c p origin autowrap rendition slot) (text_where wrap (cell_again_text (cell p p.line p.column))) (on c (record p { wrap = wrap }) origin autowrap last in_force)
  again_where p rendition slot origin autowrap true whole row none at_margin =
      let there = at_margin refl in
      let it = cell p p.line p.column in (
        it.rendition,
        slot_for it.glyph,
        brings_as (on c p origin autowrap rendition slot) (again p rendition slot origin autowrap whole row none there.0) refl
            (ap (λ (w : Bool). on c (record p { wrap = w }) origin autowrap it.rendition (slot_for it.glyph)) there.1),
      )
  again_where p rendition slot origin autowrap false whole row none at_margin = (
    rendition,
    slot,
    brings_as (on c p origin autowrap rendition slot) (nothing_brings (on c p origin autowrap rendition slot)) refl
        (ap (λ (w : Bool). on c (record p { wrap = w }) origin autowrap rendition slot) none),
  )

  -- ---- the cursor as it stood

  -- all of the picture but margins and cursor, and then these too
  pub cursor_brings : (p : Picture) (modes : Modes) (line column : ℕ) (rendition : Attributes) (slot : Slot) → Sound p → (modes.origin ≡ true → IsInRegion p)
      → (p.wrap ≡ true → (p.column ≡ right_margin p p.line) × (modes.autowrap ≡ true))
      → (last : Attributes) × (in_force : Slot)
      × Brings (on c (record p { line = line; column = column; wrap = false; top = 1; bottom = 24 }) false false rendition slot)
      (margins_text p.top p.bottom ++ cursor_text p modes) (on c p modes.origin modes.autowrap last in_force)
  cursor_brings p modes line column rendition slot sound inside at_margin =
      let start : Picture = record p { line = line; column = column; wrap = false; top = 1; bottom = 24 } in
      let home = bounded start p.top p.bottom in
      let counted = counts home rendition slot modes.origin refl refl in
      let from : Picture = record home { line = counted.0 } in
      let there : Picture = record p { wrap = false } in
      let region : modes.origin ≡ true → (p.top ≤ p.line) × (p.line ≤ p.bottom) = λ is. ((inside is).below_top, (inside is).above_bottom) in
      let again = again_where there rendition slot modes.origin modes.autowrap p.wrap sound.rows (sound.row p.line) refl at_margin in
      let margins = margins_bring start rendition slot p.top p.bottom sound.top_low sound.apart sound.bottom_high in
      let wrapping = wraps from rendition slot modes.origin modes.autowrap in
      let goes_to = goes from rendition slot p.line p.column modes.origin modes.autowrap sound.top_low sound.line_low sound.line_high sound.column_low sound.column_high region in
      (again.0, again.1, joined margins (joined (joined (joined counted.1 wrapping) goes_to) again.2))
