-- A run of characters on one line, written at once.
use Rattle.std.proofs.Common.{◌≡◌, ◌≢◌, ℕ, ◌+◌, ◌-◌, ◌<◌, ◌≤◌, Bool, true, false, List, [], ◌∷◌, ◌++◌, length, take, drop, refl, sym, ap, ap₂, inl, inr, ◌∙◌, arith}
use Rattle.std.specs.Prelude.{if◌then◌else◌, ◌==◌}
use Rattle.std.proofs.lemmas.Bool.{cases_eq}
use Rattle.std.proofs.lemmas.Bool.Decides.{nat_tests}
use Rattle.std.proofs.lemmas.Grind.{fold-append}
use Rattle.std.proofs.lemmas.List.{take-append-drop, length-take-le}
use Rattle.vt_screen.specs.declared.cell.Cell.{Cell}
use Rattle.vt_screen.specs.declared.cell.Row.{Row}
use Rattle.vt_screen.specs.Attributes.{Attributes}
use Rattle.vt_screen.specs.Cells.{blank_row, row_at}
use Rattle.vt_screen.specs.Picture.{Picture, Sound, margin_of, right_margin}
use Rattle.vt_screen.specs.Moves.{moved_to_left, on_line}
use Rattle.vt_screen.specs.Scrolls.{indexed, scrolled_up}
use Rattle.vt_screen.specs.Puts.{with_row, with_cell, put, wrap_taken, shown, run_shown}
use Rattle.vt_screen.specs.Slots.{ScreenState, order_indexed, order_wrap_taken, order_run_shown}
use Rattle.vt_screen.specs.Written.{written}
use Rattle.vt_screen.proofs.Tables.{length-table, nth-table, table_ext, table_is}
use Rattle.vt_screen.proofs.Soundness.{row_put, either_picture}
use Rattle.vt_screen.proofs.Answers.{put_there, put_on}

pub with_row_twice : (at : ℕ) (x y : Row) (rows : List Row) → with_row at x (with_row at y rows) ≡ with_row at x rows
with_row_twice at x y rows = table_ext 24 _ _ (λ k low high.
    let was = nth-table blank_row 24 (λ line. if line == at then y else row_at rows line) k low high in
    elim (cases_eq k at) [ inl e ↦ grind (arith, nat_tests) | inr ne ↦ grind (arith, nat_tests) ])

pub with_row_same : (at : ℕ) (rows : List Row) → length rows ≡ 24 → rows ≡ with_row at (row_at rows at) rows
with_row_same at rows len = table_is blank_row 24 rows len ∙ table_ext 24 _ _ (λ k low high.
    elim (cases_eq k at) [ inl e ↦ (let same = ap (row_at rows) e in grind (arith, nat_tests)) | inr ne ↦ grind (arith, nat_tests) ])

indexed_unwrapped : (p : Picture) → (indexed p).wrap ≡ false
indexed_unwrapped p =
    either_picture (λ q. q.wrap ≡ false) (p.line == p.bottom) (on_line p.line (record p { rows = scrolled_up 1 p.top p.bottom p.rows })) (if p.line == 24 then on_line 24 p else on_line (p.line + 1) p) refl
    (either_picture (λ q. q.wrap ≡ false) (p.line == 24) (on_line 24 p) (on_line (p.line + 1) p) refl refl)

-- the glyphs as one write from the cursor on
abbrev pub written_there : List ℕ → Attributes → Picture → List Row
written_there glyphs rendition p = with_row p.line (written p.column glyphs rendition (row_at p.rows p.line)) p.rows

module _ (rendition : Attributes) (autowrap : Bool) where
  abbrev cell_of : ℕ → Cell
  cell_of glyph = record { glyph = glyph; rendition = rendition }

  -- a picture with one character more, and the cursor on the next column
  abbrev next : ℕ → Picture → Picture
  next glyph p = record p { rows = with_row p.line (with_cell p.column (cell_of glyph) (row_at p.rows p.line)) p.rows; column = p.column + 1 }

  pub shown_unwrapped : (glyph : ℕ) (p : Picture) → p.wrap ≡ false → shown glyph rendition autowrap p ≡ put (cell_of glyph) autowrap p
  shown_unwrapped glyph p unwrapped = ap (λ (b : Bool). put (cell_of glyph) autowrap (if b then indexed (moved_to_left p) else p)) unwrapped

  shown_next : (glyph : ℕ) (p : Picture) → p.wrap ≡ false → p.column ≢ right_margin p p.line → shown glyph rendition autowrap p ≡ next glyph p
  shown_next glyph p unwrapped before = shown_unwrapped glyph p unwrapped ∙ sym (put_on p (cell_of glyph) autowrap before)

  margin_next : (glyph : ℕ) (p : Picture) → 1 ≤ p.line → p.line ≤ 24 → right_margin (next glyph p) p.line ≡ right_margin p p.line
  margin_next glyph p low high = ap (λ (r : Row). margin_of p.wide r.size) (row_put p.line (with_cell p.column (cell_of glyph) (row_at p.rows p.line)) p.rows low high)

  -- the rows, once the next glyphs are written too
  rows_next : (glyph : ℕ) (glyphs : List ℕ) (p : Picture) → 1 ≤ p.line → p.line ≤ 24
      → written_there glyphs rendition (next glyph p) ≡ written_there (glyph ∷ glyphs) rendition p
  rows_next glyph glyphs p low high =
      let row = with_cell p.column (cell_of glyph) (row_at p.rows p.line) in
      ap (λ (r : Row). with_row p.line (written (p.column + 1) glyphs rendition r) (with_row p.line row p.rows)) (row_put p.line row p.rows low high)
      ∙ with_row_twice p.line (written (p.column + 1) glyphs rendition row) row p.rows

  -- all of them stand left of the right margin
  pub run_within : (glyphs : List ℕ) (p : Picture) → length p.rows ≡ 24 → p.wrap ≡ false → 1 ≤ p.line → p.line ≤ 24
      → p.column + length glyphs ≤ right_margin p p.line
      → run_shown glyphs rendition autowrap p ≡ record p { rows = written_there glyphs rendition p; column = p.column + length glyphs }
  run_within [] p len unwrapped low high fits = ap₂ (λ (rows : List Row) (k : ℕ). record p { rows = rows; column = k }) (with_row_same p.line p.rows len) (omega arith)
  run_within (glyph ∷ glyphs) p len unwrapped low high fits =
      ap (run_shown glyphs rendition autowrap) (shown_next glyph p unwrapped (omega arith))
      ∙ run_within glyphs (next glyph p) (length-table 24 _) unwrapped low high (omega (arith, margin_next glyph p low high))
      ∙ ap₂ (λ (rows : List Row) (k : ℕ). record p { rows = rows; column = k }) (rows_next glyph glyphs p low high) (omega arith)

  -- the last of them stands at the right margin
  pub run_to_margin : (glyphs : List ℕ) (p : Picture) → p.wrap ≡ false → 1 ≤ p.line → p.line ≤ 24 → 0 < length glyphs
      → p.column + length glyphs ≡ right_margin p p.line + 1
      → run_shown glyphs rendition autowrap p ≡ record p { rows = written_there glyphs rendition p; column = right_margin p p.line; wrap = autowrap }
  run_to_margin [] p unwrapped low high some fits = absurd (omega arith)
  run_to_margin (glyph ∷ []) p unwrapped low high some fits =
      let there : p.column ≡ right_margin p p.line = omega arith in
      shown_unwrapped glyph p unwrapped
      ∙ sym (put_there p (cell_of glyph) autowrap there)
      ∙ ap (λ (k : ℕ). record p { rows = written_there (glyph ∷ []) rendition p; column = k; wrap = autowrap }) there
  run_to_margin (glyph ∷ other ∷ glyphs) p unwrapped low high some fits =
      ap (run_shown (other ∷ glyphs) rendition autowrap) (shown_next glyph p unwrapped (omega arith))
      ∙ run_to_margin (other ∷ glyphs) (next glyph p) unwrapped low high (omega arith) (omega (arith, margin_next glyph p low high))
      ∙ ap₂ (λ (rows : List Row) (k : ℕ). record p { rows = rows; column = k; wrap = autowrap }) (rows_next glyph (other ∷ glyphs) p low high) (margin_next glyph p low high)

  -- the wrap is taken once
  pub wrap_gone : (p : Picture) → (wrap_taken p).wrap ≡ false
  wrap_gone p = by_wrap p.wrap refl
    where
      by_wrap : (b : Bool) → p.wrap ≡ b → (if b then indexed (moved_to_left p) else p).wrap ≡ false
      by_wrap true e = indexed_unwrapped (moved_to_left p)
      by_wrap false e = e

  pub wrap_taken_first : (glyph : ℕ) (glyphs : List ℕ) (p : Picture)
      → run_shown (glyph ∷ glyphs) rendition autowrap (wrap_taken p) ≡ run_shown (glyph ∷ glyphs) rendition autowrap p
  wrap_taken_first glyph glyphs p = ap (run_shown glyphs rendition autowrap) (shown_unwrapped glyph (wrap_taken p) (wrap_gone p))

  -- a part of a run, and what is left of it
  pub run_parts : (n : ℕ) (glyphs : List ℕ) (p : Picture)
      → run_shown (drop n glyphs) rendition autowrap (run_shown (take n glyphs) rendition autowrap p) ≡ run_shown glyphs rendition autowrap p
  run_parts n glyphs p =
      sym (fold-append (λ q glyph. shown glyph rendition autowrap q) p (take n glyphs) (drop n glyphs))
      ∙ ap (λ gs. run_shown gs rendition autowrap p) (take-append-drop n glyphs)

  pub run_wrapped : (glyphs : List ℕ) (p : Picture) → 0 < length glyphs
      → run_shown glyphs rendition autowrap (wrap_taken p) ≡ run_shown glyphs rendition autowrap p
  run_wrapped [] p some = absurd (omega arith)
  run_wrapped (glyph ∷ glyphs) p some = wrap_taken_first glyph glyphs p

  -- a loop's step: the wrap, a part, and what is left
  pub run_step : (n : ℕ) (glyphs : List ℕ) (p now : Picture) → 0 < length glyphs
      → now ≡ run_shown (take n glyphs) rendition autowrap (wrap_taken p)
      → run_shown (drop n glyphs) rendition autowrap now ≡ run_shown glyphs rendition autowrap p
  run_step n glyphs p now some written =
      ap (run_shown (drop n glyphs) rendition autowrap) written ∙ run_parts n glyphs (wrap_taken p) ∙ run_wrapped glyphs p some

  -- outside a pending wrap the names stay
  order_unwrapped : (p : Picture) (order : List ℕ) → p.wrap ≡ false → order_wrap_taken p order ≡ order
  order_unwrapped p order unwrapped = ap (λ (b : Bool). if b then order_indexed p order else order) unwrapped

  -- none of them wraps before the next
  pub order_within : (glyphs : List ℕ) (p : Picture) (order : List ℕ) → p.wrap ≡ false → 1 ≤ p.line → p.line ≤ 24
      → p.column + length glyphs ≤ right_margin p p.line + 1
      → order_run_shown glyphs rendition autowrap p order ≡ order
  order_within [] p order unwrapped low high fits = refl
  order_within (glyph ∷ []) p order unwrapped low high fits = order_unwrapped p order unwrapped
  order_within (glyph ∷ other ∷ glyphs) p order unwrapped low high fits =
      ap₂ (λ (q : Picture) (names : List ℕ). order_run_shown (other ∷ glyphs) rendition autowrap q names) (shown_next glyph p unwrapped (omega arith)) (order_unwrapped p order unwrapped)
      ∙ order_within (other ∷ glyphs) (next glyph p) order unwrapped low high (omega (arith, margin_next glyph p low high))

  -- the same of a body, which knows what is seen of the screen
  pub names_stay : (n : ℕ) (glyphs : List ℕ) (p : Picture) (seen : ScreenState) (margin : ℕ) (order after : List ℕ)
      → p ≡ seen.picture → Sound p → seen.picture.wrap ≡ false → margin ≡ right_margin seen.picture seen.picture.line
      → n ≤ length glyphs → n ≤ margin - p.column + 1 → after ≡ order
      → after ≡ order_run_shown (take n glyphs) rendition autowrap p order
  names_stay n glyphs p seen margin order after same sound unwrapped is_margin within fits stays =
      let here : margin ≡ right_margin p p.line = is_margin ∙ ap (λ (q : Picture). right_margin q q.line) (sym same) in
      let none : p.wrap ≡ false = ap (λ (q : Picture). q.wrap) same ∙ unwrapped in
      let len = length-take-le n glyphs within in
      stays ∙ sym (order_within (take n glyphs) p order none sound.line_low sound.line_high (omega (arith, sound.column_high)))

  order_parts : (xs ys : List ℕ) (p : Picture) (order : List ℕ)
      → order_run_shown (xs ++ ys) rendition autowrap p order
      ≡ order_run_shown ys rendition autowrap (run_shown xs rendition autowrap p) (order_run_shown xs rendition autowrap p order)
  order_parts [] ys p order = refl
  order_parts (x ∷ xs) ys p order = order_parts xs ys (shown x rendition autowrap p) (order_wrap_taken p order)

  order_wrapped : (glyphs : List ℕ) (p : Picture) (order : List ℕ) → 0 < length glyphs
      → order_run_shown glyphs rendition autowrap (wrap_taken p) (order_wrap_taken p order) ≡ order_run_shown glyphs rendition autowrap p order
  order_wrapped [] p order some = absurd (omega arith)
  order_wrapped (glyph ∷ glyphs) p order some =
      ap₂ (λ (q : Picture) (names : List ℕ). order_run_shown glyphs rendition autowrap q names) (shown_unwrapped glyph (wrap_taken p) (wrap_gone p))
      (order_unwrapped (wrap_taken p) (order_wrap_taken p order) (wrap_gone p))

  -- the names in a loop's step
  pub order_step : (n : ℕ) (glyphs : List ℕ) (p now : Picture) (order wrapped names : List ℕ) → 0 < length glyphs
      → now ≡ run_shown (take n glyphs) rendition autowrap (wrap_taken p)
      → wrapped ≡ order_wrap_taken p order → names ≡ order_run_shown (take n glyphs) rendition autowrap (wrap_taken p) wrapped
      → order_run_shown (drop n glyphs) rendition autowrap now names ≡ order_run_shown glyphs rendition autowrap p order
  order_step n glyphs p now order wrapped names some written turned shown_there =
      ap₂ (λ (q : Picture) (held : List ℕ). order_run_shown (drop n glyphs) rendition autowrap q held) written shown_there
      ∙ sym (order_parts (take n glyphs) (drop n glyphs) (wrap_taken p) wrapped)
      ∙ ap (λ (gs : List ℕ). order_run_shown gs rendition autowrap (wrap_taken p) wrapped) (take-append-drop n glyphs)
      ∙ ap (λ (held : List ℕ). order_run_shown glyphs rendition autowrap (wrap_taken p) held) turned
      ∙ order_wrapped glyphs p order some
