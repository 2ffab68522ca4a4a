-- The escaped print draws the same picture: by lines, and in a line by cells.
use Rattle.std.proofs.Common.{◌≡◌, ℕ, zero, suc, ◌+◌, ◌-◌, ◌<◌, ◌≤◌, Bool, true, false, List, [], ◌∷◌, ◌++◌, length, take, get_or, refl, sym, ap, ap₂, subst, inl, inr, ◌∙◌, append_assoc, add-one, lit<, arith}
use Rattle.std.specs.Prelude.{codes, decimal, fold, min, nat_lt, nat_le, if◌then◌else◌}
use Rattle.std.specs.List.{list_all}
use Rattle.std.proofs.Math.Dec.{lit≤}
use Rattle.std.proofs.lemmas.Bool.{eqb-true, leb-true}
use Rattle.std.proofs.lemmas.Bool.Decides.{nat_tests}
use Rattle.std.proofs.lemmas.List.{length-take-le}
use Rattle.std.proofs.lemmas.Fmt.{decimal_digit}
use Rattle.std.proofs.lemmas.List.Elements.{All-from_recursion}
use Rattle.std.proofs.lemmas.List.Sums.{AllPass-from_list_all}
use Rattle.vt_parser.specs.Syntax.{escape, is_graphic}
use Rattle.vt_parser.specs.declared.commands.Mode.TheVariants.{Ansi}
use Rattle.vt_parser.specs.Decimals.{params_text}
use Rattle.vt_parser.specs.Law.{AreParams}
use Rattle.vt_screen.specs.declared.cell.Cell.{Cell}
use Rattle.vt_screen.specs.declared.cell.Row.{Row}
use Rattle.vt_screen.specs.declared.cell.Size.{Size}
use Rattle.vt_screen.specs.declared.cell.Size.TheVariants.{Single, Double, Top, Bottom}
use Rattle.vt_screen.specs.Attributes.{Attributes, plain}
use Rattle.vt_screen.specs.Cells.{blank, blank_row, cell_at, row_at, rows_by}
use Rattle.vt_screen.specs.Drawn.{rows_to, drawn_to}
use Rattle.vt_screen.specs.Lines.{size_set, columns_set}
use Rattle.vt_screen.specs.Moves.{placed}
use Rattle.vt_screen.specs.Picture.{Picture, Sound, SoundRow, reset, margin_of, right_margin}
use Rattle.vt_screen.specs.Puts.{shown}
use Rattle.vt_term.specs.declared.sets.CharacterSet.TheVariants.{Ascii, SpecialGraphics}
use Rattle.vt_term.specs.declared.sets.Slot.{Slot}
use Rattle.vt_term.specs.declared.sets.Slot.TheVariants.{G0, G1}
use Rattle.vt_term.specs.declared.profile.Profile.{Profile}
use Rattle.vt_term.specs.Console.{Console, first_modes, reset_console}
use Rattle.vt_term.specs.Effect.{effect, glyphs_shown}
use Rattle.vt_term.specs.Printing.{Brings, NothingBrings, PartsBring, CharactersBring, ControlsBring, DesignationsBring, ControlSequencesBring, PrivateSequencesBring}
use Rattle.vt_term.specs.Sequences.{param_or, rendition_set}
use Rattle.vt_term.specs.Sets.{glyph_of, set_in}
use Rattle.vt_term.specs.Term.{Term}
use Rattle.screen_print.specs.declared.escaped_print.Pen.{Pen}
use Rattle.screen_print.specs.EscapedText.{opening_text, closing_text, escaped_text, first_pen, rendition_set_text, slot_for, slot_text, byte_for, cell_text, pen_of, cells_text, pen_after, placed_text, size_text, is_left_out, line_text, pen_after_line, lines_text, pen_after_lines}
use Rattle.screen_rows.specs.Texts.{text_where}
use Rattle.screen_rows.specs.Ink.{same_rendition, inked}
use Rattle.screen_print.specs.Redrawn.{DrawsAgain}
use Rattle.screen_print.proofs.EscapedLemmas.{none_inked, cells_text_more, pen_after_more, left_out_text, left_out_pen, written_text, no_lines_text, no_lines_pen, lines_text_more, pen_after_lines_more, all_lines_text}
use Rattle.screen_print.proofs.InkLemmas.{true_or_false, cell_next, ink, blank_past_ink, ink_within}
use Rattle.screen_rows.proofs.SameLemmas.{byte_apart}

-- ---- what this stands on

pub record LawsBelow : Type 0 where
  pub nothing : NothingBrings
  pub parts : PartsBring
  pub characters : CharactersBring
  pub controls : ControlsBring
  pub designations : DesignationsBring
  pub sequences : ControlSequencesBring
  pub privates : PrivateSequencesBring
  pub margin_low : (p : Picture) (line : ℕ) → 40 ≤ right_margin p line
  pub margin_high : (p : Picture) (line : ℕ) → right_margin p line ≤ 132
  pub wide : columns_set true false reset ≡ record reset { wide = true }
  pub none_drawn : (rows : List Row) → rows_by (λ _. blank_row) ≡ rows_to 0 rows
  pub line_drawn : (line column : ℕ) (rows : List Row) → 1 ≤ line → length (row_at rows line).cells ≡ 132
      → ((k : ℕ) → column < k → k ≤ 132 → cell_at (row_at rows line) k ≡ blank) → drawn_to line column rows ≡ rows_to line rows
  pub all_drawn : (rows : List Row) → length rows ≡ 24 → rows_to 24 rows ≡ rows
  pub to_place : (line column : ℕ) (p : Picture) → line ≤ 24 → column ≤ right_margin p line
      → placed line column false p ≡ record p { line = line; column = column; wrap = false }
  pub single_begun : (line : ℕ) (rows : List Row) → 1 ≤ line → line ≤ 24 → (row_at rows line).size ≡ Single
      → rows_to (line - 1) rows ≡ drawn_to line 0 rows
  pub size_begun : (p : Picture) (rows : List Row) → 1 ≤ p.line → p.line ≤ 24 → p.column ≡ 1 → p.rows ≡ rows_to (p.line - 1) rows
      → size_set (row_at rows p.line).size p ≡ record p { rows = drawn_to p.line 0 rows; wrap = false }
  pub cell_drawn : (p : Picture) (rows : List Row) → 1 ≤ p.line → p.line ≤ 24 → 1 ≤ p.column
      → p.column ≤ margin_of p.wide (row_at rows p.line).size → p.wrap ≡ false → p.rows ≡ drawn_to p.line (p.column - 1) rows
      → shown (cell_at (row_at rows p.line) p.column).glyph (cell_at (row_at rows p.line) p.column).rendition false p
      ≡ record p { rows = drawn_to p.line p.column rows; column = min (p.column + 1) (margin_of p.wide (row_at rows p.line).size) }

-- A console on which a picture is drawn: in ANSI mode, lines counted from line 1, no wrapping, no insert mode, ASCII in G0 and special
-- graphics in G1; some rows, a cursor, and what was written last. The rest is that of another console.
abbrev pub drawing : Console → List Row → ℕ → ℕ → Pen → Console
drawing c rows line column pen = record c {
  picture = record c.picture { rows = rows; line = line; column = column; wrap = false };
  modes = record c.modes { mode = Ansi; origin = false; autowrap = false; insert = false };
  rendition = pen.rendition;
  sets = record c.sets { g0 = Ascii; g1 = SpecialGraphics; invoked = pen.invoked };
}

-- ---- parameters

small_params : (numbers : List ℕ) → 0 < length numbers → length numbers ≤ 16 → list_all (λ n. nat_le n 9999) numbers ≡ true → AreParams numbers
small_params numbers some few small =
    let all = AllPass-from_list_all (λ n. nat_le n 9999) numbers small in
    record { some = some; few = few; small = λ k d within. leb-true _ 9999 (all k d within) }

pub place_params : (line column : ℕ) → line ≤ 132 → column ≤ 132 → AreParams (line ∷ column ∷ [])
place_params line column low high = record {
  some = lit< tt;
  few = lit≤ tt;
  small = All-from_recursion (λ n. n ≤ 9999) (line ∷ column ∷ []) (omega arith, (omega arith, tt));
}

-- ---- renditions

abbrev number_where : Bool → ℕ → List ℕ
number_where true number = number ∷ []
number_where false number = []

-- the parameters of a rendition
abbrev rendition_numbers : Attributes → List ℕ
rendition_numbers a = 0 ∷ (number_where a.bold 1 ++ number_where a.underscore 4 ++ number_where a.blink 5 ++ number_where a.reverse 7)

record SetsRendition (a : Attributes) : Type 0 where
  text : escape ∷ 91 ∷ (params_text (rendition_numbers a) ++ 109 ∷ []) ≡ rendition_set_text a
  are : AreParams (rendition_numbers a)
  set : (before : Attributes) → fold rendition_set before (rendition_numbers a) ≡ a

-- digits in decimal
pub zero_text : decimal 0 ≡ 48 ∷ []
zero_text = decimal_digit 0 (lit< tt)

pub one_text : decimal 1 ≡ 49 ∷ []
one_text = decimal_digit 1 (lit< tt)

pub two_text : decimal 2 ≡ 50 ∷ []
two_text = decimal_digit 2 (lit< tt)

pub three_text : decimal 3 ≡ 51 ∷ []
three_text = decimal_digit 3 (lit< tt)

pub four_text : decimal 4 ≡ 52 ∷ []
four_text = decimal_digit 4 (lit< tt)

pub five_text : decimal 5 ≡ 53 ∷ []
five_text = decimal_digit 5 (lit< tt)

pub seven_text : decimal 7 ≡ 55 ∷ []
seven_text = decimal_digit 7 (lit< tt)

pub six_text : decimal 6 ≡ 54 ∷ []
six_text = decimal_digit 6 (lit< tt)

pub eight_text : decimal 8 ≡ 56 ∷ []
eight_text = decimal_digit 8 (lit< tt)

pub nine_text : decimal 9 ≡ 57 ∷ []
nine_text = decimal_digit 9 (lit< tt)

pub ruleset digit_texts = (zero_text, one_text, two_text, three_text, four_text, five_text, six_text, seven_text, eight_text, nine_text)

sets_by : (bold underscore blink reverse : Bool) → SetsRendition (record { bold = bold; underscore = underscore; blink = blink; reverse = reverse })
sets_by true true true true = record { text = simp digit_texts refl; are = small_params _ (lit< tt) (lit≤ tt) refl; set = λ before. refl }
sets_by true true true false = record { text = simp digit_texts refl; are = small_params _ (lit< tt) (lit≤ tt) refl; set = λ before. refl }
sets_by true true false true = record { text = simp digit_texts refl; are = small_params _ (lit< tt) (lit≤ tt) refl; set = λ before. refl }
sets_by true true false false = record { text = simp digit_texts refl; are = small_params _ (lit< tt) (lit≤ tt) refl; set = λ before. refl }
sets_by true false true true = record { text = simp digit_texts refl; are = small_params _ (lit< tt) (lit≤ tt) refl; set = λ before. refl }
sets_by true false true false = record { text = simp digit_texts refl; are = small_params _ (lit< tt) (lit≤ tt) refl; set = λ before. refl }
sets_by true false false true = record { text = simp digit_texts refl; are = small_params _ (lit< tt) (lit≤ tt) refl; set = λ before. refl }
sets_by true false false false = record { text = simp digit_texts refl; are = small_params _ (lit< tt) (lit≤ tt) refl; set = λ before. refl }
sets_by false true true true = record { text = simp digit_texts refl; are = small_params _ (lit< tt) (lit≤ tt) refl; set = λ before. refl }
sets_by false true true false = record { text = simp digit_texts refl; are = small_params _ (lit< tt) (lit≤ tt) refl; set = λ before. refl }
sets_by false true false true = record { text = simp digit_texts refl; are = small_params _ (lit< tt) (lit≤ tt) refl; set = λ before. refl }
sets_by false true false false = record { text = simp digit_texts refl; are = small_params _ (lit< tt) (lit≤ tt) refl; set = λ before. refl }
sets_by false false true true = record { text = simp digit_texts refl; are = small_params _ (lit< tt) (lit≤ tt) refl; set = λ before. refl }
sets_by false false true false = record { text = simp digit_texts refl; are = small_params _ (lit< tt) (lit≤ tt) refl; set = λ before. refl }
sets_by false false false true = record { text = simp digit_texts refl; are = small_params _ (lit< tt) (lit≤ tt) refl; set = λ before. refl }
sets_by false false false false = record { text = simp digit_texts refl; are = small_params _ (lit< tt) (lit≤ tt) refl; set = λ before. refl }

sets_rendition : (a : Attributes) → SetsRendition a
sets_rendition a = sets_by a.bold a.underscore a.blink a.reverse

-- ---- glyphs

-- the byte is a graphic character, and stands for the glyph where its slot is invoked
pub record ShowsGlyph (glyph byte : ℕ) (slot : Slot) : Type 0 where
  pub graphic : is_graphic byte ≡ true
  pub glyph_is : (graphics : Bool)
      → glyph_of (set_in slot (record { g0 = Ascii; g1 = SpecialGraphics; invoked = slot; vt52_graphics = graphics })) byte
      ≡ glyph

shows_by : (glyph : ℕ) (low : Bool) → nat_lt glyph 32 ≡ low → glyph ≤ 126
    → ShowsGlyph glyph (if low then 95 + glyph else glyph) (if low then G1 else G0)
shows_by glyph true is small = record { graphic = grind (arith, nat_tests); glyph_is = λ graphics. grind (arith, nat_tests) }
shows_by glyph false is small = record { graphic = grind (arith, nat_tests); glyph_is = λ graphics. refl }

pub shows_glyph : (glyph : ℕ) → glyph ≤ 126 → ShowsGlyph glyph (byte_for glyph) (slot_for glyph)
shows_glyph glyph small = shows_by glyph (nat_lt glyph 32) refl small

pub graphic_alone : (byte : ℕ) → is_graphic byte ≡ true → list_all is_graphic (byte ∷ []) ≡ true
graphic_alone byte graphic = simp graphic refl

-- ---- bytes

-- the same by equal texts and equal consoles
pub brings_as : (s : Console) {bytes others : List ℕ} {t u : Console} → Brings s bytes t → bytes ≡ others → t ≡ u → Brings s others u
brings_as s {bytes = bytes} {u = u} brings text same = subst (λ b. Brings s b u) text (subst (λ v. Brings s bytes v) same brings)

-- the text of a sequence with two numbers, and its parameters
pub pair_text : (first second last : ℕ)
    → escape ∷ 91 ∷ (params_text (first ∷ second ∷ []) ++ last ∷ []) ≡ escape ∷ codes "[" ++ decimal first ++ codes ";" ++ decimal second ++ last ∷ []
pair_text first second last = ap (λ (t : List ℕ). escape ∷ 91 ∷ (t ++ last ∷ [])) (sym (append_assoc (decimal first) (59 ∷ []) (decimal second)))

param_is : (n : ℕ) → 1 ≤ n → param_or (n ∷ []) 0 1 ≡ n
param_is n some = grind (arith, nat_tests)

-- the cursor goes to a place, wherever lines are counted from
pub goes_brings : (laws : LawsBelow) (s : Console) (line column : ℕ) (origin : Bool) (there : Picture) → s.modes.mode ≡ Ansi → s.modes.origin ≡ origin
    → 1 ≤ line → line ≤ 132 → 1 ≤ column → column ≤ 132 → placed line column origin s.picture ≡ there
    → Brings s (placed_text line column) (record s { picture = there })
goes_brings laws s line column origin there ansi counted low high left within is =
    let params = line ∷ column ∷ [] in
    let goes : placed (param_or params 0 1) (param_or params 1 1) s.modes.origin s.picture ≡ there =
    ap (λ (i : ℕ). placed i (param_or params 1 1) s.modes.origin s.picture) (param_is line low)
    ∙ ap (λ (j : ℕ). placed line j s.modes.origin s.picture) (param_is column left)
    ∙ ap (λ (o : Bool). placed line column o s.picture) counted
    ∙ is in
    brings_as s
    (laws.sequences s params 72 ansi (place_params line column high within) refl refl)
    (pair_text line column 72)
    (ap (λ (p : Picture). let t : Console = record s { picture = p } in t) goes)

-- .. from line 1
pub place_brings : (laws : LawsBelow) (s : Console) (line column : ℕ) → s.modes.mode ≡ Ansi → s.modes.origin ≡ false
    → 1 ≤ line → line ≤ 24 → 1 ≤ column → column ≤ right_margin s.picture line
    → Brings s (placed_text line column) (record s { picture = record s.picture { line = line; column = column; wrap = false } })
place_brings laws s line column ansi origin low high left within =
    let fits = laws.margin_high s.picture line in
    goes_brings laws s line column false (record s.picture { line = line; column = column; wrap = false }) ansi origin low (omega arith) left (omega arith)
    (laws.to_place line column s.picture high within)

-- a rendition is set
pub rendition_set_brings : (laws : LawsBelow) (s : Console) (a : Attributes) → s.modes.mode ≡ Ansi → Brings s (rendition_set_text a) (record s { rendition = a })
rendition_set_brings laws s a ansi =
    let sets = sets_rendition a in
    brings_as s (laws.sequences s (rendition_numbers a) 109 ansi sets.are refl refl) sets.text
    (ap (λ (r : Attributes). let t : Console = record s { rendition = r } in t) (sets.set s.rendition))

-- a line of which nothing is written is single, and none of its cells is left
single_of : (size : Size) (cells : List Cell) → is_left_out size cells ≡ true → size ≡ Single
single_of Single cells out = refl
single_of Double cells out = absurd (grind (arith, nat_tests))
single_of Top cells out = absurd (grind (arith, nat_tests))
single_of Bottom cells out = absurd (grind (arith, nat_tests))

no_ink : (row : Row) → is_left_out row.size (inked row.cells) ≡ true → ink row ≡ 0
no_ink row out =
    sym (length-take-le (ink row) row.cells (omega arith)) ∙ ap length (none_inked row.size (inked row.cells) out)

module _ (laws : LawsBelow) (c : Console) where
  -- a rendition is set
  rendition_brings : (rows : List Row) (line column : ℕ) (pen : Pen) (a : Attributes)
      → Brings (drawing c rows line column pen) (rendition_set_text a) (drawing c rows line column (record { rendition = a; invoked = pen.invoked }))
  rendition_brings rows line column pen a = rendition_set_brings laws (drawing c rows line column pen) a refl

  rendition_where : (rows : List Row) (line column : ℕ) (pen : Pen) (a : Attributes) (same : Bool) → same_rendition pen.rendition a ≡ same
      → Brings (drawing c rows line column pen) (if same then [] else rendition_set_text a) (drawing c rows line column (record { rendition = a; invoked = pen.invoked }))
  rendition_where rows line column pen a true is =
      brings_as (drawing c rows line column pen) (laws.nothing (drawing c rows line column pen)) refl
      (ap (λ (r : Attributes). drawing c rows line column (record { rendition = r; invoked = pen.invoked })) (byte_apart pen.rendition a (eqb-true _ _ is)))
  rendition_where rows line column pen a false is = rendition_brings rows line column pen a

  -- a slot is invoked
  slot_brings : (rows : List Row) (line column : ℕ) (a : Attributes) (last next : Slot)
      → Brings (drawing c rows line column (record { rendition = a; invoked = last })) (slot_text last next) (drawing c rows line column (record { rendition = a; invoked = next }))
  unfolding effect
  slot_brings rows line column a G0 G0 = laws.nothing (drawing c rows line column (record { rendition = a; invoked = G0 }))
  slot_brings rows line column a G0 G1 = laws.controls (drawing c rows line column (record { rendition = a; invoked = G0 })) 14 refl
  slot_brings rows line column a G1 G0 = laws.controls (drawing c rows line column (record { rendition = a; invoked = G1 })) 15 refl
  slot_brings rows line column a G1 G1 = laws.nothing (drawing c rows line column (record { rendition = a; invoked = G1 }))

  module _ (rows : List Row) (line : ℕ) (low : 1 ≤ line) (high : line ≤ 24) where
    -- the right margin of the line that is drawn
    abbrev margin : ℕ
    margin = margin_of c.picture.wide (row_at rows line).size

    -- a glyph is put, where its rendition and its slot are in force
    glyph_brings : (column : ℕ) → 1 ≤ column → column ≤ margin → (cell_at (row_at rows line) column).glyph ≤ 126
        → Brings (drawing c (drawn_to line (column - 1) rows) line column (pen_of (cell_at (row_at rows line) column)))
        (byte_for (cell_at (row_at rows line) column).glyph ∷ [])
        (drawing c (drawn_to line column rows) line (min (column + 1) margin) (pen_of (cell_at (row_at rows line) column)))
    glyph_brings column left within small =
        let cell = cell_at (row_at rows line) column in
        let s = drawing c (drawn_to line (column - 1) rows) line column (pen_of cell) in
        let shows = shows_glyph cell.glyph small in
        let put : glyphs_shown (cell.glyph ∷ []) s ≡ drawing c (drawn_to line column rows) line (min (column + 1) margin) (pen_of cell) =
        ap (λ (p : Picture). let t : Console = record s { picture = p } in t) (laws.cell_drawn s.picture rows low high left within refl refl) in
        brings_as s
        (laws.characters s (byte_for cell.glyph ∷ []) (graphic_alone (byte_for cell.glyph) shows.graphic))
        refl
        (ap (λ (g : ℕ). glyphs_shown (g ∷ []) s) (shows.glyph_is c.sets.vt52_graphics) ∙ put)

    -- a cell
    cell_brings : (column : ℕ) (pen : Pen) → 1 ≤ column → column ≤ margin → (cell_at (row_at rows line) column).glyph ≤ 126
        → Brings (drawing c (drawn_to line (column - 1) rows) line column pen)
        (cell_text pen (cell_at (row_at rows line) column))
        (drawing c (drawn_to line column rows) line (min (column + 1) margin) (pen_of (cell_at (row_at rows line) column)))
    cell_brings column pen left within small =
        let cell = cell_at (row_at rows line) column in
        let so_far = drawn_to line (column - 1) rows in
        let set : Pen = record { rendition = cell.rendition; invoked = pen.invoked } in
        let rendition = rendition_where so_far line column pen cell.rendition (same_rendition pen.rendition cell.rendition) refl in
        let slot = slot_brings so_far line column cell.rendition pen.invoked (slot_for cell.glyph) in
        let both = laws.parts (drawing c so_far line column pen) (drawing c so_far line column set) (drawing c so_far line column (pen_of cell)) _ _ rendition slot in
        laws.parts (drawing c so_far line column pen) (drawing c so_far line column (pen_of cell)) (drawing c (drawn_to line column rows) line (min (column + 1) margin) (pen_of cell))
        _ _ both (glyph_brings column left within small)

    -- the first cells
    abbrev CellsBring : Pen → ℕ → Type 0
    CellsBring pen n =
        Brings (drawing c (drawn_to line 0 rows) line 1 pen)
        (cells_text pen (take n (row_at rows line).cells))
        (drawing c (drawn_to line n rows) line (min (n + 1) margin) (pen_after pen (take n (row_at rows line).cells)))

    one_cell_more : (pen : Pen) (n : ℕ) → n + 1 ≤ margin → n < length (row_at rows line).cells
        → (cell_at (row_at rows line) (n + 1)).glyph ≤ 126 → CellsBring pen n → CellsBring pen (n + 1)
    one_cell_more pen n within inside small before =
        let cells = (row_at rows line).cells in
        let cell = cell_at (row_at rows line) (n + 1) in
        let pen_now = pen_after pen (take n cells) in
        let is_cell : cell ≡ get_or cells n blank = cell_next (row_at rows line) n in
        let here = cell_brings (n + 1) pen_now (omega arith) within small in
        let joins : drawing c (drawn_to line n rows) line (min (n + 1) margin) pen_now ≡ drawing c (drawn_to line (n + 1 - 1) rows) line (n + 1) pen_now =
        ap₂ (λ (i column : ℕ). drawing c (drawn_to line i rows) line column pen_now) (omega arith) (omega arith) in
        let s = drawing c (drawn_to line 0 rows) line 1 pen in
        brings_as s
        (laws.parts s (drawing c (drawn_to line (n + 1 - 1) rows) line (n + 1) pen_now) (drawing c (drawn_to line (n + 1) rows) line (min (n + 1 + 1) margin) (pen_of cell))
        (cells_text pen (take n cells)) (cell_text pen_now cell) (brings_as s before refl joins) here)
        (ap (λ (e : Cell). cells_text pen (take n cells) ++ cell_text pen_now e) is_cell ∙ sym (cells_text_more pen cells n blank inside))
        (ap (λ (p : Pen). drawing c (drawn_to line (n + 1) rows) line (min (n + 1 + 1) margin) p)
        (ap pen_of is_cell ∙ sym (pen_after_more pen cells n blank inside)))

    cells_bring : (pen : Pen) (n : ℕ) → 1 ≤ margin → n ≤ margin → n ≤ length (row_at rows line).cells
        → ((column : ℕ) → (cell_at (row_at rows line) column).glyph ≤ 126) → CellsBring pen n
    cells_bring pen zero some within inside small =
        brings_as (drawing c (drawn_to line 0 rows) line 1 pen) (laws.nothing (drawing c (drawn_to line 0 rows) line 1 pen)) refl
        (ap (λ (column : ℕ). drawing c (drawn_to line 0 rows) line column pen) (omega arith))
    cells_bring pen (suc n) some within inside small =
        subst (CellsBring pen) (add-one n)
        (one_cell_more pen n (omega arith) (omega arith) (small (n + 1)) (cells_bring pen n some (omega arith) (omega arith) small))

    -- ---- a line

    -- its size
    size_by : (size : Size) (text : List ℕ) (pen : Pen) → (row_at rows line).size ≡ size
        → Brings (drawing c (rows_to (line - 1) rows) line 1 pen) text
        (record (drawing c (rows_to (line - 1) rows) line 1 pen) { picture = size_set size (drawing c (rows_to (line - 1) rows) line 1 pen).picture })
        → Brings (drawing c (rows_to (line - 1) rows) line 1 pen) text (drawing c (drawn_to line 0 rows) line 1 pen)
    size_by size text pen is brings =
        let s = drawing c (rows_to (line - 1) rows) line 1 pen in
        brings_as s brings refl
        (ap (λ (z : Size). let t : Console = record s { picture = size_set z s.picture } in t) (sym is)
        ∙ ap (λ (p : Picture). let t : Console = record s { picture = p } in t) (laws.size_begun s.picture rows low high refl refl))

    size_brings : (size : Size) (pen : Pen) → (row_at rows line).size ≡ size
        → Brings (drawing c (rows_to (line - 1) rows) line 1 pen) (size_text size) (drawing c (drawn_to line 0 rows) line 1 pen)
    size_brings Single pen is =
        let s = drawing c (rows_to (line - 1) rows) line 1 pen in
        brings_as s (laws.nothing s) refl (ap (λ (rs : List Row). drawing c rs line 1 pen) (laws.single_begun line rows low high is))
    size_brings Double pen is = size_by Double (size_text Double) pen is (laws.designations (drawing c (rows_to (line - 1) rows) line 1 pen) 35 54 refl refl refl refl)
    size_brings Top pen is = size_by Top (size_text Top) pen is (laws.designations (drawing c (rows_to (line - 1) rows) line 1 pen) 35 51 refl refl refl refl)
    size_brings Bottom pen is = size_by Bottom (size_text Bottom) pen is (laws.designations (drawing c (rows_to (line - 1) rows) line 1 pen) 35 52 refl refl refl refl)

    module _ (sound : SoundRow c.picture.wide (row_at rows line)) where
      -- what the line's text brings, from wherever the cursor is to somewhere
      abbrev LineBrings : ℕ → ℕ → Pen → Type 0
      LineBrings l k pen =
          (to : ℕ) × (column : ℕ)
          × Brings (drawing c (rows_to (line - 1) rows) l k pen) (line_text pen line (row_at rows line))
          (drawing c (rows_to line rows) to column (pen_after_line pen (row_at rows line)))

      -- nothing is written of it
      left_out_brings : (l k : ℕ) (pen : Pen) → is_left_out (row_at rows line).size (inked (row_at rows line).cells) ≡ true → LineBrings l k pen
      left_out_brings l k pen out =
          let row = row_at rows line in
          let s = drawing c (rows_to (line - 1) rows) l k pen in
          let same : rows_to (line - 1) rows ≡ rows_to line rows =
          laws.single_begun line rows low high (single_of row.size (inked row.cells) out)
          ∙ laws.line_drawn line 0 rows low sound.cells
          (λ column past within. blank_past_ink row sound.cells column (omega (arith, past, no_ink row out)) within) in (
            l,
            k,
            brings_as s (laws.nothing s) (sym (left_out_text pen line row out))
                (ap₂ (λ (rs : List Row) (p : Pen). drawing c rs l k p) same (sym (left_out_pen pen row out))),
          )

      -- its place, its size and its cells are written
      written_brings : (l k : ℕ) (pen : Pen) → is_left_out (row_at rows line).size (inked (row_at rows line).cells) ≡ false → LineBrings l k pen
      unfolding pen_after_line
      written_brings l k pen written =
          let row = row_at rows line in
          let before = rows_to (line - 1) rows in
          let some : 1 ≤ margin = omega (arith, laws.margin_low (record c.picture { rows = rows }) line) in
          let fits : ink row ≤ margin = ink_within row sound.cells margin sound.blank_right in
          let s = drawing c before l k pen in
          let place = place_brings laws s line 1 refl refl low high (lit≤ tt) (omega (arith, laws.margin_low s.picture line)) in
          let size = size_brings row.size pen refl in
          let cells = cells_bring pen (ink row) some fits (omega arith) sound.glyphs in
          let both = laws.parts s (drawing c before line 1 pen) (drawing c (drawn_to line 0 rows) line 1 pen) _ _ place size in
          let all = laws.parts s (drawing c (drawn_to line 0 rows) line 1 pen) (drawing c (drawn_to line (ink row) rows) line (min (ink row + 1) margin) (pen_after pen (inked row.cells))) _ _ both cells in
          let drawn : drawn_to line (ink row) rows ≡ rows_to line rows = laws.line_drawn line (ink row) rows low sound.cells (blank_past_ink row sound.cells) in (
            line,
            min (ink row + 1) margin,
            brings_as s all (sym (written_text pen line row written))
                (ap (λ (rs : List Row). drawing c rs line (min (ink row + 1) margin) (pen_after pen (inked row.cells))) drawn),
          )

      line_brings : (l k : ℕ) (pen : Pen) → LineBrings l k pen
      line_brings l k pen =
          elim (true_or_false (is_left_out (row_at rows line).size (inked (row_at rows line).cells))) [
            | inl out ↦ left_out_brings l k pen out
            | inr written ↦ written_brings l k pen written
          ]

  -- ---- lines

  module _ (rows : List Row) (whole : length rows ≡ 24) (sound : (line : ℕ) → SoundRow c.picture.wide (row_at rows line)) where
    -- what the text of the first lines brings: the rows up to there are drawn, the rest is blank and single
    abbrev LinesBring : ℕ → Type 0
    LinesBring n =
        (to : ℕ) × (column : ℕ)
        × Brings (drawing c (rows_to 0 rows) 1 1 first_pen) (lines_text first_pen 1 (take n rows))
        (drawing c (rows_to n rows) to column (pen_after_lines first_pen (take n rows)))

    one_line_more : (line : ℕ) → 1 ≤ line → line ≤ 24 → LinesBring (line - 1) → LinesBring line
    one_line_more line low high before =
        let within : line ≤ length rows = omega arith in
        let start = drawing c (rows_to 0 rows) 1 1 first_pen in
        let pen = pen_after_lines first_pen (take (line - 1) rows) in
        let here = line_brings rows line low high (sound line) before.0 before.1 pen in (
          here.0,
          here.1,
          brings_as start
              (laws.parts start (drawing c (rows_to (line - 1) rows) before.0 before.1 pen) (drawing c (rows_to line rows) here.0 here.1 (pen_after_line pen (row_at rows line))) _ _ before.2 here.2)
              (sym (lines_text_more first_pen rows line low within))
              (ap (λ (p : Pen). drawing c (rows_to line rows) here.0 here.1 p) (sym (pen_after_lines_more first_pen rows line low within))),
        )

    lines_bring : (n : ℕ) → n ≤ 24 → LinesBring n
    lines_bring zero within =
        let start = drawing c (rows_to 0 rows) 1 1 first_pen in (
          1,
          1,
          brings_as start (laws.nothing start) (sym (no_lines_text first_pen 1))
              (ap (λ (p : Pen). drawing c (rows_to 0 rows) 1 1 p) (sym (no_lines_pen first_pen))),
        )
    lines_bring (suc n) within =
        let at_last : n ≡ suc n - 1 = omega arith in
        one_line_more (suc n) (omega arith) within (subst LinesBring at_last (lines_bring n (omega arith)))

    -- all lines
    abbrev pub AllBring : Type 0
    AllBring =
        (to : ℕ) × (column : ℕ) × (pen : Pen)
        × Brings (drawing c (rows_by (λ _. blank_row)) 1 1 first_pen) (lines_text first_pen 1 rows) (drawing c rows to column pen)

    pub all_bring : AllBring
    all_bring =
        let lines = lines_bring 24 (lit≤ tt) in
        let pen = pen_after_lines first_pen (take 24 rows) in (
          lines.0,
          lines.1,
          pen,
          subst (λ (rs : List Row). Brings (drawing c rs 1 1 first_pen) (lines_text first_pen 1 rows) (drawing c rows lines.0 lines.1 pen)) (sym (laws.none_drawn rows))
              (brings_as (drawing c (rows_to 0 rows) 1 1 first_pen) lines.2 (all_lines_text first_pen rows whole)
              (ap (λ (rs : List Row). drawing c rs lines.0 lines.1 pen) (laws.all_drawn rows whole))),
        )

-- ---- before and after the lines

-- where the lines begin
abbrev begun : Profile → Bool → Bool → Console
begun profile wide reversed = record (reset_console profile) {
  picture = record reset { wide = wide };
  modes = record first_modes { reverse_screen = reversed };
}

-- one parameter
pub one_param : (n : ℕ) → n ≤ 9999 → AreParams (n ∷ [])
one_param n small = record { some = lit< tt; few = lit≤ tt; small = All-from_recursion (λ m. m ≤ 9999) (n ∷ []) (small, tt) }

module _ (laws : LawsBelow) where
  wide_brings : (profile : Profile) (wide : Bool)
      → Brings (reset_console profile) (text_where wide (escape ∷ codes "[?3h")) (begun profile wide false)
  wide_brings profile true =
      let s = reset_console profile in
      brings_as s (laws.privates s (3 ∷ []) 104 refl (one_param 3 (lit≤ tt)) refl) (simp digit_texts refl)
      (ap (λ (p : Picture). let t : Console = record s { picture = p } in t) laws.wide)
  wide_brings profile false = laws.nothing (reset_console profile)

  reversed_brings : (profile : Profile) (wide reversed : Bool)
      → Brings (begun profile wide false) (text_where reversed (escape ∷ codes "[?5h")) (begun profile wide reversed)
  reversed_brings profile wide true =
      let s = begun profile wide false in
      brings_as s (laws.privates s (5 ∷ []) 104 refl (one_param 5 (lit≤ tt)) refl) (simp digit_texts refl) refl
  reversed_brings profile wide false = laws.nothing (begun profile wide false)

  unwrapped_brings : (profile : Profile) (wide reversed : Bool)
      → Brings (begun profile wide reversed) (escape ∷ codes "[?7l") (record (begun profile wide reversed) { modes = record first_modes { reverse_screen = reversed; autowrap = false } })
  unwrapped_brings profile wide reversed =
      let s = begun profile wide reversed in
      brings_as s (laws.privates s (7 ∷ []) 108 refl (one_param 7 (lit≤ tt)) refl) (simp digit_texts refl) refl

  graphics_bring : (profile : Profile) (wide reversed : Bool)
      → Brings (record (begun profile wide reversed) { modes = record first_modes { reverse_screen = reversed; autowrap = false } }) (escape ∷ codes ")0")
      (drawing (begun profile wide reversed) (rows_by (λ _. blank_row)) 1 1 first_pen)
  graphics_bring profile wide reversed =
      laws.designations (record (begun profile wide reversed) { modes = record first_modes { reverse_screen = reversed; autowrap = false } }) 41 48 refl refl refl refl

  opening_brings : (profile : Profile) (x : Console)
      → Brings (reset_console profile) (opening_text x) (drawing (begun profile x.picture.wide x.modes.reverse_screen) (rows_by (λ _. blank_row)) 1 1 first_pen)
  opening_brings profile x =
      let wide = x.picture.wide in
      let reversed = x.modes.reverse_screen in
      let s = reset_console profile in
      let unwrapped : Console = record (begun profile wide reversed) { modes = record first_modes { reverse_screen = reversed; autowrap = false } } in
      let two = laws.parts s (begun profile wide false) (begun profile wide reversed) _ _ (wide_brings profile wide) (reversed_brings profile wide reversed) in
      let three = laws.parts s (begun profile wide reversed) unwrapped _ _ two (unwrapped_brings profile wide reversed) in
      laws.parts s unwrapped (drawing (begun profile wide reversed) (rows_by (λ _. blank_row)) 1 1 first_pen) _ _ three (graphics_bring profile wide reversed)

  -- where the text ends
  abbrev ended : Console → List Row → ℕ → ℕ → Console
  ended c rows line column = record (drawing c rows line column first_pen) { modes = record c.modes { mode = Ansi; origin = false; autowrap = true; insert = false } }

  closing_brings : (c : Console) (rows : List Row) (l k : ℕ) (pen : Pen) (line column : ℕ) → 1 ≤ line → line ≤ 24 → 1 ≤ column
      → column ≤ margin_of c.picture.wide (row_at rows line).size
      → Brings (drawing c rows l k pen) (closing_text line column) (ended c rows line column)
  unfolding effect
  closing_brings c rows l k pen line column low high left within =
      let s = drawing c rows l k pen in
      let unset : Pen = record { rendition = plain; invoked = pen.invoked } in
      let plainly = rendition_brings laws c rows l k pen plain in
      let slot = laws.controls (drawing c rows l k unset) 15 refl in
      let begins = drawing c rows l k first_pen in
      let wraps : Brings begins (escape ∷ codes "[?7h") (ended c rows l k) =
      brings_as begins (laws.privates begins (7 ∷ []) 104 refl (one_param 7 (lit≤ tt)) refl) (simp digit_texts refl) refl in
      let place = place_brings laws (ended c rows l k) line column refl refl low high left within in
      let two = laws.parts s (drawing c rows l k unset) (drawing c rows l k first_pen) _ _ plainly slot in
      let three = laws.parts s (drawing c rows l k first_pen) (ended c rows l k) _ _ two wraps in
      laws.parts s (ended c rows l k) (ended c rows line column) _ _ three place

  -- the whole text
  abbrev whole_ended : Profile → Console → Console
  whole_ended profile x = ended (begun profile x.picture.wide x.modes.reverse_screen) x.picture.rows x.picture.line x.picture.column

  escaped_brings : (profile : Profile) (x : Console) → Sound x.picture → Brings (reset_console profile) (escaped_text x) (whole_ended profile x)
  unfolding escaped_text
  escaped_brings profile x sound =
      let c = begun profile x.picture.wide x.modes.reverse_screen in
      let s = reset_console profile in
      let start = drawing c (rows_by (λ _. blank_row)) 1 1 first_pen in
      let lines = all_bring laws c x.picture.rows sound.rows sound.row in
      let drawn = drawing c x.picture.rows lines.0 lines.1 lines.2 in
      let closing = closing_brings c x.picture.rows lines.0 lines.1 lines.2 x.picture.line x.picture.column sound.line_low sound.line_high sound.column_low sound.column_high in
      laws.parts s drawn (whole_ended profile x) _ _ (laws.parts s start drawn _ _ (opening_brings profile x) lines.3) closing

  pub draws_again : (x : Term) → Sound x.console.picture → DrawsAgain x
  draws_again x sound = λ profile.
      let played = (escaped_brings profile x.console sound).played [] in
      record {
        columns = ap (λ (y : Term). y.console.picture.wide) played;
        rows = ap (λ (y : Term). y.console.picture.rows) played;
        reversed = ap (λ (y : Term). y.console.modes.reverse_screen) played;
        line = ap (λ (y : Term). y.console.picture.line) played;
        column = ap (λ (y : Term). y.console.picture.column) played;
        pending = ap (λ (y : Term). y.pending) played;
        reports = ap (λ (y : Term). y.reports) played;
      }
