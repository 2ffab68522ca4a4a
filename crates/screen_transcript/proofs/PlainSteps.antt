-- What letters and line ends do to a page that was typed.
use Rattle.std.proofs.Common.{◌≡◌, ◌≢◌, ℕ, zero, suc, ◌+◌, ◌-◌, ◌<◌, ◌≤◌, ◌==◌, Bool, true, false, List, [], ◌∷◌, ◌++◌, length, get_or, map, set, refl, sym, ap, ap₂, ◌∙◌, subst, inl, inr, append-nil, append_assoc, arith}
use Rattle.std.specs.Prelude.{Option, replicate, if◌then◌else◌, ◌&&◌}
use Rattle.std.specs.List.{AllByRecursion, list_all}
use Rattle.std.proofs.lemmas.Bool.{and_from, and_parts, cases_eq, cases_lt, eq-eqb, ne_eqb}
use Rattle.std.proofs.lemmas.Bool.Decides.{nat_tests}
use Rattle.std.proofs.lemmas.Grind.{elements}
use Rattle.std.proofs.lemmas.List.{get_or-map, get_or-replicate, get_or-set_other, get_or-set_same, get_or_append_left, get_or_past, get_or_push, length-append, length-map, length-replicate, length-set, map-append}
use Rattle.std.proofs.lemmas.List.Elements.{recursion_from_All}
use Rattle.std.proofs.lemmas.List.Folds.{list_all-append}
use Rattle.std.proofs.lemmas.List.FromFn.{get_or-map-range_with_len, length-map-range_with_len}
use Rattle.vt_parser.specs.declared.commands.Command.{Command}
use Rattle.vt_parser.specs.declared.commands.Command.TheVariants.{Control}
use Rattle.vt_parser.specs.Step.{command_of}
use Rattle.vt_parser.specs.Syntax.{is_graphic, is_within}
use Rattle.vt_parser.proofs.LawLemmas.{control_is_given, graphic_is_shown}
use Rattle.vt_screen.specs.declared.cell.Cell.{Cell}
use Rattle.vt_screen.specs.declared.cell.Row.{Row}
use Rattle.vt_screen.specs.declared.cell.Size.{Size}
use Rattle.vt_screen.specs.Cells.{blank, blank_cells, blank_row, cell_at, row_at, row_by, rows_by}
use Rattle.vt_screen.specs.Moves.{moved_to_left, on_line}
use Rattle.vt_screen.specs.Picture.{Picture, margin_of, right_margin}
use Rattle.vt_screen.specs.Puts.{put, with_cell, with_row, wrap_taken}
use Rattle.vt_screen.specs.Limits.{narrow_columns}
use Rattle.vt_screen.specs.Scrolls.{indexed, scrolled_up}
use Rattle.vt_screen.specs.Table.{nth, table}
use Rattle.vt_screen.proofs.SoundRows.{blank_at, right_margin_low}
use Rattle.transcripts.specs.Transcript.{left_between, text_of, transcript}
use Rattle.transcripts.proofs.RowLemmas.{text_blank}
use Rattle.vt_term.specs.declared.profile.Profile.{Profile}
use Rattle.vt_term.specs.declared.modes.Modes.{Modes}
use Rattle.vt_term.specs.declared.sets.Sets.{Sets}
use Rattle.vt_term.specs.Console.{Console, effect_of, first_modes, on_picture}
use Rattle.vt_term.specs.Controls.{line_fed}
use Rattle.vt_term.specs.Effect.{effect, glyph_shown, glyph_for, put_by}
use Rattle.vt_term.specs.Sets.{first_sets, glyph_of, set_in_use}
use Rattle.vt_term.specs.Term.{mode_of}
use Rattle.screen_transcript.specs.declared.leaving.Leaving.TheVariants.{FirstRow, NoRow}
use Rattle.screen_transcript.specs.Leaving.{at_feed, leaving, rows_of}
use Rattle.screen_transcript.specs.PlainText.{PlainTextComesOut}
use Rattle.transcripts.specs.PlainText.{IsPlainLine, with_line_ends, without_spaces}
use Rattle.screen_transcript.specs.Rows.{all_rows, row_printed}
use Rattle.screen_transcript.specs.Transcribed.{Transcribed, left, left_at, leaving_by, leaving_rows, play_on, reset_as, standing_rows, step_on}
use Rattle.screen_transcript.proofs.PartLemmas.{left_parts, plays_parts}
use Rattle.screen_transcript.proofs.PlainRows.{HasText, row_text}
use Rattle.screen_transcript.proofs.RunLemmas.{none_leaves}

-- ---- pages

-- the screen shows these texts, one a line
pub record IsPage (p : Picture) (rows : List (List ℕ)) : Type 0 where
  pub wide : p.wide ≡ false
  pub top : p.top ≡ 1
  pub bottom : p.bottom ≡ 24
  pub many : length rows ≡ 24
  pub lines : length p.rows ≡ 24
  pub each : (k : ℕ) → 1 ≤ k → k ≤ 24 → HasText (row_at p.rows k) (get_or rows (k - 1) [])

-- the row and the cell that are told by their number
row_told : (f : ℕ → Row) (k : ℕ) → 1 ≤ k → k ≤ 24 → row_at (rows_by f) k ≡ f k
unfolding nth table
row_told f k low high = get_or-map-range_with_len f 1 24 (k - 1) k blank_row (omega (arith, low, high)) (omega (arith, low))

cell_told : (size : Size) (f : ℕ → Cell) (k : ℕ) → 1 ≤ k → k ≤ 132 → cell_at (row_by size f) k ≡ f k
unfolding nth table
cell_told size f k low high = get_or-map-range_with_len f 1 132 (k - 1) k blank (omega (arith, low, high)) (omega (arith, low))

rows_long : (f : ℕ → Row) → length (rows_by f) ≡ 24
unfolding table
rows_long f = length-map-range_with_len f 1 24

itself : {X : Type 0} (k : ℕ) (x y : X) → (if k == k then x else y) ≡ x
itself k x y = grind (arith, nat_tests)

apart : {X : Type 0} (k j : ℕ) (x y : X) → k ≢ j → (if k == j then x else y) ≡ y
apart k j x y ne = rw (ne_eqb k j ne) refl

page_margin : (p : Picture) (rows : List (List ℕ)) → IsPage p rows → (k : ℕ) → 1 ≤ k → k ≤ 24 → right_margin p k ≡ 80
page_margin p rows page k low high = ap₂ margin_of page.wide (page.each k low high).size

-- a letter behind a text
letter_text : (row : Row) (text : List ℕ) (cell : Cell) → is_graphic cell.glyph ≡ true → HasText row text → length text < 80
    → HasText (with_cell (length text + 1) cell row) (text ++ cell.glyph ∷ [])
unfolding table
letter_text row text cell graphic has short = record {
  size = has.size;
  whole = length-map-range_with_len (λ column. if column == length text + 1 then cell else cell_at row column) 1 132;
  short = omega (arith, length-append text (cell.glyph ∷ []), short);
  graphic = list_all-append is_graphic text (cell.glyph ∷ []) ∙ and_from (list_all is_graphic text) (is_graphic cell.glyph && true) has.graphic (and_from (is_graphic cell.glyph) true graphic refl);
  glyphs = λ k low high. by k low high;
}
  where
    other : (k : ℕ) → 1 ≤ k → k ≤ 80 → k ≢ length text + 1 → get_or text (k - 1) 32 ≡ get_or (text ++ cell.glyph ∷ []) (k - 1) 32
    other k low high ne = elim (cases_lt (k - 1) (length text)) [
      | inl lt ↦ sym (get_or_append_left text (cell.glyph ∷ []) 32 (k - 1) lt)
      | inr past ↦
          let far : length text + 1 ≤ k - 1 = omega (arith, past, low, ne) in
          get_or_past text (k - 1) 32 past ∙ sym (get_or_past (text ++ cell.glyph ∷ []) (k - 1) 32 (omega (arith, far, length-append text (cell.glyph ∷ []))))
    ]

    by : (k : ℕ) → 1 ≤ k → k ≤ 80 → (cell_at (with_cell (length text + 1) cell row) k).glyph ≡ get_or (text ++ cell.glyph ∷ []) (k - 1) 32
    by k low high = elim (cases_eq k (length text + 1)) [
      | inl is ↦
          let last : k - 1 ≡ length text = omega (arith, is) in
          ap (λ (c : Cell). c.glyph) (cell_told row.size (λ column. if column == length text + 1 then cell else cell_at row column) k low (omega (arith, high))
          ∙ ap (λ j. if j == length text + 1 then cell else cell_at row j) is ∙ itself (length text + 1) cell (cell_at row (length text + 1)))
          ∙ sym (ap (λ j. get_or (text ++ cell.glyph ∷ []) j 32) last ∙ get_or_push text cell.glyph 32 (length text) refl)
      | inr ne ↦
          ap (λ (c : Cell). c.glyph) (cell_told row.size (λ column. if column == length text + 1 then cell else cell_at row column) k low (omega (arith, high))
          ∙ apart k (length text + 1) cell (cell_at row k) ne)
          ∙ has.glyphs k low high ∙ other k low high ne
    ]

-- ---- what the page is behind a letter

-- what putting a cell leaves, whether at the margin or not
record Put (p q : Picture) (rows : List Row) : Type 0 where
  rows_are : q.rows ≡ rows
  line : q.line ≡ p.line
  wide : q.wide ≡ p.wide
  top : q.top ≡ p.top
  bottom : q.bottom ≡ p.bottom

put_either : (b autowrap : Bool) (p : Picture) (rows : List Row)
    → Put p (if b then (record p { rows = rows; wrap = autowrap }) else (record p { rows = rows; column = p.column + 1 })) rows
put_either true autowrap p rows = record { rows_are = refl; line = refl; wide = refl; top = refl; bottom = refl }
put_either false autowrap p rows = record { rows_are = refl; line = refl; wide = refl; top = refl; bottom = refl }

put_page : (p q : Picture) (rows : List (List ℕ)) (text : List ℕ) (cell : Cell) → is_graphic cell.glyph ≡ true → IsPage p rows → 1 ≤ p.line → p.line ≤ 24
    → get_or rows (p.line - 1) [] ≡ text → length text < 80 → p.column ≡ length text + 1
    → Put p q (with_row p.line (with_cell p.column cell (row_at p.rows p.line)) p.rows)
    → IsPage q (set rows (p.line - 1) (text ++ cell.glyph ∷ []))
put_page p q rows text cell graphic page low high here short column is = record {
  wide = is.wide ∙ page.wide;
  top = is.top ∙ page.top;
  bottom = is.bottom ∙ page.bottom;
  many = length-set rows (p.line - 1) (text ++ cell.glyph ∷ []) ∙ page.many;
  lines = ap length is.rows_are ∙ rows_long (λ line. if line == p.line then with_cell p.column cell (row_at p.rows p.line) else row_at p.rows line);
  each = λ k from to. subst (λ l. HasText (row_at l k) (get_or (set rows (p.line - 1) (text ++ cell.glyph ∷ [])) (k - 1) [])) (sym is.rows_are) (by k from to);
}
  where
    new : Row
    new = with_cell p.column cell (row_at p.rows p.line)

    by : (k : ℕ) → 1 ≤ k → k ≤ 24 → HasText (row_at (with_row p.line new p.rows) k) (get_or (set rows (p.line - 1) (text ++ cell.glyph ∷ [])) (k - 1) [])
    by k from to = elim (cases_eq k p.line) [
      | inl same ↦
          let row_is : row_at (with_row p.line new p.rows) k ≡ new =
          row_told (λ line. if line == p.line then new else row_at p.rows line) k from to
          ∙ ap (λ j. if j == p.line then new else row_at p.rows j) same ∙ itself p.line new (row_at p.rows p.line) in
          let text_is : get_or (set rows (p.line - 1) (text ++ cell.glyph ∷ [])) (k - 1) [] ≡ text ++ cell.glyph ∷ [] =
          ap (λ j. get_or (set rows (p.line - 1) (text ++ cell.glyph ∷ [])) (j - 1) []) same
          ∙ get_or-set_same rows (p.line - 1) (text ++ cell.glyph ∷ []) [] (omega (arith, low, high, page.many)) in
          subst (λ (r : Row). HasText r (get_or (set rows (p.line - 1) (text ++ cell.glyph ∷ [])) (k - 1) [])) (sym row_is)
          (subst (HasText new) (sym text_is)
          (subst (λ c. HasText (with_cell c cell (row_at p.rows p.line)) (text ++ cell.glyph ∷ [])) (sym column)
          (letter_text (row_at p.rows p.line) text cell graphic (subst (HasText (row_at p.rows p.line)) here (page.each p.line low high)) short)))
      | inr ne ↦
          let row_is : row_at (with_row p.line new p.rows) k ≡ row_at p.rows k =
          row_told (λ line. if line == p.line then new else row_at p.rows line) k from to ∙ apart k p.line new (row_at p.rows k) ne in
          let text_is : get_or (set rows (p.line - 1) (text ++ cell.glyph ∷ [])) (k - 1) [] ≡ get_or rows (k - 1) [] =
          get_or-set_other rows (p.line - 1) (k - 1) (text ++ cell.glyph ∷ []) [] (λ e. absurd (ne (omega (arith, e, from, low)))) in
          subst (λ (r : Row). HasText r (get_or (set rows (p.line - 1) (text ++ cell.glyph ∷ [])) (k - 1) [])) (sym row_is)
          (subst (HasText (row_at p.rows k)) (sym text_is) (page.each k from to))
    ]

-- ---- what was typed

-- of what was typed these rows have left and these stand, the last of which is at the cursor
pub record Typed (x : Transcribed) (gone rows done : List (List ℕ)) (now : List ℕ) : Type 0 where
  pub ground : x.term.pending ≡ []
  pub modes : x.term.console.modes ≡ first_modes
  pub sets : x.term.console.sets ≡ first_sets
  pub low : 1 ≤ x.term.console.picture.line
  pub high : x.term.console.picture.line ≤ 24
  pub page : IsPage x.term.console.picture rows
  pub here : get_or rows (x.term.console.picture.line - 1) [] ≡ now
  pub column : length now < 80 → (x.term.console.picture.column ≡ length now + 1) × (x.term.console.picture.wrap ≡ false)
  pub count : length gone + x.term.console.picture.line ≡ length done + 1
  pub all : gone ++ rows ≡ done ++ now ∷ replicate (24 - x.term.console.picture.line) []

set_behind : (gone rows : List (List ℕ)) (j : ℕ) (text : List ℕ) → set (gone ++ rows) (length gone + j) text ≡ gone ++ set rows j text
set_behind [] rows j text = let none : 0 + j ≡ j = omega arith in ap (λ i. set rows i text) none
set_behind (row ∷ gone) rows j text =
    let on : length (row ∷ gone) + j ≡ suc (length gone + j) = omega arith in
    ap (λ i. set (row ∷ gone ++ rows) i text) on ∙ ap (λ l. row ∷ l) (set_behind gone rows j text)

set_last : (done : List (List ℕ)) (now text : List ℕ) (rest : List (List ℕ)) → set (done ++ now ∷ rest) (length done) text ≡ done ++ text ∷ rest
set_last [] now text rest = refl
set_last (row ∷ done) now text rest = ap (λ l. row ∷ l) (set_last done now text rest)

-- a letter
letter_console : (x : Transcribed) (byte : ℕ) → x.term.pending ≡ [] → is_graphic byte ≡ true
    → (step_on x byte).term.console ≡ glyph_shown (glyph_for x.term.console byte) x.term.console
unfolding effect
letter_console x byte ground graphic =
    ap (λ (p : List ℕ). effect_of effect (command_of (mode_of x.term) p byte) x.term.console) ground
    ∙ ap (λ (c : Option Command). effect_of effect c x.term.console) (graphic_is_shown (mode_of x.term) byte graphic).0

letter_glyph : (s : Console) (byte : ℕ) → s.modes ≡ first_modes → s.sets ≡ first_sets → glyph_for s byte ≡ byte
letter_glyph s byte modes sets = ap₂ (λ (m : Modes) (t : Sets). glyph_of (set_in_use m.mode t) byte) modes sets

letter_picture : (s : Console) (byte : ℕ) → s.modes ≡ first_modes → s.sets ≡ first_sets → s.picture.wrap ≡ false
    → put_by s.modes s.rendition (glyph_for s byte) s.picture ≡ put (record { glyph = byte; rendition = s.rendition }) true s.picture
letter_picture s byte modes sets wrap =
    let taken : wrap_taken s.picture ≡ s.picture = rw wrap refl in
    ap (λ (m : Modes). put_by m s.rendition (glyph_for s byte) s.picture) modes
    ∙ ap (λ g. put (record { glyph = g; rendition = s.rendition }) true (wrap_taken s.picture)) (letter_glyph s byte modes sets)
    ∙ ap (put (record { glyph = byte; rendition = s.rendition }) true) taken

record Open (p q : Picture) : Type 0 where
  column : q.column ≡ p.column + 1
  wrap : q.wrap ≡ p.wrap

put_open : (cell : Cell) (p : Picture) → p.column ≢ right_margin p p.line → Open p (put cell true p)
put_open cell p ne =
    let is : put cell true p ≡ record p { rows = with_row p.line (with_cell p.column cell (row_at p.rows p.line)) p.rows; column = p.column + 1 } =
    rw (ne_eqb p.column (right_margin p p.line) ne) refl in
    subst (Open p) (sym is) (record { column = refl; wrap = refl })

pub typed_letter : (x : Transcribed) (gone rows done : List (List ℕ)) (now : List ℕ) (byte : ℕ) → Typed x gone rows done now → is_graphic byte ≡ true → length now < 80
    → Typed (step_on x byte) gone (set rows (x.term.console.picture.line - 1) (now ++ byte ∷ [])) done (now ++ byte ∷ [])
typed_letter x gone rows done now byte typed graphic short =
    let s = x.term.console in
    let p = s.picture in
    let text = now ++ byte ∷ [] in
    let cell : Cell = record { glyph = byte; rendition = s.rendition } in
    let console = letter_console x byte typed.ground graphic in
    let free = typed.column short in
    let q = (step_on x byte).term.console.picture in
    let is : q ≡ put cell true p = ap (λ (k : Console). k.picture) console ∙ letter_picture s byte typed.modes typed.sets free.1 in
    let new = with_row p.line (with_cell p.column cell (row_at p.rows p.line)) p.rows in
    let putting : Put p q new = subst (λ (r : Picture). Put p r new) (sym is) (put_either (p.column == right_margin p p.line) true p new) in
    let back : length gone + (p.line - 1) ≡ length done = omega (arith, typed.count, typed.low) in
    record {
      ground = ap (λ (l : List ℕ). (step_on (record { term = record { console = s; pending = l; reports = x.term.reports }; home = x.home }) byte).term.pending) typed.ground
          ∙ (graphic_is_shown (mode_of x.term) byte graphic).1;
      modes = ap (λ (k : Console). k.modes) console ∙ typed.modes;
      sets = ap (λ (k : Console). k.sets) console ∙ typed.sets;
      low = omega (arith, putting.line, typed.low);
      high = omega (arith, putting.line, typed.high);
      page = put_page p q rows now cell graphic typed.page typed.low typed.high typed.here short free.0 putting;
      here = ap (λ j. get_or (set rows (p.line - 1) text) (j - 1) []) putting.line
          ∙ get_or-set_same rows (p.line - 1) text [] (omega (arith, typed.low, typed.high, typed.page.many));
      column = λ more.
          let long = length-append now (byte ∷ []) in
          let opened : Open p q = subst (Open p) (sym is)
          (put_open cell p (λ e. absurd (omega (arith, e, free.0, page_margin p rows typed.page p.line typed.low typed.high, more, long)))) in
          (opened.column ∙ omega (arith, free.0, long), opened.wrap ∙ free.1);
      count = omega (arith, putting.line, typed.count);
      all = sym (set_behind gone rows (p.line - 1) text) ∙ ap₂ (λ l j. set l j text) typed.all back
          ∙ set_last done now text (replicate (24 - p.line) []) ∙ ap (λ j. done ++ text ∷ replicate (24 - j) []) (sym putting.line);
    }

-- a text without a line end
pub record Text (x : Transcribed) (gone done : List (List ℕ)) (now text : List ℕ) : Type 0 where
  pub rows : List (List ℕ)
  pub typed : Typed (play_on x text) gone rows done (now ++ text)
  pub none : left x text ≡ []

pub typed_text : (x : Transcribed) (gone rows done : List (List ℕ)) (now text : List ℕ) → Typed x gone rows done now → list_all is_graphic text ≡ true
    → length now + length text ≤ 80 → Text x gone done now text
unfolding play_on left
typed_text x gone rows done now [] typed graphic short = record {
  rows = rows;
  typed = subst (Typed x gone rows done) (sym (append-nil now)) typed;
  none = refl;
}
typed_text x gone rows done now (byte ∷ rest) typed graphic short =
    let p = x.term.console.picture in
    let parts = and_parts (is_graphic byte) (list_all is_graphic rest) graphic in
    let free = typed.column (omega (arith, short)) in
    let next = typed_text (step_on x byte) gone (set rows (p.line - 1) (now ++ byte ∷ [])) done (now ++ byte ∷ []) rest
    (typed_letter x gone rows done now byte typed parts.0 (omega (arith, short))) parts.1 (omega (arith, short, length-append now (byte ∷ []))) in
    let first : left x (byte ∷ []) ≡ [] =
    none_leaves x (byte ∷ []) typed.ground (and_from (is_graphic byte) true parts.0 refl) free.1 typed.low typed.high
    (omega (arith, free.0, short, page_margin p rows typed.page p.line typed.low typed.high)) in
    record {
      rows = next.rows;
      typed = subst (Typed (play_on (step_on x byte) rest) gone next.rows done) (append_assoc now (byte ∷ []) rest) next.typed;
      none = ap (λ l. l ++ left (step_on x byte) rest) (sym (append-nil (left_at x byte)) ∙ first) ∙ next.none;
    }

-- ---- a line end

record Fed (p q : Picture) (rows : List Row) (line : ℕ) : Type 0 where
  rows_are : q.rows ≡ rows
  at : q.line ≡ line
  wide : q.wide ≡ p.wide
  top : q.top ≡ p.top
  bottom : q.bottom ≡ p.bottom
  column : q.column ≡ 1
  wrap : q.wrap ≡ false

-- above the bottom, and there
fed_down : (p : Picture) → p.line ≢ p.bottom → p.line ≢ 24 → Fed p (indexed (moved_to_left p)) p.rows (p.line + 1)
fed_down p not_bottom not_last =
    let q = moved_to_left p in
    let is : indexed q ≡ on_line (p.line + 1) q = rw (ne_eqb p.line p.bottom not_bottom) (rw (ne_eqb p.line 24 not_last) refl) in
    subst (λ (r : Picture). Fed p r p.rows (p.line + 1)) (sym is) (record {
      rows_are = refl;
      at = refl;
      wide = refl;
      top = refl;
      bottom = refl;
      column = omega (arith, right_margin_low q (p.line + 1));
      wrap = refl;
    })

fed_up : (p : Picture) → p.line ≡ p.bottom → Fed p (indexed (moved_to_left p)) (scrolled_up 1 p.top p.bottom p.rows) p.line
fed_up p at_bottom =
    let q = moved_to_left p in
    let moved : Picture = record q { rows = scrolled_up 1 p.top p.bottom p.rows } in
    let is : indexed q ≡ on_line p.line moved = rw (eq-eqb p.line p.bottom at_bottom) refl in
    subst (λ (r : Picture). Fed p r (scrolled_up 1 p.top p.bottom p.rows) p.line) (sym is) (record {
      rows_are = refl;
      at = refl;
      wide = refl;
      top = refl;
      bottom = refl;
      column = omega (arith, right_margin_low moved p.line);
      wrap = refl;
    })

control_console : (x : Transcribed) (byte : ℕ) → x.term.pending ≡ [] → is_within 8 15 byte ≡ true
    → (step_on x byte).term.console ≡ effect (Control byte) x.term.console
control_console x byte ground within =
    ap (λ (p : List ℕ). effect_of effect (command_of (mode_of x.term) p byte) x.term.console) ground
    ∙ ap (λ (c : Option Command). effect_of effect c x.term.console) (control_is_given (mode_of x.term) byte within).0

control_ground : (x : Transcribed) (byte : ℕ) → x.term.pending ≡ [] → is_within 8 15 byte ≡ true → (step_on x byte).term.pending ≡ []
control_ground x byte ground within =
    ap (λ (l : List ℕ). (step_on (record { term = record { console = x.term.console; pending = l; reports = x.term.reports }; home = x.home }) byte).term.pending) ground
    ∙ (control_is_given (mode_of x.term) byte within).1

control_left : (x : Transcribed) (byte : ℕ) → x.term.pending ≡ [] → is_within 8 15 byte ≡ true
    → left_at x byte ≡ rows_of (leaving (Control byte) x.home x.term.console.picture) x.term.console.picture
control_left x byte ground within =
    let p = x.term.console.picture in
    ap (λ (l : List ℕ). rows_of (leaving_by (command_of (mode_of x.term) l byte) x.home p) p) ground
    ∙ ap (λ (c : Option Command). rows_of (leaving_by c x.home p) p) (control_is_given (mode_of x.term) byte within).0

-- CR and LF
record LineEnd (x : Transcribed) : Type 0 where
  ground : (play_on x (13 ∷ 10 ∷ [])).term.pending ≡ []
  console : (play_on x (13 ∷ 10 ∷ [])).term.console ≡ on_picture (λ p. indexed (moved_to_left p)) x.term.console
  left : left x (13 ∷ 10 ∷ []) ≡ rows_of (at_feed (moved_to_left x.term.console.picture)) (moved_to_left x.term.console.picture)

line_end : (x : Transcribed) → x.term.pending ≡ [] → x.term.console.modes ≡ first_modes → LineEnd x
unfolding play_on left effect leaving
line_end x ground modes =
    let s = x.term.console in
    let y = step_on x 13 in
    let there : y.term.console ≡ on_picture moved_to_left s = control_console x 13 ground refl in
    let still = control_ground x 13 ground refl in
    let fed : (step_on y 10).term.console ≡ effect (Control 10) (on_picture moved_to_left s) = control_console y 10 still refl ∙ ap (effect (Control 10)) there in
    let plain : effect (Control 10) (on_picture moved_to_left s) ≡ on_picture (λ p. indexed (moved_to_left p)) s =
    ap (λ (m : Modes). on_picture (λ p. line_fed m.newline (moved_to_left p)) s) modes in
    record {
      ground = control_ground y 10 still refl;
      console = fed ∙ plain;
      left = ap (λ l. l ++ (left_at y 10 ++ [])) (control_left x 13 ground refl) ∙ append-nil (left_at y 10) ∙ control_left y 10 still refl
          ∙ ap (λ (k : Console). rows_of (at_feed k.picture) k.picture) there;
    }

-- behind what left, and behind what was typed
behind : (gone rows : List (List ℕ)) (j : ℕ) → get_or (gone ++ rows) (length gone + j) [] ≡ get_or rows j []
behind [] rows j = let none : 0 + j ≡ j = omega arith in ap (λ i. get_or rows i []) none
behind (row ∷ gone) rows j =
    let on : length (row ∷ gone) + j ≡ suc (length gone + j) = omega arith in
    ap (λ i. get_or (row ∷ gone ++ rows) i []) on ∙ behind gone rows j

blank_behind : (done : List (List ℕ)) (now : List ℕ) (m : ℕ) → get_or (done ++ now ∷ replicate m []) (length done + 1) [] ≡ []
blank_behind [] now zero = refl
blank_behind [] now (suc m) = refl
blank_behind (row ∷ done) now m =
    let on : length (row ∷ done) + 1 ≡ suc (length done + 1) = omega arith in
    ap (λ i. get_or (row ∷ done ++ now ∷ replicate m []) i []) on ∙ blank_behind done now m

fed_page : (p q : Picture) (rows : List (List ℕ)) (line : ℕ) → IsPage p rows → Fed p q p.rows line → IsPage q rows
fed_page p q rows line page fed = record {
  wide = fed.wide ∙ page.wide;
  top = fed.top ∙ page.top;
  bottom = fed.bottom ∙ page.bottom;
  many = page.many;
  lines = ap length fed.rows_are ∙ page.lines;
  each = λ k low high. subst (λ l. HasText (row_at l k) (get_or rows (k - 1) [])) (sym fed.rows_are) (page.each k low high);
}

pub blank_text : HasText blank_row []
unfolding blank_cells
blank_text = record {
  size = refl;
  whole = length-replicate 132 blank;
  short = omega arith;
  graphic = refl;
  glyphs = λ k low high. ap (λ (c : Cell). c.glyph) (blank_at k);
}

scrolled_page : (p q : Picture) (row : List ℕ) (rows : List (List ℕ)) (line : ℕ) → IsPage p (row ∷ rows)
    → Fed p q (scrolled_up 1 p.top p.bottom p.rows) line → IsPage q (rows ++ [] ∷ [])
scrolled_page p q row rows line page fed = record {
  wide = fed.wide ∙ page.wide;
  top = fed.top ∙ page.top;
  bottom = fed.bottom ∙ page.bottom;
  many = omega (arith, length-append rows ([] ∷ []), page.many);
  lines = ap length fed.rows_are ∙ rows_long _;
  each = λ k low high. subst (λ l. HasText (row_at l k) (get_or (rows ++ [] ∷ []) (k - 1) [])) (sym fed.rows_are) (by k low high);
}
  where
    by : (k : ℕ) → 1 ≤ k → k ≤ 24 → HasText (row_at (scrolled_up 1 p.top p.bottom p.rows) k) (get_or (rows ++ [] ∷ []) (k - 1) [])
    by k low high = elim (cases_lt k 24) [
      | inl lt ↦
          let top = page.top in
          let bottom = page.bottom in
          let row_is : row_at (scrolled_up 1 p.top p.bottom p.rows) k ≡ row_at p.rows (k + 1) =
          row_told _ k low high ∙ grind (arith, nat_tests, top, bottom) in
          let text_is : get_or (rows ++ [] ∷ []) (k - 1) [] ≡ get_or (row ∷ rows) (k + 1 - 1) [] = grind (arith, elements, page.many) in
          subst (λ (r : Row). HasText r (get_or (rows ++ [] ∷ []) (k - 1) [])) (sym row_is)
          (subst (HasText (row_at p.rows (k + 1))) (sym text_is) (page.each (k + 1) (omega arith) (omega (arith, lt))))
      | inr last ↦
          let top = page.top in
          let bottom = page.bottom in
          let row_is : row_at (scrolled_up 1 p.top p.bottom p.rows) k ≡ blank_row =
          row_told _ k low high ∙ grind (arith, nat_tests, top, bottom) in
          let at : length rows ≡ k - 1 = omega (arith, last, high, page.many) in
          subst (λ (r : Row). HasText r (get_or (rows ++ [] ∷ []) (k - 1) [])) (sym row_is)
          (subst (HasText blank_row) (sym (get_or_push rows [] [] (k - 1) at)) blank_text)
    ]

-- what leaves at the line feed
feed_none : (p : Picture) → p.line ≢ p.bottom → rows_of (at_feed (moved_to_left p)) (moved_to_left p) ≡ []
feed_none p ne = ap (λ b. rows_of (if b && (p.top == 1) then FirstRow else NoRow) (moved_to_left p)) (ne_eqb p.line p.bottom ne)

feed_leaves : (p : Picture) → p.line ≡ p.bottom → p.top ≡ 1 → rows_of (at_feed (moved_to_left p)) (moved_to_left p) ≡ row_printed p.wide (row_at p.rows 1) ∷ []
feed_leaves p at top =
    ap (λ b. rows_of (if b && (p.top == 1) then FirstRow else NoRow) (moved_to_left p)) (eq-eqb p.line p.bottom at)
    ∙ ap (λ t. rows_of (if t == 1 then FirstRow else NoRow) (moved_to_left p)) top

pub record Ended (x : Transcribed) (gone done : List (List ℕ)) (now : List ℕ) : Type 0 where
  pub rows : List (List ℕ)
  pub away : List (List ℕ)
  pub typed : Typed (play_on x (13 ∷ 10 ∷ [])) (gone ++ away) rows (done ++ now ∷ []) []
  pub left : left x (13 ∷ 10 ∷ []) ≡ map without_spaces away

module _ (x : Transcribed) (gone rows done : List (List ℕ)) (now : List ℕ) (typed : Typed x gone rows done now) where
  abbrev p : Picture
  p = x.term.console.picture

  abbrev z : Transcribed
  z = play_on x (13 ∷ 10 ∷ [])

  ends : LineEnd x
  ends = line_end x typed.ground typed.modes

  q_is : z.term.console.picture ≡ indexed (moved_to_left p)
  q_is = ap (λ (k : Console). k.picture) ends.console

  ended_above : p.line < 24 → Ended x gone done now
  ended_above lt =
      let not_bottom : p.line ≢ p.bottom = λ e. absurd (omega (arith, e, lt, typed.page.bottom)) in
      let fed : Fed p z.term.console.picture p.rows (p.line + 1) =
      subst (λ (q : Picture). Fed p q p.rows (p.line + 1)) (sym q_is) (fed_down p not_bottom (λ e. absurd (omega (arith, e, lt)))) in
      let long = length-append done (now ∷ []) in
      let left_below : 24 - p.line ≡ suc (24 - z.term.console.picture.line) = omega (arith, lt, fed.at) in
      record {
        rows = rows;
        away = [];
        typed = record {
          ground = ends.ground;
          modes = ap (λ (k : Console). k.modes) ends.console ∙ typed.modes;
          sets = ap (λ (k : Console). k.sets) ends.console ∙ typed.sets;
          low = omega (arith, fed.at);
          high = omega (arith, fed.at, lt);
          page = fed_page p z.term.console.picture rows (p.line + 1) typed.page fed;
          here =
              let at : z.term.console.picture.line - 1 ≡ p.line = omega (arith, fed.at) in
              ap (λ j. get_or rows j []) at ∙ sym (behind gone rows p.line) ∙ ap₂ (λ l j. get_or l j []) typed.all typed.count
              ∙ blank_behind done now (24 - p.line);
          column = λ some. (fed.column ∙ omega arith, fed.wrap);
          count = omega (arith, fed.at, typed.count, long, length-append gone []);
          all = ap (λ l. l ++ rows) (append-nil gone) ∙ typed.all ∙ ap (λ m. done ++ now ∷ replicate m []) left_below
              ∙ sym (append_assoc done (now ∷ []) ([] ∷ replicate (24 - z.term.console.picture.line) []));
        };
        left = ends.left ∙ feed_none p not_bottom;
      }

  ended_last : (row : List ℕ) (below : List (List ℕ)) → rows ≡ row ∷ below → p.line ≡ 24 → Ended x gone done now
  ended_last row below is last =
      let page : IsPage p (row ∷ below) = subst (IsPage p) is typed.page in
      let at_bottom : p.line ≡ p.bottom = last ∙ sym typed.page.bottom in
      let fed : Fed p z.term.console.picture (scrolled_up 1 p.top p.bottom p.rows) p.line =
      subst (λ (q : Picture). Fed p q (scrolled_up 1 p.top p.bottom p.rows) p.line) (sym q_is) (fed_up p at_bottom) in
      let first : row_printed p.wide (row_at p.rows 1) ≡ without_spaces row =
      ap (λ b. row_printed b (row_at p.rows 1)) typed.page.wide ∙ row_text (row_at p.rows 1) row (page.each 1 (omega arith) (omega arith)) in
      let long = length-append done (now ∷ []) in
      let none_below : 24 - p.line ≡ 0 = omega (arith, last) in
      let none_left : 24 - z.term.console.picture.line ≡ 0 = omega (arith, last, fed.at) in
      record {
        rows = below ++ [] ∷ [];
        away = row ∷ [];
        typed = record {
          ground = ends.ground;
          modes = ap (λ (k : Console). k.modes) ends.console ∙ typed.modes;
          sets = ap (λ (k : Console). k.sets) ends.console ∙ typed.sets;
          low = omega (arith, fed.at, last);
          high = omega (arith, fed.at, last);
          page = scrolled_page p z.term.console.picture row below p.line page fed;
          here = get_or_push below [] [] (z.term.console.picture.line - 1) (omega (arith, fed.at, last, page.many));
          column = λ some. (fed.column ∙ omega arith, fed.wrap);
          count = omega (arith, fed.at, typed.count, long, length-append gone (row ∷ []));
          all = append_assoc gone (row ∷ []) (below ++ [] ∷ []) ∙ sym (append_assoc gone (row ∷ below) ([] ∷ []))
              ∙ ap (λ l. (gone ++ l) ++ [] ∷ []) (sym is) ∙ ap (λ l. l ++ [] ∷ []) typed.all
              ∙ ap (λ m. (done ++ now ∷ replicate m []) ++ [] ∷ []) none_below
              ∙ ap (λ m. (done ++ now ∷ []) ++ [] ∷ replicate m []) (sym none_left);
        };
        left = ends.left ∙ feed_leaves p at_bottom typed.page.top ∙ ap (λ r. r ∷ []) first;
      }

  first_row : (l : List (List ℕ)) → length l ≡ 24 → rows ≡ l → p.line ≡ 24 → Ended x gone done now
  first_row [] many is last = absurd (omega (arith, many))
  first_row (row ∷ below) many is last = ended_last row below is last

  pub typed_end : Ended x gone done now
  typed_end = elim (cases_lt p.line 24) [
    | inl lt ↦ ended_above lt
    | inr high ↦ first_row rows typed.page.many refl (omega (arith, high, typed.high))
  ]

-- ---- lines

pub record Lines (x : Transcribed) (gone done lines : List (List ℕ)) (bytes : List ℕ) : Type 0 where
  pub rows : List (List ℕ)
  pub away : List (List ℕ)
  pub front : List (List ℕ)
  pub last : List ℕ
  pub typed : Typed (play_on x bytes) (gone ++ away) rows front last
  pub split : front ++ last ∷ [] ≡ done ++ lines
  pub left : left x bytes ≡ map without_spaces away

pub typed_lines : (x : Transcribed) (gone rows done : List (List ℕ)) (line : List ℕ) (rest : List (List ℕ)) → Typed x gone rows done []
    → IsPlainLine narrow_columns line → AllByRecursion (IsPlainLine narrow_columns) rest
    → Lines x gone done (line ∷ rest) (with_line_ends line rest)
typed_lines x gone rows done line [] typed plain others =
    let text = typed_text x gone rows done [] line typed plain.graphic (omega (arith, plain.short)) in
    record {
      rows = text.rows;
      away = [];
      front = done;
      last = line;
      typed = subst (λ g. Typed (play_on x line) g text.rows done line) (sym (append-nil gone)) text.typed;
      split = refl;
      left = text.none;
    }
typed_lines x gone rows done line (next ∷ rest) typed plain others =
    let text = typed_text x gone rows done [] line typed plain.graphic (omega (arith, plain.short)) in
    let y = play_on x line in
    let ended = typed_end y gone text.rows done line text.typed in
    let z = play_on y (13 ∷ 10 ∷ []) in
    let more = typed_lines z (gone ++ ended.away) ended.rows (done ++ line ∷ []) next rest ended.typed others.0 others.1 in
    let bytes = with_line_ends next rest in
    let all : play_on x (with_line_ends line (next ∷ rest)) ≡ play_on z bytes =
    plays_parts x line (13 ∷ 10 ∷ bytes) ∙ plays_parts y (13 ∷ 10 ∷ []) bytes in
    record {
      rows = more.rows;
      away = ended.away ++ more.away;
      front = more.front;
      last = more.last;
      typed = subst (λ (t : Transcribed). Typed t (gone ++ (ended.away ++ more.away)) more.rows more.front more.last) (sym all)
          (subst (λ g. Typed (play_on z bytes) g more.rows more.front more.last) (append_assoc gone ended.away more.away) more.typed);
      split = more.split ∙ append_assoc done (line ∷ []) (next ∷ rest);
      left = left_parts x line (13 ∷ 10 ∷ bytes) ∙ ap (λ l. l ++ left y (13 ∷ 10 ∷ bytes)) text.none
          ∙ left_parts y (13 ∷ 10 ∷ []) bytes ∙ ap₂ (λ (l m : List (List ℕ)). l ++ m) ended.left more.left
          ∙ sym (map-append without_spaces ended.away more.away);
    }

-- ---- the whole

-- a reset terminal is a page on which nothing was typed
pub typed_nothing : (profile : Profile) → Typed (reset_as profile) [] (replicate 24 []) [] []
typed_nothing profile = record {
  ground = refl;
  modes = refl;
  sets = refl;
  low = omega arith;
  high = omega arith;
  page = record {
    wide = refl;
    top = refl;
    bottom = refl;
    many = refl;
    lines = rows_long (λ _. blank_row);
    each = λ k low high.
        subst (λ (r : Row). HasText r (get_or (replicate 24 []) (k - 1) [])) (sym (row_told (λ _. blank_row) k low high))
        (subst (HasText blank_row) (sym (get_or-replicate 24 (k - 1) [] [] (omega (arith, low, high)))) blank_text);
  };
  here = refl;
  column = λ some. (refl, refl);
  count = refl;
  all = refl;
}

-- the rows that stand on a page
same_rows : (xs ys : List (List ℕ)) → length xs ≡ length ys → ((k : ℕ) → k < length xs → get_or xs k [] ≡ get_or ys k []) → xs ≡ ys
same_rows [] [] long each = refl
same_rows [] (y ∷ ys) long each = absurd (omega (arith, long))
same_rows (x ∷ xs) [] long each = absurd (omega (arith, long))
same_rows (x ∷ xs) (y ∷ ys) long each =
    ap₂ (λ (a : List ℕ) (l : List (List ℕ)). a ∷ l) (each 0 (omega arith)) (same_rows xs ys (omega (arith, long)) (λ k lt. each (suc k) (omega (arith, lt))))

pub page_rows : (p : Picture) (rows : List (List ℕ)) → IsPage p rows → all_rows p ≡ map without_spaces rows
unfolding nth
page_rows p rows page =
    let one : length (all_rows p) ≡ 24 = length-map p.rows (row_printed p.wide) ∙ page.lines in
    let two : length (map without_spaces rows) ≡ 24 = length-map rows without_spaces ∙ page.many in
    same_rows (all_rows p) (map without_spaces rows) (one ∙ sym two) (λ k lt.
    let there : k + 1 - 1 ≡ k = omega arith in
    get_or-map (row_printed p.wide) p.rows k blank_row [] (omega (arith, lt, one, page.lines))
    ∙ ap (λ j. row_printed p.wide (get_or p.rows j blank_row)) (sym there)
    ∙ ap (λ b. row_printed b (row_at p.rows (k + 1))) page.wide
    ∙ row_text (row_at p.rows (k + 1)) (get_or rows (k + 1 - 1) []) (page.each (k + 1) (omega arith) (omega (arith, lt, one)))
    ∙ ap (λ j. without_spaces (get_or rows j [])) there
    ∙ sym (get_or-map without_spaces rows k [] [] (omega (arith, lt, one, page.many))))

blank_rest : (rows : List (List ℕ)) (n : ℕ) → text_of (rows ++ replicate n []) ≡ text_of rows
blank_rest rows zero = ap text_of (append-nil rows)
blank_rest rows (suc n) =
    ap text_of (sym (append_assoc rows ([] ∷ []) (replicate n []))) ∙ blank_rest (rows ++ [] ∷ []) n ∙ text_blank rows

blank_lines : (n : ℕ) → map without_spaces (replicate n []) ≡ replicate n []
blank_lines zero = refl
blank_lines (suc n) = ap (λ l. [] ∷ l) (blank_lines n)

pub comes_out : PlainTextComesOut
unfolding transcript left_between standing_rows left text_of play_on
comes_out profile line rest tape plain others is =
    let bytes = with_line_ends line rest in
    let all = typed_lines (reset_as profile) [] (replicate 24 []) [] line rest (typed_nothing profile) plain (recursion_from_All (IsPlainLine narrow_columns) rest others) in
    let p = (play_on (reset_as profile) bytes).term.console.picture in
    let below = 24 - p.line in
    let stands = page_rows p all.rows all.typed.page in
    let rows : all.away ++ all.rows ≡ (line ∷ rest) ++ replicate below [] =
    all.typed.all ∙ sym (append_assoc all.front (all.last ∷ []) (replicate below [])) ∙ ap (λ l. l ++ replicate below []) all.split in
    ap (λ b. text_of (leaving_rows profile [] b ++ standing_rows profile b)) is
    ∙ ap₂ (λ (l m : List (List ℕ)). text_of (l ++ m)) all.left stands
    ∙ ap text_of (sym (map-append without_spaces all.away all.rows) ∙ ap (map without_spaces) rows ∙ map-append without_spaces (line ∷ rest) (replicate below [])
    ∙ ap (λ l. map without_spaces (line ∷ rest) ++ l) (blank_lines below))
    ∙ blank_rest (map without_spaces (line ∷ rest)) below
