-- What letters and line ends do to a page that was typed.
use Rattle.std.proofs.Common.{◌≡◌, ◌≢◌, ℕ, zero, suc, ◌+◌, ◌-◌, ◌<◌, ◌≤◌, ◌==◌, ◌&&◌, ◌||◌, true, false, not, List, [], ◌∷◌, ◌++◌, length, get_or, map, nat_le, set, take, refl, sym, ap, ap₂, ◌∙◌, subst, inl, inr, append-nil, append_assoc, arith}
use Rattle.std.specs.Prelude.{Some, min, replicate, if◌then◌else◌}
use Rattle.std.specs.List.{AllByRecursion, list_all}
use Rattle.std.proofs.lemmas.Bool.{and_from, and_parts, cases_eq, cases_lt, eq-eqb, ne_eqb}
use Rattle.std.proofs.lemmas.Bool.Decides.{nat_tests}
use Rattle.std.proofs.lemmas.Grind.{elements}
use Rattle.std.proofs.lemmas.List.{get_or-map, get_or-replicate, get_or-set_other, get_or-set_same, get_or_append_left, get_or_past, get_or_push, length-append, length-map, length-replicate, length-set, map-append}
use Rattle.std.proofs.lemmas.List.Elements.{recursion_from_All}
use Rattle.std.proofs.lemmas.List.Folds.{list_all-append}
use Rattle.std.proofs.lemmas.List.FromFn.{get_or-map-range_with_len, length-map-range_with_len}
use Rattle.characters.proofs.Widths.{ascii_is_narrow}
use Rattle.vt_parser.specs.declared.commands.Command.TheVariants.{Control}
use Rattle.vt_parser.specs.declared.commands.Mode.TheVariants.{Ansi}
use Rattle.vt_parser.specs.Syntax.{is_graphic, is_within}
use Rattle.vt_parser.proofs.LawLemmas.{control_is_given}
use Rattle.sheet.specs.declared.cell.Kind.{Kind}
use Rattle.sheet.specs.declared.rendition.Colour.{Colour}
use Rattle.sheet.specs.declared.rendition.Colour.TheVariants.{Default}
use Rattle.sheet.specs.declared.rendition.Rendition.{Rendition}
use Rattle.sheet.specs.Cells.{Cell, blank, cell_at, covered_kind, is_covered, is_wide, lettered, wide_kind}
use Rattle.sheet.specs.Edits.{put as put_cell, written}
use Rattle.sheet.specs.Grid.{blank_row, row_at, scrolled_up, with_row}
use Rattle.sheet.specs.Halves.{is_half}
use Rattle.sheet.specs.Table.{nth, table}
use Rattle.xterm_screen.specs.Moves.{moved_to_left, on_line}
use Rattle.xterm_screen.specs.Picture.{Picture}
use Rattle.xterm_screen.specs.Puts.{shown}
use Rattle.xterm_screen.specs.Scrolls.{indexed}
use Rattle.xterm_screen.proofs.Runs.{run_to_end, run_within}
use Rattle.transcripts.specs.Transcript.{left_between, text_of, transcript}
use Rattle.transcripts.proofs.RowLemmas.{text_blank}
use Rattle.xterm_term.specs.declared.measure.Size.{Size}
use Rattle.xterm_term.specs.declared.modes.Modes.{Modes}
use Rattle.xterm_term.specs.declared.sets.Sets.{Sets}
use Rattle.xterm_term.specs.Console.{Console, first_modes, forgotten, on_paper, on_picture}
use Rattle.xterm_term.specs.Controls.{control_effect, controls, line_fed}
use Rattle.xterm_term.specs.Puts.{character_for, put, shown_with}
use Rattle.xterm_term.specs.Rows.{effect_of, named}
use Rattle.xterm_term.specs.Sets.{character_of, first_sets, set_in_use}
use Rattle.xterm_term.specs.Size.{IsSize}
use Rattle.xterm_term.specs.Term.{Term, play}
use Rattle.xterm_term.proofs.Idle.{control_brings}
use Rattle.xterm_term.proofs.Runs.{ascii_is_narrow as narrow_here, on_ground, put_narrow}
use Rattle.xterm_transcript.specs.Leaving.{at_control, feed_leaves, first_if, leaving, leaving_first, put_leaves, rows_of}
use Rattle.xterm_transcript.specs.PlainText.{PlainTextComesOut}
use Rattle.transcripts.specs.PlainText.{IsPlainLine, with_line_ends, without_spaces}
use Rattle.xterm_transcript.specs.Rows.{all_rows, row_printed}
use Rattle.xterm_transcript.specs.Transcribed.{Coming, Transcribed, coming_at, left, leaving_rows, play_on, reset_of, standing_rows, step_on}
use Rattle.xterm_transcript.proofs.CommandLemmas.{at_made, came_one, made}
use Rattle.xterm_transcript.proofs.PartLemmas.{left_parts, plays_parts}
use Rattle.xterm_transcript.proofs.PlainRows.{HasText, IsGlyph, row_text}
use Rattle.xterm_transcript.proofs.PutLemmas.{first_is, graphic_comes, graphic_step, stays_put}

-- ---- tables

told : {X : Type 0} (d : X) (n : ℕ) (f : ℕ → X) (k : ℕ) → 1 ≤ k → k ≤ n → nth d (table n f) k ≡ f k
unfolding nth table
told d n f zero low high = absurd (omega (arith, low))
told d n f (suc k) low high = get_or-map-range_with_len f 1 n k (suc k) d (omega (arith, high)) (omega arith)

long : {X : Type 0} (n : ℕ) (f : ℕ → X) → length (table n f) ≡ n
unfolding table
long n f = length-map-range_with_len f 1 n

nth_is : {X : Type 0} (d : X) (xs : List X) (k : ℕ) → nth d xs (suc k) ≡ get_or xs k d
unfolding nth
nth_is d xs k = refl

itself : {X : Type 0} (k : ℕ) (x y : X) → (if k == k then x else y) ≡ x
itself k x y = grind (arith, nat_tests)

apart : {X : Type 0} (k j : ℕ) (x y : X) → k ≢ j → (if k == j then x else y) ≡ y
apart k j x y ne = rw (ne_eqb k j ne) refl

-- ---- pages

-- the screen shows these texts, one a line
pub record IsPage (columns lines : ℕ) (p : Picture) (rows : List (List ℕ)) : Type 0 where
  pub columns_are : p.columns ≡ columns
  pub lines_are : p.lines ≡ lines
  pub main : p.alternate ≡ false
  pub top : p.top ≡ 1
  pub bottom : p.bottom ≡ lines
  pub many : length rows ≡ lines
  pub lines_long : length p.rows ≡ lines
  pub each : (k : ℕ) → 1 ≤ k → k ≤ lines → HasText columns (row_at p.rows k) (get_or rows (k - 1) [])

-- a character of one column is no half
glyph_half : (before cell after : Cell) (c : ℕ) → IsGlyph cell c → is_half before cell after ≡ false
unfolding is_wide is_covered
glyph_half before cell after c glyph =
    ap (λ (kind : Kind). (wide_kind kind && not (covered_kind after.kind)) || (covered_kind kind && not (wide_kind before.kind))) glyph.kind

glyph_lettered : (c : ℕ) (rendition : Rendition) → IsGlyph (lettered c false rendition) c
unfolding lettered
glyph_lettered c rendition = record { kind = refl; is = refl; alone = refl }

glyph_blank : (paper : Colour) → IsGlyph (blank paper) 32
unfolding blank
glyph_blank paper = record { kind = refl; is = refl; alone = refl }

-- a letter behind a text
letter_text : (columns : ℕ) (row : List Cell) (text : List ℕ) (c : ℕ) (rendition : Rendition) → is_graphic c ≡ true → HasText columns row text
    → length text < columns → HasText columns (put_cell (length text + 1) c false rendition row) (text ++ c ∷ [])
letter_text columns row text c rendition graphic has short = record {
  whole = long (length there) _ ∙ there_long;
  short = omega (arith, length-append text (c ∷ []), short);
  graphic = list_all-append is_graphic text (c ∷ []) ∙ and_from (list_all is_graphic text) (is_graphic c && true) has.graphic (and_from (is_graphic c) true graphic refl);
  each = λ k low high. by k low high;
}
  where
    at : ℕ
    at = length text + 1

    there : List Cell
    there = written at c false rendition row

    there_long : length there ≡ columns
    there_long = long (length row) (λ column. if column == at then lettered c false rendition else (if false && (column == at + 1) then lettered c false rendition else cell_at row column)) ∙ has.whole

    other : (k : ℕ) → 1 ≤ k → k ≤ columns → k ≢ at → get_or text (k - 1) 32 ≡ get_or (text ++ c ∷ []) (k - 1) 32
    other k low high ne = elim (cases_lt (k - 1) (length text)) [
      | inl lt ↦ sym (get_or_append_left text (c ∷ []) 32 (k - 1) lt)
      | inr past ↦
          let far : length text + 1 ≤ k - 1 = omega (arith, past, low, ne) in
          get_or_past text (k - 1) 32 past ∙ sym (get_or_past (text ++ c ∷ []) (k - 1) 32 (omega (arith, far, length-append text (c ∷ []))))
    ]

    written_at : (k : ℕ) → 1 ≤ k → k ≤ columns → cell_at there k ≡ (if k == at then lettered c false rendition else cell_at row k)
    written_at k low high = told (blank Default) (length row) _ k low (omega (arith, high, has.whole))

    glyph : (k : ℕ) → 1 ≤ k → k ≤ columns → IsGlyph (cell_at there k) (get_or (text ++ c ∷ []) (k - 1) 32)
    glyph k low high = elim (cases_eq k at) [
      | inl is ↦
          let last : k - 1 ≡ length text = omega (arith, is) in
          let text_is : get_or (text ++ c ∷ []) (k - 1) 32 ≡ c = ap (λ j. get_or (text ++ c ∷ []) j 32) last ∙ get_or_push text c 32 (length text) refl in
          let cell_is : cell_at there k ≡ lettered c false rendition =
          written_at k low high ∙ ap (λ j. if j == at then lettered c false rendition else cell_at row j) is ∙ itself at (lettered c false rendition) (cell_at row at) in
          subst (λ (x : Cell). IsGlyph x (get_or (text ++ c ∷ []) (k - 1) 32)) (sym cell_is)
          (subst (IsGlyph (lettered c false rendition)) (sym text_is) (glyph_lettered c rendition))
      | inr ne ↦
          let cell_is : cell_at there k ≡ cell_at row k = written_at k low high ∙ apart k at (lettered c false rendition) (cell_at row k) ne in
          subst (λ (x : Cell). IsGlyph x (get_or (text ++ c ∷ []) (k - 1) 32)) (sym cell_is)
          (subst (IsGlyph (cell_at row k)) (other k low high ne) (has.each k low high))
    ]

    by : (k : ℕ) → 1 ≤ k → k ≤ columns → IsGlyph (cell_at (put_cell at c false rendition row) k) (get_or (text ++ c ∷ []) (k - 1) 32)
    by k low high =
        let here = glyph k low high in
        let cell_is : cell_at (put_cell at c false rendition row) k ≡ cell_at there k =
        told (blank Default) (length there) _ k low (omega (arith, high, there_long))
        ∙ ap (λ b. if b then blank rendition.paper else cell_at there k) (glyph_half (cell_at there (k - 1)) (cell_at there k) (cell_at there (k + 1)) (get_or (text ++ c ∷ []) (k - 1) 32) here) in
        subst (λ (x : Cell). IsGlyph x (get_or (text ++ c ∷ []) (k - 1) 32)) (sym cell_is) here

-- ---- what the page is behind a letter

-- what a change of the rows leaves
record Put (p q : Picture) (rows : List (List Cell)) : Type 0 where
  rows_are : q.rows ≡ rows
  line : q.line ≡ p.line
  columns : q.columns ≡ p.columns
  lines : q.lines ≡ p.lines
  alternate : q.alternate ≡ p.alternate
  top : q.top ≡ p.top
  bottom : q.bottom ≡ p.bottom
  beside : p.column < p.columns → (q.column ≡ p.column + 1) × (q.wrap ≡ p.wrap)

letter_put : (rendition : Rendition) (c : ℕ) (p : Picture) → p.wrap ≡ false → 1 ≤ p.line → p.line ≤ length p.rows → p.column ≤ p.columns
    → Put p (shown c false rendition true false p) (with_row p.line (put_cell p.column c false rendition (row_at p.rows p.line)) p.rows)
letter_put rendition c p wrap low high within =
    let new = with_row p.line (put_cell p.column c false rendition (row_at p.rows p.line)) p.rows in
    elim (cases_lt p.column p.columns) [
      | inl lt ↦
          subst (λ (q : Picture). Put p q new) (sym (run_within rendition true (c ∷ []) p wrap low high (omega (arith, lt)))) (record {
            rows_are = refl;
            line = refl;
            columns = refl;
            lines = refl;
            alternate = refl;
            top = refl;
            bottom = refl;
            beside = λ before. (refl, refl);
          })
      | inr last ↦
          subst (λ (q : Picture). Put p q new) (sym (run_to_end rendition true (c ∷ []) p wrap low high (omega arith) (omega (arith, last, within)))) (record {
            rows_are = refl;
            line = refl;
            columns = refl;
            lines = refl;
            alternate = refl;
            top = refl;
            bottom = refl;
            beside = λ before. absurd (omega (arith, before, last));
          })
    ]

put_page : (columns lines : ℕ) (p q : Picture) (rows : List (List ℕ)) (text : List ℕ) (c : ℕ) (rendition : Rendition) → is_graphic c ≡ true
    → IsPage columns lines p rows → 1 ≤ p.line → p.line ≤ lines → get_or rows (p.line - 1) [] ≡ text → length text < columns → p.column ≡ length text + 1
    → Put p q (with_row p.line (put_cell p.column c false rendition (row_at p.rows p.line)) p.rows)
    → IsPage columns lines q (set rows (p.line - 1) (text ++ c ∷ []))
put_page columns lines p q rows text c rendition graphic page low high here short column is = record {
  columns_are = is.columns ∙ page.columns_are;
  lines_are = is.lines ∙ page.lines_are;
  main = is.alternate ∙ page.main;
  top = is.top ∙ page.top;
  bottom = is.bottom ∙ page.bottom;
  many = length-set rows (p.line - 1) (text ++ c ∷ []) ∙ page.many;
  lines_long = ap length is.rows_are ∙ long (length p.rows) (λ line. if line == p.line then new else row_at p.rows line) ∙ page.lines_long;
  each = λ k from to. subst (λ l. HasText columns (row_at l k) (get_or (set rows (p.line - 1) (text ++ c ∷ [])) (k - 1) [])) (sym is.rows_are) (by k from to);
}
  where
    new : List Cell
    new = put_cell p.column c false rendition (row_at p.rows p.line)

    told_at : (k : ℕ) → 1 ≤ k → k ≤ lines → row_at (with_row p.line new p.rows) k ≡ (if k == p.line then new else row_at p.rows k)
    told_at k from to = told [] (length p.rows) (λ line. if line == p.line then new else row_at p.rows line) k from (omega (arith, to, page.lines_long))

    by : (k : ℕ) → 1 ≤ k → k ≤ lines → HasText columns (row_at (with_row p.line new p.rows) k) (get_or (set rows (p.line - 1) (text ++ c ∷ [])) (k - 1) [])
    by k from to = elim (cases_eq k p.line) [
      | inl same ↦
          let row_is : row_at (with_row p.line new p.rows) k ≡ new =
          told_at k from to ∙ ap (λ j. if j == p.line then new else row_at p.rows j) same ∙ itself p.line new (row_at p.rows p.line) in
          let text_is : get_or (set rows (p.line - 1) (text ++ c ∷ [])) (k - 1) [] ≡ text ++ c ∷ [] =
          ap (λ j. get_or (set rows (p.line - 1) (text ++ c ∷ [])) (j - 1) []) same
          ∙ get_or-set_same rows (p.line - 1) (text ++ c ∷ []) [] (omega (arith, low, high, page.many)) in
          subst (λ (r : List Cell). HasText columns r (get_or (set rows (p.line - 1) (text ++ c ∷ [])) (k - 1) [])) (sym row_is)
          (subst (HasText columns new) (sym text_is)
          (subst (λ at. HasText columns (put_cell at c false rendition (row_at p.rows p.line)) (text ++ c ∷ [])) (sym column)
          (letter_text columns (row_at p.rows p.line) text c rendition graphic (subst (HasText columns (row_at p.rows p.line)) here (page.each p.line low high)) short)))
      | inr ne ↦
          let row_is : row_at (with_row p.line new p.rows) k ≡ row_at p.rows k = told_at k from to ∙ apart k p.line new (row_at p.rows k) ne in
          let text_is : get_or (set rows (p.line - 1) (text ++ c ∷ [])) (k - 1) [] ≡ get_or rows (k - 1) [] =
          get_or-set_other rows (p.line - 1) (k - 1) (text ++ c ∷ []) [] (λ e. absurd (ne (omega (arith, e, from, low)))) in
          subst (λ (r : List Cell). HasText columns r (get_or (set rows (p.line - 1) (text ++ c ∷ [])) (k - 1) [])) (sym row_is)
          (subst (HasText columns (row_at p.rows k)) (sym text_is) (page.each k from to))
    ]

-- ---- what was typed

-- of what was typed these rows have left and these stand, the last of which is at the cursor
pub record Typed (columns lines : ℕ) (x : Transcribed) (gone rows done : List (List ℕ)) (now : List ℕ) : Type 0 where
  pub ground : x.term.sequence ≡ []
  pub none : x.term.character ≡ []
  pub title : x.term.console.title ≡ false
  pub modes : x.term.console.modes ≡ first_modes
  pub sets : x.term.console.sets ≡ first_sets
  pub low : 1 ≤ x.term.console.picture.line
  pub high : x.term.console.picture.line ≤ lines
  pub page : IsPage columns lines x.term.console.picture rows
  pub here : get_or rows (x.term.console.picture.line - 1) [] ≡ now
  pub column : length now < columns → (x.term.console.picture.column ≡ length now + 1) × (x.term.console.picture.wrap ≡ false)
  pub count : length gone + x.term.console.picture.line ≡ length done + 1
  pub all : gone ++ rows ≡ done ++ now ∷ replicate (lines - x.term.console.picture.line) []

set_behind : (gone rows : List (List ℕ)) (j : ℕ) (text : List ℕ) → set (gone ++ rows) (length gone + j) text ≡ gone ++ set rows j text
set_behind [] rows j text = let none : 0 + j ≡ j = omega arith in ap (λ i. set rows i text) none
set_behind (row ∷ gone) rows j text =
    let on : length (row ∷ gone) + j ≡ suc (length gone + j) = omega arith in
    ap (λ i. set (row ∷ gone ++ rows) i text) on ∙ ap (λ l. row ∷ l) (set_behind gone rows j text)

set_last : (done : List (List ℕ)) (now text : List ℕ) (rest : List (List ℕ)) → set (done ++ now ∷ rest) (length done) text ≡ done ++ text ∷ rest
set_last [] now text rest = refl
set_last (row ∷ done) now text rest = ap (λ l. row ∷ l) (set_last done now text rest)

on_made : (x : Transcribed) → x.term.sequence ≡ [] → x.term.character ≡ [] → x ≡ made x.term.console [] x.term.reports x.home
on_made x ground none = at_made x none ∙ ap (λ (p : List ℕ). made x.term.console p x.term.reports x.home) ground

as_it_is : (s : Console) (byte : ℕ) → s.sets ≡ first_sets → character_for s byte ≡ byte
unfolding character_of
as_it_is s byte sets = ap (λ (t : Sets). character_of (set_in_use t) byte) sets

-- a letter
record Letter (x y : Transcribed) (byte : ℕ) : Type 0 where
  ground : y.term.sequence ≡ []
  none : y.term.character ≡ []
  console : y.term.console ≡ shown_with false byte x.term.console
  left : (coming_at x byte).rows ≡ first_if (put_leaves byte x.term.console) x.term.console.picture

letter : (x : Transcribed) (byte : ℕ) → x.term.sequence ≡ [] → x.term.character ≡ [] → x.term.console.title ≡ false → x.term.console.sets ≡ first_sets
    → is_graphic byte ≡ true → Letter x (step_on x byte) byte
letter x byte ground none title sets graphic =
    let s = x.term.console in
    let is = as_it_is s byte sets in
    let at = on_made x ground none in
    let moved = ap (λ (y : Transcribed). step_on y byte) at ∙ graphic_step s x.term.reports x.home byte graphic title in
    let comes = ap (λ (y : Transcribed). coming_at y byte) at ∙ graphic_comes x.home s byte graphic title in
    record {
      ground = ap (λ (y : Transcribed). y.term.sequence) moved;
      none = ap (λ (y : Transcribed). y.term.character) moved;
      console = ap (λ (y : Transcribed). y.term.console) moved ∙ ap (λ c. put c s) is ∙ put_narrow byte s (narrow_here ascii_is_narrow byte graphic);
      left = ap (λ (c : Coming). c.rows) comes ∙ ap (λ c. first_if (put_leaves c s) s.picture) is;
    }

pub typed_letter : (columns lines : ℕ) (x : Transcribed) (gone rows done : List (List ℕ)) (now : List ℕ) (byte : ℕ) → Typed columns lines x gone rows done now
    → is_graphic byte ≡ true → length now < columns
    → Typed columns lines (step_on x byte) gone (set rows (x.term.console.picture.line - 1) (now ++ byte ∷ [])) done (now ++ byte ∷ [])
typed_letter columns lines x gone rows done now byte typed graphic short =
    let s = x.term.console in
    let p = s.picture in
    let text = now ++ byte ∷ [] in
    let free = typed.column short in
    let is = letter x byte typed.ground typed.none typed.title typed.sets graphic in
    let q = (step_on x byte).term.console.picture in
    let new = with_row p.line (put_cell p.column byte false s.rendition (row_at p.rows p.line)) p.rows in
    let q_is : q ≡ shown byte false s.rendition true false p =
    ap (λ (k : Console). k.picture) is.console ∙ ap (λ (m : Modes). shown byte false s.rendition m.autowrap m.insert p) typed.modes in
    let putting : Put p q new = subst (λ (r : Picture). Put p r new) (sym q_is)
    (letter_put s.rendition byte p free.1 typed.low (omega (arith, typed.high, typed.page.lines_long)) (omega (arith, free.0, short, typed.page.columns_are))) in
    let back : length gone + (p.line - 1) ≡ length done = omega (arith, typed.count, typed.low) in
    record {
      ground = is.ground;
      none = is.none;
      title = ap (λ (k : Console). k.title) is.console ∙ typed.title;
      modes = ap (λ (k : Console). k.modes) is.console ∙ typed.modes;
      sets = ap (λ (k : Console). k.sets) is.console ∙ typed.sets;
      low = omega (arith, putting.line, typed.low);
      high = omega (arith, putting.line, typed.high);
      page = put_page columns lines p q rows now byte s.rendition graphic typed.page typed.low typed.high typed.here short free.0 putting;
      here = ap (λ j. get_or (set rows (p.line - 1) text) (j - 1) []) putting.line
          ∙ get_or-set_same rows (p.line - 1) text [] (omega (arith, typed.low, typed.high, typed.page.many));
      column = λ more.
          let long_ = length-append now (byte ∷ []) in
          let beside = putting.beside (omega (arith, free.0, more, long_, typed.page.columns_are)) in
          (beside.0 ∙ omega (arith, free.0, long_), beside.1 ∙ free.1);
      count = omega (arith, putting.line, typed.count);
      all = sym (set_behind gone rows (p.line - 1) text) ∙ ap₂ (λ l j. set l j text) typed.all back
          ∙ set_last done now text (replicate (lines - p.line) []) ∙ ap (λ j. done ++ text ∷ replicate (lines - j) []) (sym putting.line);
    }

-- a text without a line end
pub record Text (columns lines : ℕ) (x : Transcribed) (gone done : List (List ℕ)) (now text : List ℕ) : Type 0 where
  pub rows : List (List ℕ)
  pub typed : Typed columns lines (play_on x text) gone rows done (now ++ text)
  pub none : left x text ≡ []

pub typed_text : (columns lines : ℕ) (x : Transcribed) (gone rows done : List (List ℕ)) (now text : List ℕ) → Typed columns lines x gone rows done now
    → list_all is_graphic text ≡ true → length now + length text ≤ columns → Text columns lines x gone done now text
unfolding play_on left
typed_text columns lines x gone rows done now [] typed graphic short = record {
  rows = rows;
  typed = subst (Typed columns lines x gone rows done) (sym (append-nil now)) typed;
  none = refl;
}
typed_text columns lines x gone rows done now (byte ∷ rest) typed graphic short =
    let s = x.term.console in
    let parts = and_parts (is_graphic byte) (list_all is_graphic rest) graphic in
    let room : length now < columns = omega (arith, short) in
    let free = typed.column room in
    let next = typed_text columns lines (step_on x byte) gone (set rows (s.picture.line - 1) (now ++ byte ∷ [])) done (now ++ byte ∷ []) rest
    (typed_letter columns lines x gone rows done now byte typed parts.0 room) parts.1 (omega (arith, short, length-append now (byte ∷ []))) in
    let is = letter x byte typed.ground typed.none typed.title typed.sets parts.0 in
    record {
      rows = next.rows;
      typed = subst (Typed columns lines (play_on (step_on x byte) rest) gone next.rows done) (append_assoc now (byte ∷ []) rest) next.typed;
      none = ap (λ l. l ++ left (step_on x byte) rest) (is.left ∙ ap (λ b. first_if b s.picture) (stays_put byte s parts.0 free.1)) ∙ next.none;
    }

-- ---- a line end

record Fed (p q : Picture) (rows : List (List Cell)) (line : ℕ) : Type 0 where
  rows_are : q.rows ≡ rows
  at : q.line ≡ line
  columns : q.columns ≡ p.columns
  lines : q.lines ≡ p.lines
  alternate : q.alternate ≡ p.alternate
  top : q.top ≡ p.top
  bottom : q.bottom ≡ p.bottom
  column : q.column ≡ 1
  wrap : q.wrap ≡ false

-- above the bottom, and there
fed_down : (paper : Colour) (p : Picture) → p.line ≢ p.bottom → p.line < p.lines → Fed p (indexed paper (moved_to_left p)) p.rows (p.line + 1)
fed_down paper p not_bottom above =
    let q = moved_to_left p in
    let least : min (p.line + 1) p.lines ≡ p.line + 1 = grind (arith, nat_tests, above) in
    let is : indexed paper q ≡ on_line (p.line + 1) q = rw (ne_eqb p.line p.bottom not_bottom) (ap (λ n. on_line n q) least) in
    subst (λ (r : Picture). Fed p r p.rows (p.line + 1)) (sym is) (record {
      rows_are = refl;
      at = refl;
      columns = refl;
      lines = refl;
      alternate = refl;
      top = refl;
      bottom = refl;
      column = refl;
      wrap = refl;
    })

abbrev raised : Colour → Picture → List (List Cell)
raised paper p = scrolled_up 1 p.top p.bottom (blank_row p.columns paper) p.rows

fed_up : (paper : Colour) (p : Picture) → p.line ≡ p.bottom → Fed p (indexed paper (moved_to_left p)) (raised paper p) p.line
fed_up paper p at_bottom =
    let q = moved_to_left p in
    let moved : Picture = record q { rows = raised paper p } in
    let is : indexed paper q ≡ on_line p.line moved = rw (eq-eqb p.line p.bottom at_bottom) refl in
    subst (λ (r : Picture). Fed p r (raised paper p) p.line) (sym is) (record {
      rows_are = refl;
      at = refl;
      columns = refl;
      lines = refl;
      alternate = refl;
      top = refl;
      bottom = refl;
      column = refl;
      wrap = refl;
    })

-- a control
record Controlled (x y : Transcribed) (byte : ℕ) : Type 0 where
  ground : y.term.sequence ≡ []
  none : y.term.character ≡ []
  console : y.term.console ≡ forgotten (effect_of control_effect (named controls byte) x.term.console)
  left : (coming_at x byte).rows ≡ rows_of (at_control (named controls byte) x.term.console.picture) x.term.console

controlled : (x : Transcribed) (byte : ℕ) → x.term.sequence ≡ [] → x.term.character ≡ [] → x.term.console.title ≡ false → is_within 8 15 byte ≡ true
    → Controlled x (step_on x byte) byte
unfolding play left leaving
controlled x byte ground none title within =
    let s = x.term.console in
    let at = on_made x ground none in
    let brings = (control_brings control_is_given s byte within title).played x.term.reports in
    let moved : (step_on x byte).term ≡ on_ground (forgotten (effect_of control_effect (named controls byte) s)) x.term.reports =
    ap (λ (y : Transcribed). (step_on y byte).term) at ∙ brings in
    let came = came_one s [] x.term.reports x.home byte (Some (Control byte)) title (low byte within) (control_is_given Ansi byte within).0 in
    record {
      ground = ap (λ (t : Term). t.sequence) moved;
      none = ap (λ (t : Term). t.character) moved;
      console = ap (λ (t : Term). t.console) moved;
      left = ap (λ (y : Transcribed). (coming_at y byte).rows) at ∙ sym (append-nil _) ∙ came.rows;
    }
  where
    low : (byte : ℕ) → is_within 8 15 byte ≡ true → (true && nat_le 128 byte) ≡ false
    low byte is = grind (arith, nat_tests)

-- CR and LF
record LineEnd (x : Transcribed) : Type 0 where
  ground : (play_on x (13 ∷ 10 ∷ [])).term.sequence ≡ []
  none : (play_on x (13 ∷ 10 ∷ [])).term.character ≡ []
  console : (play_on x (13 ∷ 10 ∷ [])).term.console ≡ forgotten (on_picture (λ p. indexed x.term.console.rendition.paper (moved_to_left p)) x.term.console)
  left : left x (13 ∷ 10 ∷ []) ≡ first_if (feed_leaves (moved_to_left x.term.console.picture)) (moved_to_left x.term.console.picture)

line_end : (x : Transcribed) → x.term.sequence ≡ [] → x.term.character ≡ [] → x.term.console.title ≡ false → x.term.console.modes ≡ first_modes → LineEnd x
unfolding play_on left
line_end x ground none title modes =
    let s = x.term.console in
    let y = step_on x 13 in
    let cr = controlled x 13 ground none title refl in
    let there : y.term.console ≡ forgotten (on_picture moved_to_left s) = cr.console in
    let lf = controlled y 10 cr.ground cr.none (ap (λ (k : Console). k.title) there ∙ title) refl in
    let fed : (step_on y 10).term.console ≡ forgotten (on_paper (line_fed s.modes.newline) (on_picture moved_to_left s)) =
    lf.console ∙ ap (λ (k : Console). forgotten (on_paper (line_fed k.modes.newline) k)) there in
    let left_is : (coming_at y 10).rows ≡ rows_of (leaving_first (feed_leaves y.term.console.picture)) y.term.console = lf.left in
    record {
      ground = lf.ground;
      none = lf.none;
      console = fed ∙ ap (λ (m : Modes). forgotten (on_paper (line_fed m.newline) (on_picture moved_to_left s))) modes;
      left = ap (λ l. l ++ ((coming_at y 10).rows ++ [])) cr.left ∙ append-nil (coming_at y 10).rows ∙ left_is
          ∙ first_is (feed_leaves y.term.console.picture) y.term.console
          ∙ ap (λ (k : Console). first_if (feed_leaves k.picture) k.picture) there;
    }

-- behind what left, and behind what was typed
behind : (gone rows : List (List ℕ)) (j : ℕ) → get_or (gone ++ rows) (length gone + j) [] ≡ get_or rows j []
behind [] rows j = let none : 0 + j ≡ j = omega arith in ap (λ i. get_or rows i []) none
behind (row ∷ gone) rows j =
    let on : length (row ∷ gone) + j ≡ suc (length gone + j) = omega arith in
    ap (λ i. get_or (row ∷ gone ++ rows) i []) on ∙ behind gone rows j

blank_behind : (done : List (List ℕ)) (now : List ℕ) (m : ℕ) → get_or (done ++ now ∷ replicate m []) (length done + 1) [] ≡ []
blank_behind [] now zero = refl
blank_behind [] now (suc m) = refl
blank_behind (row ∷ done) now m =
    let on : length (row ∷ done) + 1 ≡ suc (length done + 1) = omega arith in
    ap (λ i. get_or (row ∷ done ++ now ∷ replicate m []) i []) on ∙ blank_behind done now m

fed_page : (columns lines : ℕ) (p q : Picture) (rows : List (List ℕ)) (line : ℕ) → IsPage columns lines p rows → Fed p q p.rows line → IsPage columns lines q rows
fed_page columns lines p q rows line page fed = record {
  columns_are = fed.columns ∙ page.columns_are;
  lines_are = fed.lines ∙ page.lines_are;
  main = fed.alternate ∙ page.main;
  top = fed.top ∙ page.top;
  bottom = fed.bottom ∙ page.bottom;
  many = page.many;
  lines_long = ap length fed.rows_are ∙ page.lines_long;
  each = λ k low high. subst (λ l. HasText columns (row_at l k) (get_or rows (k - 1) [])) (sym fed.rows_are) (page.each k low high);
}

pub blank_text : (columns : ℕ) (paper : Colour) → HasText columns (blank_row columns paper) []
blank_text columns paper = record {
  whole = long columns (λ _. blank paper);
  short = omega arith;
  graphic = refl;
  each = λ k low high. subst (λ (c : Cell). IsGlyph c 32) (sym (told (blank Default) columns (λ _. blank paper) k low high)) (glyph_blank paper);
}

scrolled_page : (columns lines : ℕ) (paper : Colour) (p q : Picture) (row : List ℕ) (rows : List (List ℕ)) (line : ℕ) → IsPage columns lines p (row ∷ rows)
    → Fed p q (raised paper p) line → IsPage columns lines q (rows ++ [] ∷ [])
scrolled_page columns lines paper p q row rows line page fed = record {
  columns_are = fed.columns ∙ page.columns_are;
  lines_are = fed.lines ∙ page.lines_are;
  main = fed.alternate ∙ page.main;
  top = fed.top ∙ page.top;
  bottom = fed.bottom ∙ page.bottom;
  many = omega (arith, length-append rows ([] ∷ []), page.many);
  lines_long = ap length fed.rows_are ∙ long (length p.rows) _ ∙ page.lines_long;
  each = λ k low high. subst (λ l. HasText columns (row_at l k) (get_or (rows ++ [] ∷ []) (k - 1) [])) (sym fed.rows_are) (by k low high);
}
  where
    by : (k : ℕ) → 1 ≤ k → k ≤ lines → HasText columns (row_at (raised paper p) k) (get_or (rows ++ [] ∷ []) (k - 1) [])
    by k low high = elim (cases_lt k lines) [
      | inl lt ↦
          let top = page.top in
          let bottom = page.bottom in
          let row_is : row_at (raised paper p) k ≡ row_at p.rows (k + 1) =
          told [] (length p.rows) _ k low (omega (arith, high, page.lines_long)) ∙ grind (arith, nat_tests, top, bottom) in
          let text_is : get_or (rows ++ [] ∷ []) (k - 1) [] ≡ get_or (row ∷ rows) (k + 1 - 1) [] = grind (arith, elements, page.many) in
          subst (λ (r : List Cell). HasText columns r (get_or (rows ++ [] ∷ []) (k - 1) [])) (sym row_is)
          (subst (HasText columns (row_at p.rows (k + 1))) (sym text_is) (page.each (k + 1) (omega arith) (omega (arith, lt))))
      | inr last ↦
          let top = page.top in
          let bottom = page.bottom in
          let row_is : row_at (raised paper p) k ≡ blank_row p.columns paper =
          told [] (length p.rows) _ k low (omega (arith, high, page.lines_long)) ∙ grind (arith, nat_tests, top, bottom) in
          let at : length rows ≡ k - 1 = omega (arith, last, high, page.many) in
          subst (λ (r : List Cell). HasText columns r (get_or (rows ++ [] ∷ []) (k - 1) [])) (sym row_is)
          (subst (HasText columns (blank_row p.columns paper)) (sym (get_or_push rows [] [] (k - 1) at))
          (subst (λ n. HasText columns (blank_row n paper) []) (sym page.columns_are) (blank_text columns paper)))
    ]

-- what leaves at the line feed
feed_none : (p : Picture) → p.line ≢ p.bottom → first_if (feed_leaves (moved_to_left p)) (moved_to_left p) ≡ []
feed_none p ne = ap (λ b. first_if (b && (p.top == 1) && not p.alternate) (moved_to_left p)) (ne_eqb p.line p.bottom ne)

first_told : (l : List (List Cell)) (n : ℕ) → length l ≡ suc n → take 1 (map row_printed l) ≡ row_printed (row_at l 1) ∷ []
unfolding nth
first_told [] n is = absurd (omega (arith, is))
first_told (row ∷ l) n is = refl

feed_first : (p : Picture) (n : ℕ) → p.line ≡ p.bottom → p.top ≡ 1 → p.alternate ≡ false → length p.rows ≡ suc n
    → first_if (feed_leaves (moved_to_left p)) (moved_to_left p) ≡ row_printed (row_at p.rows 1) ∷ []
feed_first p n at top main many =
    ap (λ b. first_if (b && (p.top == 1) && not p.alternate) (moved_to_left p)) (eq-eqb p.line p.bottom at)
    ∙ ap (λ t. first_if ((t == 1) && not p.alternate) (moved_to_left p)) top
    ∙ ap (λ b. first_if (not b) (moved_to_left p)) main
    ∙ ap (λ b. take 1 (map row_printed (if b then p.other else p.rows))) main
    ∙ first_told p.rows n many

pub record Ended (columns lines : ℕ) (x : Transcribed) (gone done : List (List ℕ)) (now : List ℕ) : Type 0 where
  pub rows : List (List ℕ)
  pub away : List (List ℕ)
  pub typed : Typed columns lines (play_on x (13 ∷ 10 ∷ [])) (gone ++ away) rows (done ++ now ∷ []) []
  pub left_is : left x (13 ∷ 10 ∷ []) ≡ map without_spaces away

module _ (columns lines : ℕ) (some : 1 ≤ columns) (x : Transcribed) (gone rows done : List (List ℕ)) (now : List ℕ)
    (typed : Typed columns lines x gone rows done now) where
  abbrev p : Picture
  p = x.term.console.picture

  abbrev paper : Colour
  paper = x.term.console.rendition.paper

  abbrev z : Transcribed
  z = play_on x (13 ∷ 10 ∷ [])

  ends : LineEnd x
  ends = line_end x typed.ground typed.none typed.title typed.modes

  q_is : z.term.console.picture ≡ indexed paper (moved_to_left p)
  q_is = ap (λ (k : Console). k.picture) ends.console

  ended_above : p.line < lines → Ended columns lines x gone done now
  ended_above lt =
      let not_bottom : p.line ≢ p.bottom = λ e. absurd (omega (arith, e, lt, typed.page.bottom)) in
      let fed : Fed p z.term.console.picture p.rows (p.line + 1) =
      subst (λ (q : Picture). Fed p q p.rows (p.line + 1)) (sym q_is) (fed_down paper p not_bottom (omega (arith, lt, typed.page.lines_are))) in
      let long_ = length-append done (now ∷ []) in
      let left_below : lines - p.line ≡ suc (lines - z.term.console.picture.line) = omega (arith, lt, fed.at) in
      record {
        rows = rows;
        away = [];
        typed = record {
          ground = ends.ground;
          none = ends.none;
          title = ap (λ (k : Console). k.title) ends.console ∙ typed.title;
          modes = ap (λ (k : Console). k.modes) ends.console ∙ typed.modes;
          sets = ap (λ (k : Console). k.sets) ends.console ∙ typed.sets;
          low = omega (arith, fed.at);
          high = omega (arith, fed.at, lt);
          page = fed_page columns lines p z.term.console.picture rows (p.line + 1) typed.page fed;
          here =
              let at : z.term.console.picture.line - 1 ≡ p.line = omega (arith, fed.at) in
              ap (λ j. get_or rows j []) at ∙ sym (behind gone rows p.line) ∙ ap₂ (λ l j. get_or l j []) typed.all typed.count
              ∙ blank_behind done now (lines - p.line);
          column = λ more. (fed.column ∙ omega arith, fed.wrap);
          count = omega (arith, fed.at, typed.count, long_, length-append gone []);
          all = ap (λ l. l ++ rows) (append-nil gone) ∙ typed.all ∙ ap (λ m. done ++ now ∷ replicate m []) left_below
              ∙ sym (append_assoc done (now ∷ []) ([] ∷ replicate (lines - z.term.console.picture.line) []));
        };
        left_is = ends.left ∙ feed_none p not_bottom;
      }

  ended_last : (row : List ℕ) (below : List (List ℕ)) → rows ≡ row ∷ below → p.line ≡ lines → Ended columns lines x gone done now
  ended_last row below is last =
      let page : IsPage columns lines p (row ∷ below) = subst (IsPage columns lines p) is typed.page in
      let at_bottom : p.line ≡ p.bottom = last ∙ sym typed.page.bottom in
      let fed : Fed p z.term.console.picture (raised paper p) p.line =
      subst (λ (q : Picture). Fed p q (raised paper p) p.line) (sym q_is) (fed_up paper p at_bottom) in
      let first : row_printed (row_at p.rows 1) ≡ without_spaces row =
      row_text columns (row_at p.rows 1) row (page.each 1 (omega arith) (omega (arith, last, typed.low))) in
      let long_ = length-append done (now ∷ []) in
      let none_below : lines - p.line ≡ 0 = omega (arith, last) in
      let none_left : lines - z.term.console.picture.line ≡ 0 = omega (arith, last, fed.at) in
      record {
        rows = below ++ [] ∷ [];
        away = row ∷ [];
        typed = record {
          ground = ends.ground;
          none = ends.none;
          title = ap (λ (k : Console). k.title) ends.console ∙ typed.title;
          modes = ap (λ (k : Console). k.modes) ends.console ∙ typed.modes;
          sets = ap (λ (k : Console). k.sets) ends.console ∙ typed.sets;
          low = omega (arith, fed.at, typed.low);
          high = omega (arith, fed.at, typed.high);
          page = scrolled_page columns lines paper p z.term.console.picture row below p.line page fed;
          here = get_or_push below [] [] (z.term.console.picture.line - 1) (omega (arith, fed.at, last, page.many));
          column = λ more. (fed.column ∙ omega arith, fed.wrap);
          count = omega (arith, fed.at, typed.count, long_, length-append gone (row ∷ []));
          all = append_assoc gone (row ∷ []) (below ++ [] ∷ []) ∙ sym (append_assoc gone (row ∷ below) ([] ∷ []))
              ∙ ap (λ l. (gone ++ l) ++ [] ∷ []) (sym is) ∙ ap (λ l. l ++ [] ∷ []) typed.all
              ∙ ap (λ m. (done ++ now ∷ replicate m []) ++ [] ∷ []) none_below
              ∙ ap (λ m. (done ++ now ∷ []) ++ [] ∷ replicate m []) (sym none_left);
        };
        left_is = ends.left
            ∙ feed_first p (length below) at_bottom typed.page.top typed.page.main (omega (arith, typed.page.lines_long, page.many)) ∙ ap (λ r. r ∷ []) first;
      }

  first_row : (l : List (List ℕ)) → rows ≡ l → p.line ≡ lines → Ended columns lines x gone done now
  first_row [] is last = absurd (omega (arith, typed.page.many, ap length is, last, typed.low))
  first_row (row ∷ below) is last = ended_last row below is last

  pub typed_end : Ended columns lines x gone done now
  typed_end = elim (cases_lt p.line lines) [
    | inl lt ↦ ended_above lt
    | inr high ↦ first_row rows refl (omega (arith, high, typed.high))
  ]

-- ---- lines

pub record Lines (columns lines : ℕ) (x : Transcribed) (gone done texts : List (List ℕ)) (bytes : List ℕ) : Type 0 where
  pub rows : List (List ℕ)
  pub away : List (List ℕ)
  pub front : List (List ℕ)
  pub last : List ℕ
  pub typed : Typed columns lines (play_on x bytes) (gone ++ away) rows front last
  pub split : front ++ last ∷ [] ≡ done ++ texts
  pub left_is : left x bytes ≡ map without_spaces away

pub typed_lines : (columns lines : ℕ) → 1 ≤ columns → (x : Transcribed) (gone rows done : List (List ℕ)) (line : List ℕ) (rest : List (List ℕ))
    → Typed columns lines x gone rows done [] → IsPlainLine columns line → AllByRecursion (IsPlainLine columns) rest
    → Lines columns lines x gone done (line ∷ rest) (with_line_ends line rest)
typed_lines columns lines some x gone rows done line [] typed plain others =
    let text = typed_text columns lines x gone rows done [] line typed plain.graphic (omega (arith, plain.short)) in
    record {
      rows = text.rows;
      away = [];
      front = done;
      last = line;
      typed = subst (λ g. Typed columns lines (play_on x line) g text.rows done line) (sym (append-nil gone)) text.typed;
      split = refl;
      left_is = text.none;
    }
typed_lines columns lines some x gone rows done line (next ∷ rest) typed plain others =
    let text = typed_text columns lines x gone rows done [] line typed plain.graphic (omega (arith, plain.short)) in
    let y = play_on x line in
    let ended = typed_end columns lines some y gone text.rows done line text.typed in
    let z = play_on y (13 ∷ 10 ∷ []) in
    let more = typed_lines columns lines some z (gone ++ ended.away) ended.rows (done ++ line ∷ []) next rest ended.typed others.0 others.1 in
    let bytes = with_line_ends next rest in
    let all : play_on x (with_line_ends line (next ∷ rest)) ≡ play_on z bytes =
    plays_parts x line (13 ∷ 10 ∷ bytes) ∙ plays_parts y (13 ∷ 10 ∷ []) bytes in
    record {
      rows = more.rows;
      away = ended.away ++ more.away;
      front = more.front;
      last = more.last;
      typed = subst (λ (t : Transcribed). Typed columns lines t (gone ++ (ended.away ++ more.away)) more.rows more.front more.last) (sym all)
          (subst (λ g. Typed columns lines (play_on z bytes) g more.rows more.front more.last) (append_assoc gone ended.away more.away) more.typed);
      split = more.split ∙ append_assoc done (line ∷ []) (next ∷ rest);
      left_is = left_parts x line (13 ∷ 10 ∷ bytes) ∙ ap (λ l. l ++ left y (13 ∷ 10 ∷ bytes)) text.none
          ∙ left_parts y (13 ∷ 10 ∷ []) bytes ∙ ap₂ (λ (l m : List (List ℕ)). l ++ m) ended.left_is more.left_is
          ∙ sym (map-append without_spaces ended.away more.away);
    }

-- ---- the whole

blank_first : (n : ℕ) (row : List ℕ) → 1 ≤ n → replicate n row ≡ row ∷ replicate (n - 1) row
blank_first zero row low = absurd (omega (arith, low))
blank_first (suc n) row low = let less : suc n - 1 ≡ n = omega arith in ap (λ m. row ∷ replicate m row) (sym less)

-- a reset terminal is a page on which nothing was typed
pub typed_nothing : (size : Size) → IsSize size.columns size.lines → Typed size.columns size.lines (reset_of size) [] (replicate size.lines []) [] []
typed_nothing size is = record {
  ground = refl;
  none = refl;
  title = refl;
  modes = refl;
  sets = refl;
  low = omega arith;
  high = is.lines_low;
  page = record {
    columns_are = refl;
    lines_are = refl;
    main = refl;
    top = refl;
    bottom = refl;
    many = length-replicate size.lines [];
    lines_long = long size.lines (λ _. blank_row size.columns Default);
    each = λ k low high.
        subst (λ (r : List Cell). HasText size.columns r (get_or (replicate size.lines []) (k - 1) []))
        (sym (told [] size.lines (λ _. blank_row size.columns Default) k low high))
        (subst (HasText size.columns (blank_row size.columns Default)) (sym (get_or-replicate size.lines (k - 1) [] [] (omega (arith, low, high))))
        (blank_text size.columns Default));
  };
  here = get_or-replicate size.lines 0 [] [] is.lines_low;
  column = λ some. (refl, refl);
  count = refl;
  all = blank_first size.lines [] is.lines_low;
}

-- the rows that stand on a page
same_rows : (xs ys : List (List ℕ)) → length xs ≡ length ys → ((k : ℕ) → k < length xs → get_or xs k [] ≡ get_or ys k []) → xs ≡ ys
same_rows [] [] long_ each = refl
same_rows [] (y ∷ ys) long_ each = absurd (omega (arith, long_))
same_rows (x ∷ xs) [] long_ each = absurd (omega (arith, long_))
same_rows (x ∷ xs) (y ∷ ys) long_ each =
    ap₂ (λ (a : List ℕ) (l : List (List ℕ)). a ∷ l) (each 0 (omega arith)) (same_rows xs ys (omega (arith, long_)) (λ k lt. each (suc k) (omega (arith, lt))))

pub page_rows : (columns lines : ℕ) (p : Picture) (rows : List (List ℕ)) → IsPage columns lines p rows → all_rows p ≡ map without_spaces rows
page_rows columns lines p rows page =
    let one : length (map row_printed p.rows) ≡ lines = length-map p.rows row_printed ∙ page.lines_long in
    let two : length (map without_spaces rows) ≡ lines = length-map rows without_spaces ∙ page.many in
    ap (λ b. map row_printed (if b then p.other else p.rows)) page.main
    ∙ same_rows (map row_printed p.rows) (map without_spaces rows) (one ∙ sym two) (λ k lt.
    let there : suc k - 1 ≡ k = omega arith in
    get_or-map row_printed p.rows k [] [] (omega (arith, lt, one, page.lines_long))
    ∙ ap row_printed (sym (nth_is [] p.rows k))
    ∙ row_text columns (row_at p.rows (suc k)) (get_or rows (suc k - 1) []) (page.each (suc k) (omega arith) (omega (arith, lt, one)))
    ∙ ap (λ j. without_spaces (get_or rows j [])) there
    ∙ sym (get_or-map without_spaces rows k [] [] (omega (arith, lt, one, page.many))))

blank_rest : (rows : List (List ℕ)) (n : ℕ) → text_of (rows ++ replicate n []) ≡ text_of rows
blank_rest rows zero = ap text_of (append-nil rows)
blank_rest rows (suc n) =
    ap text_of (sym (append_assoc rows ([] ∷ []) (replicate n []))) ∙ blank_rest (rows ++ [] ∷ []) n ∙ text_blank rows

blank_lines : (n : ℕ) → map without_spaces (replicate n []) ≡ replicate n []
blank_lines zero = refl
blank_lines (suc n) = ap (λ l. [] ∷ l) (blank_lines n)

pub comes_out : PlainTextComesOut
unfolding transcript left_between standing_rows left text_of play_on
comes_out size line rest tape sized plain others is =
    let bytes = with_line_ends line rest in
    let all = typed_lines size.columns size.lines (omega (arith, sized.columns_low)) (reset_of size) [] (replicate size.lines []) [] line rest (typed_nothing size sized) plain
    (recursion_from_All (IsPlainLine size.columns) rest others) in
    let p = (play_on (reset_of size) bytes).term.console.picture in
    let below = size.lines - p.line in
    let stands = page_rows size.columns size.lines p all.rows all.typed.page in
    let rows : all.away ++ all.rows ≡ (line ∷ rest) ++ replicate below [] =
    all.typed.all ∙ sym (append_assoc all.front (all.last ∷ []) (replicate below [])) ∙ ap (λ l. l ++ replicate below []) all.split in
    ap (λ b. text_of (leaving_rows size [] b ++ standing_rows size b)) is
    ∙ ap₂ (λ (l m : List (List ℕ)). text_of (l ++ m)) all.left_is stands
    ∙ ap text_of (sym (map-append without_spaces all.away all.rows) ∙ ap (map without_spaces) rows ∙ map-append without_spaces (line ∷ rest) (replicate below [])
    ∙ ap (λ l. map without_spaces (line ∷ rest) ++ l) (blank_lines below))
    ∙ blank_rest (map without_spaces (line ∷ rest)) below
