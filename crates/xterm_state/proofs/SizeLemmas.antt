-- How long the state text is.
use Rattle.std.proofs.Common.{◌≡◌, ℕ, zero, suc, ◌+◌, ◌-◌, ◌*◌, ◌≤◌, Bool, true, false, List, [], ◌∷◌, ◌++◌, length, take, get_or, encode_utf8, refl, sym, ap, subst, ◌∙◌, add-one, lit<, arith}
use Rattle.std.specs.Prelude.{codes, decimal, Option, Some, None, not, nat_lt, if◌then◌else◌}
use Rattle.std.specs.List.{count_by, flat_map}
use Rattle.std.proofs.Math.Dec.{lit≤}
use Rattle.std.proofs.lemmas.Fmt.{length-decimal-le}
use Rattle.std.proofs.lemmas.List.{length-append, take_all}
use Rattle.std.proofs.lemmas.List.Sums.{count_by_more_yes, count_by_more_no}
use Rattle.std.proofs.lemmas.Str.{length-encode, len_utf8_bounds}
use Rattle.characters.specs.Utf8.{IsFront}
use Rattle.vt_parser.specs.declared.commands.Mode.TheVariants.{Ansi}
use Rattle.vt_parser.specs.Syntax.{escape}
use Rattle.parser_state.proofs.SizeLemmas.{Short, both, literally, pending_is_short, weaken, where_is_short}
use Rattle.sheet.specs.declared.rendition.Colour.{Colour}
use Rattle.sheet.specs.declared.rendition.Colour.TheVariants.{Default, Palette, Direct}
use Rattle.sheet.specs.declared.rendition.Rendition.{Rendition}
use Rattle.sheet.specs.Cells.{Cell, is_covered, is_wide}
use Rattle.sheet.specs.Table.{nth}
use Rattle.xterm_rows.specs.RowText.{characters, printed}
use Rattle.xterm_screen.specs.Picture.{Picture}
use Rattle.xterm_screen.specs.Tabs.{stop_at}
use Rattle.xterm_term.specs.declared.modes.Modes.{Modes}
use Rattle.xterm_term.specs.declared.saved.Saved.{Saved}
use Rattle.xterm_term.specs.declared.sets.Sets.{Sets}
use Rattle.xterm_term.specs.Console.{Console, IsSafe}
use Rattle.xterm_term.specs.Law.{StaysSafe}
use Rattle.xterm_term.specs.Replies.{reported_line}
use Rattle.xterm_term.specs.Sets.{first_sets}
use Rattle.xterm_term.specs.Size.{IsSize}
use Rattle.xterm_term.specs.Term.{Term, reset_term}
use Rattle.xterm_escaped.specs.EscapedText as escaped_specs
use Rattle.xterm_escaped.specs.EscapedText.{attributes_text, colour_text, escaped_text, is_told, letters_text, lines_text, no_rendition, paper_text, placed_text, rendition_set_text, text_where}
use Rattle.xterm_escaped.proofs.Cells.{IsByteRendition, LawsBelow}
use Rattle.xterm_escaped.proofs.Colours.{IsByteColour}
use Rattle.xterm_escaped.proofs.Fitting.{IsCell}
use Rattle.xterm_escaped.proofs.FittingTerms.{FitLaws, IsSavedRendition}
use Rattle.xterm_escaped.proofs.Tables.{nth_next}
use Rattle.xterm_state.specs.StateText.{again_text, anew_text, begin_of, canvas_text, cell_of, closing_text, column_text, cursor_text, in_force_text, last_column, last_text, modes_text, saved_text, sets_of, sets_text, sheet_text, sheets_text, state_text, stop_text, stops_text, stops_to, taken_out_text, wrapped_text}
use Rattle.xterm_state.specs.Remade.{StateTextIsShort, turned}
use Rattle.xterm_state.proofs.Comes.{Whole, whole_of_reset}
use Rattle.xterm_state.proofs.Reached.{IsSavedIn}

-- ---- numbers, places and renditions

number_short : (n : ℕ) → n ≤ 9999 → Short (decimal n) 4
number_short n small = record { fits = length-decimal-le 4 n (lit< tt) (omega arith) (omega arith) }

byte_short : (n : ℕ) → n ≤ 255 → Short (decimal n) 3
byte_short n small = record { fits = length-decimal-le 3 n (lit< tt) (omega arith) (omega arith) }

-- two numbers between brackets
pair_short : (one other last : ℕ) → one ≤ 9999 → other ≤ 9999 → Short (escape ∷ codes "[" ++ decimal one ++ codes ";" ++ decimal other ++ last ∷ []) 12
pair_short one other last low high =
    weaken 12
    (both (both (both (both (literally (escape ∷ codes "[") 2 (lit≤ tt)) (number_short one low)) (literally (codes ";") 1 (lit≤ tt))) (number_short other high)) (literally (last ∷ []) 1 (lit≤ tt)))
    (lit≤ tt)

placed_short : (line column : ℕ) → line ≤ 9999 → column ≤ 9999 → Short (placed_text line column) 12
unfolding placed_text
placed_short line column low high = pair_short line column 72 low high

either_short : (b : Bool) (one two : List ℕ) (n : ℕ) → Short one n → Short two n → Short (if b then one else two) n
either_short true one two n first second = first
either_short false one two n first second = second

colour_short : (base : ℕ) (colour : Colour) → base ≤ 40 → IsByteColour colour → Short (colour_text base colour) 17
unfolding colour_text
colour_short base Default low is = record { fits = lit≤ tt }
colour_short base (Palette n) low is =
    either_short (nat_lt n 8) (decimal (base + n)) _ 17 (weaken 17 (number_short (base + n) (omega (arith, is))) (lit≤ tt))
    (either_short (nat_lt n 16) (decimal (base + 52 + n)) _ 17 (weaken 17 (number_short (base + 52 + n) (omega (arith, is))) (lit≤ tt))
    (weaken 17 (both (both (byte_short (base + 8) (omega arith)) (literally (codes ";5;") 3 (lit≤ tt))) (byte_short n is)) (lit≤ tt)))
colour_short base (Direct red green blue) low is =
    weaken 17
    (both (both (both (both (both (both (byte_short (base + 8) (omega arith)) (literally (codes ";2;") 3 (lit≤ tt))) (byte_short red is.0)) (literally (codes ";") 1 (lit≤ tt)))
    (byte_short green is.1)) (literally (codes ";") 1 (lit≤ tt))) (byte_short blue is.2))
    (lit≤ tt)

attributes_short : (r : Rendition) → Short (attributes_text r) 16
unfolding attributes_text
attributes_short r =
    weaken 16
    (both (both (both (both (both (both (both
    (where_is_short r.bold (codes ";1") 2 (lit≤ tt))
    (where_is_short r.faint (codes ";2") 2 (lit≤ tt)))
    (where_is_short r.italic (codes ";3") 2 (lit≤ tt)))
    (where_is_short r.underscore (codes ";4") 2 (lit≤ tt)))
    (where_is_short r.blink (codes ";5") 2 (lit≤ tt)))
    (where_is_short r.reverse (codes ";7") 2 (lit≤ tt)))
    (where_is_short r.concealed (codes ";8") 2 (lit≤ tt)))
    (where_is_short r.crossed_out (codes ";9") 2 (lit≤ tt)))
    (lit≤ tt)

rendition_short : (r : Rendition) → IsByteRendition r → Short (rendition_set_text r) 60
unfolding rendition_set_text letters_text
rendition_short r is =
    let ink = both (literally (codes ";") 1 (lit≤ tt)) (colour_short 30 r.ink (lit≤ tt) is.ink) in
    let paper = both (both (literally (escape ∷ codes "[") 2 (lit≤ tt)) (colour_short 40 r.paper (lit≤ tt) is.paper)) (literally (codes "m") 1 (lit≤ tt)) in
    weaken 60
    (both (both (both (both (literally (escape ∷ codes "[0") 3 (lit≤ tt)) (attributes_short r)) (where_is_short (is_told r.ink) _ 18 ink.fits)) (literally (codes "m") 1 (lit≤ tt)))
    (where_is_short (is_told r.paper) _ 20 paper.fits))
    (lit≤ tt)

-- ---- a cell

character_short : (c : ℕ) → Short (encode_utf8 c) 4
character_short c = record { fits = let bounds = len_utf8_bounds c in omega (arith, length-encode c, bounds.1) }

characters_short : (cs : List ℕ) → length (flat_map encode_utf8 cs) ≤ 4 * length cs
characters_short [] = lit≤ tt
characters_short (c ∷ cs) = omega (arith, characters_short cs, (character_short c).fits, length-append (encode_utf8 c) (flat_map encode_utf8 cs))

printed_short : (cell : Cell) → IsCell cell → Short (printed cell) 12
unfolding printed characters
printed_short cell is = by_covered (is_covered cell) refl
  where
    by_covered : (b : Bool) → is_covered cell ≡ b → Short (flat_map encode_utf8 (if b then [] else cell.character ∷ cell.marks)) 12
    by_covered true covered = record { fits = lit≤ tt }
    by_covered false open_ = record { fits = let few = (is.letter open_).few in omega (arith, characters_short (cell.character ∷ cell.marks)) }

-- ---- the tab stops

abbrev stops_in : List Bool → ℕ → ℕ
stops_in tabs n = count_by (λ stop. stop) (take n tabs)

stop_short : (tabs : List Bool) (n : ℕ) (stops : Bool) → stop_at tabs (suc n) ≡ stops → suc n ≤ length tabs → suc n ≤ 9999
    → length (stops_to tabs n) ≤ 16 * stops_in tabs n
    → length (stops_to tabs n ++ text_where stops (stop_text (suc n))) ≤ 16 * stops_in tabs (suc n)
stop_short tabs n true is within small before =
    let here : get_or tabs n false ≡ true = sym (nth_next false tabs n) ∙ ap (nth false tabs) (add-one n) ∙ is in
    let more = count_by_more_yes (λ stop. stop) tabs n false (omega arith) here in
    let now : stops_in tabs (suc n) ≡ stops_in tabs n + 1 = subst (λ (k : ℕ). stops_in tabs k ≡ stops_in tabs n + 1) (add-one n) more in
    let text : Short (stop_text (suc n)) 16 = weaken 16 (both (placed_short 1 (suc n) (lit≤ tt) small) (literally (escape ∷ codes "H") 2 (lit≤ tt))) (lit≤ tt) in
    omega (arith, before, now, text.fits, length-append (stops_to tabs n) (stop_text (suc n)))
stop_short tabs n false is within small before =
    let here : get_or tabs n false ≡ false = sym (nth_next false tabs n) ∙ ap (nth false tabs) (add-one n) ∙ is in
    let more = count_by_more_no (λ stop. stop) tabs n false (omega arith) here in
    let now : stops_in tabs (suc n) ≡ stops_in tabs n = subst (λ (k : ℕ). stops_in tabs k ≡ stops_in tabs n) (add-one n) more in
    omega (arith, before, now, length-append (stops_to tabs n) [])

stops_short : (tabs : List Bool) (n : ℕ) → n ≤ length tabs → n ≤ 9999 → length (stops_to tabs n) ≤ 16 * stops_in tabs n
unfolding stops_to
stops_short tabs zero within small = omega arith
stops_short tabs (suc n) within small = stop_short tabs n (stop_at tabs (suc n)) refl within small (stops_short tabs n (omega arith) (omega arith))

all_stops_short : (tabs : List Bool) (columns : ℕ) → length tabs ≡ columns → columns ≤ 9999 → Short (stops_text columns tabs) (16 * count_by (λ stop. stop) tabs + 4)
all_stops_short tabs columns whole few =
    let stops : length (stops_to tabs columns) ≤ 16 * count_by (λ stop. stop) tabs =
    subst (λ (l : List Bool). length (stops_to tabs columns) ≤ 16 * count_by (λ stop. stop) l) (take_all columns tabs (omega arith)) (stops_short tabs columns (omega arith) few) in
    record { fits = omega (arith, length-append (escape ∷ codes "[3g") (stops_to tabs columns)) }

-- ---- the sheets

sets_short : (sets : Sets) → Short (sets_text sets) 7
sets_short sets = record { fits = lit≤ tt }

in_force_short : (r : Rendition) (sets : Sets) → IsByteRendition r → Short (in_force_text r sets) 67
in_force_short r sets is = weaken 67 (both (rendition_short r is) (sets_short sets)) (lit≤ tt)

saved_short : (columns lines : ℕ) (save : Option Saved) → columns ≤ 9999 → lines ≤ 9999 → IsSavedIn columns lines save → IsSavedRendition save → Short (saved_text save) 87
saved_short columns lines None wide long is colours = record { fits = lit≤ tt }
saved_short columns lines (Some save) wide long is colours =
    weaken 87
    (both (both (both (both (where_is_short save.origin (escape ∷ codes "[?6h") 5 (lit≤ tt))
    (placed_short save.line save.column (omega (arith, is.0)) (omega (arith, is.1))))
    (where_is_short save.wrap (codes " ") 1 (lit≤ tt)))
    (in_force_short save.rendition (sets_of save) colours))
    (literally (escape ∷ codes "7") 2 (lit≤ tt)))
    (lit≤ tt)

plain_is : IsByteRendition no_rendition
plain_is = record { ink = tt; paper = tt }

canvas_short : Short canvas_text 72
canvas_short = weaken 72 (both (literally (escape ∷ codes "[?6l") 5 (lit≤ tt)) (in_force_short no_rendition first_sets plain_is)) (lit≤ tt)

sheet_short : (save : Option Saved) (rows : List (List Cell)) → Short (saved_text save) 87 → Short (sheet_text save rows) (159 + length (lines_text no_rendition 1 rows))
sheet_short save rows short = weaken _ (both (both short canvas_short) (literally (lines_text no_rendition 1 rows) (length (lines_text no_rendition 1 rows)) (omega arith))) (omega arith)

-- ---- behind them

reported_small : (origin : Bool) (line top : ℕ) → line ≤ 9999 → reported_line origin line top ≤ 9999
reported_small true line top small = omega arith
reported_small false line top small = small

modes_short : (m : Modes) → Short (modes_text m) 40
modes_short m =
    weaken 40
    (both (both (both (both (both (both
    (where_is_short m.cursor_keys (escape ∷ codes "[?1h") 5 (lit≤ tt))
    (where_is_short m.reverse_screen (escape ∷ codes "[?5h") 5 (lit≤ tt)))
    (where_is_short (not m.autowrap) (escape ∷ codes "[?7l") 5 (lit≤ tt)))
    (where_is_short (not m.cursor_shown) (escape ∷ codes "[?25l") 6 (lit≤ tt)))
    (where_is_short m.newline (escape ∷ codes "[20h") 5 (lit≤ tt)))
    (where_is_short m.insert (escape ∷ codes "[4h") 4 (lit≤ tt)))
    (either_short m.application_keypad (escape ∷ codes "=") (escape ∷ codes ">") 2 (record { fits = lit≤ tt }) (record { fits = lit≤ tt })))
    (lit≤ tt)

taken_out_short : (wide : Bool) → Short (taken_out_text wide) 4
taken_out_short true = record { fits = lit≤ tt }
taken_out_short false = record { fits = lit≤ tt }

begin_small : (b : Bool) (column : ℕ) → column ≤ 9999 → (if b then column - 1 else column) ≤ 9999
begin_small true column small = omega arith
begin_small false column small = small

column_small : (b : Bool) (column : ℕ) → column ≤ 9999 → (if b then column else column - 1) ≤ 9999
column_small true column small = small
column_small false column small = omega arith

front_short : (bytes : List ℕ) → IsFront bytes → Short bytes 3
front_short [] front = record { fits = lit≤ tt }
front_short (a ∷ []) front = record { fits = lit≤ tt }
front_short (a ∷ b ∷ []) front = record { fits = lit≤ tt }
front_short (a ∷ b ∷ c ∷ []) front = record { fits = lit≤ tt }
front_short (a ∷ b ∷ c ∷ d ∷ rest) front = absurd front

module _ (y : Term) (whole : Whole y) where
  abbrev s : Console
  s = y.console

  abbrev p : Picture
  p = s.picture

  small_columns : p.columns ≤ 9999
  small_columns = let high = whole.safe.sound.columns_high in omega arith

  small_lines : p.lines ≤ 9999
  small_lines = let high = whole.safe.sound.lines_high in omega arith

  column_short : (column : ℕ) → column ≤ 9999 → Short (column_text s.modes.origin p column) 12
  column_short column small =
      let high = whole.safe.sound.line_high in let few = small_lines in
      placed_short (reported_line s.modes.origin p.line p.top) column (reported_small s.modes.origin p.line p.top (omega arith)) small

  cell_is : (column : ℕ) → IsCell (cell_of p column)
  cell_is column = (whole.fit.picture.rows.fit p.line).loose.cells (begin_of p column)

  again_short : (column : ℕ) → column ≤ 9999 → Short (again_text s column) 28
  again_short column small =
      weaken 28
      (both (both (column_short (begin_of p column) (begin_small _ column small)) (where_is_short s.modes.insert (taken_out_text (is_wide (cell_of p column))) 4 (taken_out_short (is_wide (cell_of p column))).fits))
      (printed_short (cell_of p column) (cell_is column)))
      (lit≤ tt)

  last_short : (last : Option ℕ) → Short (last_text s last) 28
  last_short None = record { fits = lit≤ tt }
  last_short (Some character) = again_short (last_column s character) (column_small _ p.column (let high = whole.safe.sound.column_high in let few = small_columns in omega arith))

  wrapped_short : Short (wrapped_text s.modes.origin p) 84
  wrapped_short =
      weaken 84
      (both (both (rendition_short (cell_of p p.columns).rendition (cell_is p.columns).colours) (column_short (begin_of p p.columns) (begin_small _ p.columns small_columns)))
      (printed_short (cell_of p p.columns) (cell_is p.columns)))
      (lit≤ tt)

  cursor_short : Short (cursor_text s.modes.origin p) 101
  cursor_short =
      weaken 101
      (both (both (where_is_short s.modes.origin (escape ∷ codes "[?6h") 5 (lit≤ tt)) (column_short p.column (let high = whole.safe.sound.column_high in let few = small_columns in omega arith)))
      (where_is_short p.wrap (wrapped_text s.modes.origin p) 84 wrapped_short.fits))
      (lit≤ tt)

  closing_short : Short (closing_text s) 250
  closing_short =
      let apart = whole.safe.sound.apart in let high = whole.safe.sound.bottom_high in let few = small_lines in
      weaken 250
      (both (both (both (both (both (pair_short p.top p.bottom 114 (omega arith) (omega arith)) cursor_short) (in_force_short s.rendition s.sets whole.fit.rendition)) (modes_short s.modes)) (last_short s.last))
      (where_is_short s.title (escape ∷ codes "k") 2 (lit≤ tt)))
      (lit≤ tt)

  -- the lines of both sheets
  lines_of : (alternate : Bool) (rows other : List (List Cell))
      → length (lines_text no_rendition 1 (if alternate then other else rows)) + length (lines_text no_rendition 1 (if alternate then rows else other))
      ≡ length (lines_text no_rendition 1 rows) + length (lines_text no_rendition 1 other)
  lines_of true rows other = omega arith
  lines_of false rows other = omega arith

  sheets_short : Short (sheets_text s) (400 + (length (lines_text no_rendition 1 p.rows) + length (lines_text no_rendition 1 p.other)))
  sheets_short =
      let main = saved_short p.columns p.lines s.main_saved small_columns small_lines whole.reached.main_saved whole.fit.main_saved in
      let alternate = saved_short p.columns p.lines s.alternate_saved small_columns small_lines whole.reached.alternate_saved whole.fit.alternate_saved in
      let lines = lines_of p.alternate p.rows p.other in
      weaken _
      (both (both (both (both (sheet_short s.main_saved (if p.alternate then p.other else p.rows) main) (rendition_short no_rendition plain_is)) (literally (escape ∷ codes "[?1047h") 8 (lit≤ tt)))
      (sheet_short s.alternate_saved (if p.alternate then p.rows else p.other) alternate))
      (where_is_short (not p.alternate) (escape ∷ codes "[?1047l") 8 (lit≤ tt)))
      (omega arith)

lines_in : (s : Console) → length (lines_text no_rendition 1 s.picture.rows) ≤ length (escaped_text s)
unfolding escaped_text
lines_in s =
    let opening = escaped_specs.opening_text s in
    let lines = lines_text no_rendition 1 s.picture.rows in
    omega (arith, length-append (opening ++ lines) (escaped_specs.closing_text s), length-append opening lines)

pub is_short : LawsBelow → FitLaws → StaysSafe → ((columns lines : ℕ) → IsSize columns lines → IsSafe (reset_term columns lines).console) → StateTextIsShort
unfolding state_text
is_short laws fits safe_played reset_safe seen y comes shows =
    let columns = comes.0 in let lines = comes.1 in
    let whole : Whole y = subst Whole (sym comes.4) (whole_of_reset laws fits safe_played columns lines comes.2 (reset_safe columns lines comes.3)) in
    let s = y.console in
    let p = s.picture in
    let pending = pending_is_short Ansi y.sequence seen.state shows.state in
    let stops = all_stops_short p.tabs p.columns whole.safe.sound.tabs (small_columns y whole) in
    let all = both (both (both (both (both (literally anew_text 2 (lit≤ tt)) stops) (sheets_short y whole)) (closing_short y whole)) pending) (front_short y.character whole.front) in
    let one = lines_in s in
    let two = lines_in (turned s) in
    let short : length (state_text s seen.state y.character) ≤ length (escaped_text s) + length (escaped_text (turned s)) + 16 * count_by (λ stop. stop) p.tabs + 2048 = omega (arith, all.fits) in
    let told = subst (λ c. length (state_text s seen.state c) ≤ length (escaped_text s) + length (escaped_text (turned s)) + 16 * count_by (λ stop. stop) p.tabs + 2048) shows.character short in
    subst (λ (c : Console). length (state_text c seen.state seen.character) ≤ length (escaped_text c) + length (escaped_text (turned c)) + 16 * count_by (λ stop. stop) c.picture.tabs + 2048)
    shows.console told
