-- How long the state text is.
use Rattle.std.proofs.Common.{◌≡◌, ℕ, zero, suc, ◌+◌, ◌*◌, ◌≤◌, Bool, true, false, List, [], ◌∷◌, ◌++◌, length, take, get_or, refl, sym, ap, subst, ◌∙◌, add-one, lit<, arith}
use Rattle.std.specs.Prelude.{codes, decimal, Option, Some, None, slice_index_or, ◌==◌, ◌&&◌, ◌||◌}
use Rattle.std.specs.List.{count_by}
use Rattle.std.proofs.Math.Dec.{lit≤}
use Rattle.std.proofs.lemmas.Fmt.{length-decimal-le}
use Rattle.std.proofs.lemmas.List.{length-append, take_all}
use Rattle.std.proofs.lemmas.List.Sums.{count_by_more_yes, count_by_more_no}
use Rattle.vt_parser.specs.declared.commands.Mode.{Mode}
use Rattle.vt_parser.specs.declared.commands.Mode.TheVariants.{Ansi, Vt52}
use Rattle.vt_parser.specs.Syntax.{escape}
use Rattle.vt_screen.specs.declared.cell.Cell.{Cell}
use Rattle.vt_screen.specs.Attributes.{Attributes}
use Rattle.vt_screen.specs.Picture.{Picture, Sound, cell}
use Rattle.vt_screen.specs.Table.{nth}
use Rattle.vt_screen.specs.Tabs.{stop_at}
use Rattle.vt_screen.proofs.SoundRows.{right_margin_high}
use Rattle.vt_screen.proofs.Tables.{nth_next}
use Rattle.vt_term.specs.declared.modes.Modes.{Modes}
use Rattle.vt_term.specs.declared.saved.Saved.{Saved}
use Rattle.vt_term.specs.declared.sets.CharacterSet.{CharacterSet}
use Rattle.vt_term.specs.declared.sets.Slot.{Slot}
use Rattle.vt_term.specs.Console.{Console, IsSafe, IsSavedWell}
use Rattle.vt_term.specs.Replies.{reported_line}
use Rattle.vt_term.specs.Term.{Term}
use Rattle.screen_rows.specs.Texts.{text_where}
use Rattle.screen_print.specs.EscapedText as escaped
use Rattle.screen_print.specs.EscapedText.{byte_for, escaped_text, first_pen, lines_text, placed_text, rendition_set_text, slot_for}
use Rattle.parser_state.specs.PendingText.{pending_text}
use Rattle.parser_state.proofs.SizeLemmas.{Short, both, literally, pending_is_short, weaken}
use Rattle.screen_state.specs.StateText.{anew_text, canvas_text, cell_again_text, closing_text, cursor_text, in_force_text, kept_text, leds_text, modes_text, opening_text, saved_text, sets_text, slot_byte, state_text, stop_text, stops_to, vt52_text}
use Rattle.screen_state.specs.Remade.{StateTextIsShort}
use Rattle.screen_state.proofs.Reached.{whole_of_reset}

-- a text, or none
where_is_short : (holds : Bool) (text : List ℕ) (n : ℕ) → length text ≤ n → Short (text_where holds text) n
where_is_short true text n fits = record { fits = fits }
where_is_short false text n fits = record { fits = omega arith }

-- ---- numbers, places and renditions

number_short : (n : ℕ) → n ≤ 999 → Short (decimal n) 3
number_short n small = record { fits = length-decimal-le 3 n (lit< tt) (omega arith) (omega arith) }

-- two numbers between brackets
pair_short : (one other last : ℕ) → one ≤ 999 → other ≤ 999 → Short (escape ∷ codes "[" ++ decimal one ++ codes ";" ++ decimal other ++ last ∷ []) 10
pair_short one other last low high =
    weaken 10
    (both (both (both (both (literally (escape ∷ codes "[") 2 (lit≤ tt)) (number_short one low)) (literally (codes ";") 1 (lit≤ tt))) (number_short other high)) (literally (last ∷ []) 1 (lit≤ tt)))
    (lit≤ tt)

placed_short : (line column : ℕ) → line ≤ 999 → column ≤ 999 → Short (placed_text line column) 10
placed_short line column low high = pair_short line column 72 low high

rendition_short : (a : Attributes) → Short (rendition_set_text a) 12
rendition_short a =
    weaken 12
    (both (both (both (both (both (literally (escape ∷ codes "[0") 3 (lit≤ tt))
    (where_is_short a.bold (codes ";1") 2 (lit≤ tt)))
    (where_is_short a.underscore (codes ";4") 2 (lit≤ tt)))
    (where_is_short a.blink (codes ";5") 2 (lit≤ tt)))
    (where_is_short a.reverse (codes ";7") 2 (lit≤ tt)))
    (literally (codes "m") 1 (lit≤ tt)))
    (lit≤ tt)

-- ---- the tab stops

abbrev stops_in : List Bool → ℕ → ℕ
stops_in tabs n = count_by (λ stop. stop) (take n tabs)

stop_short : (tabs : List Bool) (n : ℕ) (stops : Bool) → stop_at tabs (suc n) ≡ stops → suc n ≤ length tabs → suc n ≤ 999
    → length (stops_to tabs n) ≤ 12 * stops_in tabs n
    → length (stops_to tabs n ++ text_where stops (stop_text (suc n))) ≤ 12 * stops_in tabs (suc n)
stop_short tabs n true is within small before =
    let here : get_or tabs n false ≡ true = sym (nth_next false tabs n) ∙ ap (nth false tabs) (add-one n) ∙ is in
    let more = count_by_more_yes (λ stop. stop) tabs n false (omega arith) here in
    let now : stops_in tabs (suc n) ≡ stops_in tabs n + 1 = subst (λ (k : ℕ). stops_in tabs k ≡ stops_in tabs n + 1) (add-one n) more in
    let text : Short (stop_text (suc n)) 12 =
    weaken 12 (both (placed_short 1 (suc n) (lit≤ tt) small) (literally (escape ∷ codes "H") 2 (lit≤ tt))) (lit≤ tt) in
    omega (arith, before, now, text.fits, length-append (stops_to tabs n) (stop_text (suc n)))
stop_short tabs n false is within small before =
    let here : get_or tabs n false ≡ false = sym (nth_next false tabs n) ∙ ap (nth false tabs) (add-one n) ∙ is in
    let more = count_by_more_no (λ stop. stop) tabs n false (omega arith) here in
    let now : stops_in tabs (suc n) ≡ stops_in tabs n = subst (λ (k : ℕ). stops_in tabs k ≡ stops_in tabs n) (add-one n) more in
    omega (arith, before, now, length-append (stops_to tabs n) [])

stops_short : (tabs : List Bool) (n : ℕ) → n ≤ length tabs → n ≤ 999 → length (stops_to tabs n) ≤ 12 * stops_in tabs n
unfolding stops_to
stops_short tabs zero within small = omega arith
stops_short tabs (suc n) within small =
    stop_short tabs n (stop_at tabs (suc n)) refl within small (stops_short tabs n (omega arith) (omega arith))

all_stops_short : (tabs : List Bool) → length tabs ≡ 132 → length (stops_to tabs 132) ≤ 12 * count_by (λ stop. stop) tabs
all_stops_short tabs whole =
    subst (λ (l : List Bool). length (stops_to tabs 132) ≤ 12 * count_by (λ stop. stop) l) (take_all 132 tabs (omega arith))
    (stops_short tabs 132 (omega arith) (lit≤ tt))

-- ---- what is saved

in_force_short : (a : Attributes) (g0 g1 : CharacterSet) (slot : Slot) → Short (in_force_text a g0 g1 slot) 19
in_force_short a g0 g1 slot = weaken 19 (both (rendition_short a) (literally (sets_text g0 g1 slot) 7 (lit≤ tt))) (lit≤ tt)

kept_short : (saved : Saved) → saved.line ≤ 999 → saved.column ≤ 999 → Short (kept_text saved) 45
kept_short saved low high =
    weaken 45
    (both (both (both (both (both (both
    (where_is_short (saved.wrap && (saved.column == 40 || saved.column == 80)) (escape ∷ codes "[?3l") 5 (lit≤ tt))
    (where_is_short saved.origin (escape ∷ codes "[?6h") 5 (lit≤ tt)))
    (placed_short saved.line saved.column low high))
    (where_is_short (saved.wrap && (saved.column == 40 || saved.column == 66)) (escape ∷ codes "#6") 3 (lit≤ tt)))
    (where_is_short saved.wrap (codes " ") 1 (lit≤ tt)))
    (in_force_short saved.rendition saved.g0 saved.g1 saved.invoked))
    (literally (escape ∷ codes "7") 2 (lit≤ tt)))
    (lit≤ tt)

saved_short : (saved : Option Saved) → IsSavedWell saved → Short (saved_text saved) 45
saved_short None well = record { fits = lit≤ tt }
saved_short (Some saved) well = kept_short saved (omega (arith, well.1)) (omega (arith, well.3))

canvas_short : (wide : Bool) → Short (canvas_text wide) 34
canvas_short true = record { fits = lit≤ tt }
canvas_short false = record { fits = lit≤ tt }

-- ---- behind the lines

again_short : (cell : Cell) → Short (cell_again_text cell) 14
again_short cell = weaken 14 (both (rendition_short cell.rendition) (literally (slot_byte (slot_for cell.glyph) ∷ byte_for cell.glyph ∷ []) 2 (lit≤ tt))) (lit≤ tt)

reported_small : (origin : Bool) (line top : ℕ) → line ≤ 999 → reported_line origin line top ≤ 999
reported_small true line top small = omega arith
reported_small false line top small = small

cursor_short : (p : Picture) (modes : Modes) → p.line ≤ 999 → p.column ≤ 999 → Short (cursor_text p modes) 34
cursor_short p modes low high =
    weaken 34
    (both (both (both
    (where_is_short modes.origin (escape ∷ codes "[?6h") 5 (lit≤ tt))
    (where_is_short modes.autowrap (escape ∷ codes "[?7h") 5 (lit≤ tt)))
    (placed_short (reported_line modes.origin p.line p.top) p.column (reported_small modes.origin p.line p.top low) high))
    (where_is_short p.wrap (cell_again_text (cell p p.line p.column)) 14 (again_short (cell p p.line p.column)).fits))
    (lit≤ tt)

modes_short : (modes : Modes) → Short (modes_text modes) 36
modes_short modes =
    weaken 36
    (both (both (both (both (both (both (both
    (where_is_short modes.cursor_keys (escape ∷ codes "[?1h") 5 (lit≤ tt))
    (where_is_short modes.smooth_scroll (escape ∷ codes "[?4h") 5 (lit≤ tt)))
    (where_is_short modes.reverse_screen (escape ∷ codes "[?5h") 5 (lit≤ tt)))
    (where_is_short modes.auto_repeat (escape ∷ codes "[?8h") 5 (lit≤ tt)))
    (where_is_short modes.interlace (escape ∷ codes "[?9h") 5 (lit≤ tt)))
    (where_is_short modes.newline (escape ∷ codes "[20h") 5 (lit≤ tt)))
    (where_is_short modes.insert (escape ∷ codes "[4h") 4 (lit≤ tt)))
    (where_is_short modes.application_keypad (escape ∷ codes "=") 2 (lit≤ tt)))
    (lit≤ tt)

leds_short : (leds : List Bool) → Short (leds_text leds) 16
leds_short leds =
    weaken 16
    (both (both (both
    (where_is_short (slice_index_or leds 0 false) (escape ∷ codes "[1q") 4 (lit≤ tt))
    (where_is_short (slice_index_or leds 1 false) (escape ∷ codes "[2q") 4 (lit≤ tt)))
    (where_is_short (slice_index_or leds 2 false) (escape ∷ codes "[3q") 4 (lit≤ tt)))
    (where_is_short (slice_index_or leds 3 false) (escape ∷ codes "[4q") 4 (lit≤ tt)))
    (lit≤ tt)

vt52_short : (mode : Mode) (graphics : Bool) → Short (vt52_text mode graphics) 9
vt52_short Ansi true = record { fits = lit≤ tt }
vt52_short Ansi false = record { fits = lit≤ tt }
vt52_short Vt52 true = record { fits = lit≤ tt }
vt52_short Vt52 false = record { fits = lit≤ tt }

closing_short : (s : Console) → Sound s.picture → Short (closing_text s) 128
closing_short s sound =
    let p = s.picture in
    let column : p.column ≤ 999 = omega (arith, sound.column_high, right_margin_high p p.line) in
    weaken 128
    (both (both (both (both (both
    (pair_short p.top p.bottom 114 (omega (arith, sound.apart, sound.bottom_high)) (omega (arith, sound.bottom_high)))
    (cursor_short p s.modes (omega (arith, sound.line_high)) column))
    (in_force_short s.rendition s.sets.g0 s.sets.g1 s.sets.invoked))
    (modes_short s.modes))
    (leds_short s.leds))
    (vt52_short s.modes.mode s.sets.vt52_graphics))
    (lit≤ tt)

-- ---- all of it

opening_short : (s : Console) → IsSafe s → length (opening_text s) ≤ 12 * count_by (λ stop. stop) s.picture.tabs + 92
opening_short s safe =
    let tabs = s.picture.tabs in
    let stops : Short (stops_to tabs 132) (12 * count_by (λ stop. stop) tabs) = record { fits = all_stops_short tabs safe.sound.tabs } in
    let all =
    both (both (both (literally anew_text 4 (lit≤ tt))
    (both (literally (escape ∷ codes "[?3h" ++ escape ∷ codes "[3g") 9 (lit≤ tt)) stops))
    (saved_short s.saved safe.saved)) (canvas_short s.picture.wide) in
    omega (arith, all.fits)

pub is_short : StateTextIsShort
unfolding state_text escaped_text
is_short seen y comes shows =
    let s = seen.console in
    let safe : IsSafe s = subst IsSafe shows.console (subst (λ (t : Term). IsSafe t.console) (sym comes.2) (whole_of_reset comes.0 comes.1).safe) in
    let pending = pending_is_short y.console.modes.mode y.pending seen.state shows.state in
    let lines = lines_text first_pen 1 s.picture.rows in
    let whole = length-append (opening_text s ++ lines ++ closing_text s) (pending_text seen.state) in
    let front = length-append (opening_text s ++ lines) (closing_text s) in
    let head = length-append (opening_text s) lines in
    let printed = length-append (escaped.opening_text s ++ lines) (escaped.closing_text s.picture.line s.picture.column) in
    let drawn = length-append (escaped.opening_text s) lines in
    omega (arith, whole, front, head, printed, drawn, opening_short s safe, (closing_short s safe.sound).fits, pending.fits)
