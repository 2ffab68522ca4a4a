-- Every command keeps a terminal safe.
use Rattle.std.proofs.Common.{◌≡◌, ℕ, ◌≤◌, Bool, true, false, List, [], ◌∷◌, length, refl, sym, ap, subst, ◌∙◌, arith}
use Rattle.std.specs.Prelude.{if◌then◌else◌, fold, Option, Some, None}
use Rattle.std.proofs.lemmas.Bool.Decides.{nat_tests}
use Rattle.std.proofs.lemmas.List.{length-set}
use Rattle.vt_parser.specs.declared.commands.Mode.{Mode}
use Rattle.vt_parser.specs.declared.commands.Mode.TheVariants.{Ansi, Vt52 as Vt52Mode}
use Rattle.vt_parser.specs.declared.commands.Command.{Command}
use Rattle.vt_parser.specs.declared.commands.Command.TheVariants.{Show, Error, Control as ControlOf, Esc, Csi, Vt52, Vt52Address}
use Rattle.vt_parser.specs.Law.{IsProper}
use Rattle.vt_screen.specs.Attributes.{Attributes}
use Rattle.vt_screen.specs.declared.cell.Size.{Size}
use Rattle.vt_screen.specs.CellEdits.{cells_deleted, shown_inserting}
use Rattle.vt_screen.specs.Erasures.{display_erased, line_erased}
use Rattle.vt_screen.specs.Picture.{Picture, Sound, IsInRegion}
use Rattle.vt_screen.specs.Lines.{size_set, columns_set, aligned, margins_set}
use Rattle.vt_screen.specs.Moves.{stepped_up, stepped_down, stepped_right, stepped_left, moved_to_left, placed, moved_home, wrap_cleared, put_back}
use Rattle.vt_screen.specs.Puts.{shown}
use Rattle.vt_screen.specs.Scrolls.{indexed, reverse_indexed, lines_inserted, lines_deleted}
use Rattle.vt_screen.specs.Tabs.{tabbed, tab_made, tabs_cleared}
use Rattle.vt_screen.proofs.SoundRows.{right_margin_high}
use Rattle.vt_screen.proofs.Soundness.{sound_reset, sound_shown, sound_shown_inserting, sound_indexed, sound_reverse_indexed, sound_stepped_up, sound_stepped_down, sound_stepped_right, sound_stepped_left, sound_moved_to_left, sound_wrap_cleared, sound_lines_inserted, sound_lines_deleted, sound_cells_deleted, sound_display_erased, sound_line_erased, sound_size_set, sound_aligned, sound_tabbed, sound_tab_made, sound_tabs_cleared, sound_margins_set, sound_placed, sound_moved_home, sound_put_back, sound_columns_set}
use Rattle.vt_screen.proofs.Regions.{inside_shown, inside_shown_inserting, inside_indexed, inside_reverse_indexed, inside_stepped_up, inside_stepped_down, inside_lines_inserted, inside_lines_deleted, inside_margins_set, inside_placed, inside_moved_home, inside_put_back}
use Rattle.vt_term.specs.declared.sets.CharacterSet.{CharacterSet}
use Rattle.vt_term.specs.declared.sets.CharacterSet.TheVariants.{Ascii}
use Rattle.vt_term.specs.declared.sets.Slot.{Slot}
use Rattle.vt_term.specs.declared.modes.Modes.{Modes}
use Rattle.vt_term.specs.declared.profile.Profile.{Profile}
use Rattle.vt_term.specs.declared.profile.Profile.TheVariants.{Vt100, Vt102}
use Rattle.vt_term.specs.declared.saved.Saved.{Saved}
use Rattle.vt_term.specs.Sets.{glyph_of, checkerboard, set_in_use}
use Rattle.vt_term.specs.Console.{Console, IsSafe, IsSavedWell, reset_console, on_picture, effect_of}
use Rattle.vt_term.specs.Rows.{named}
use Rattle.vt_term.specs.Controls.{Control, Bs, Ht, Lf, Cr, So, Si, controls, control_effect, line_fed, invoked}
use Rattle.vt_term.specs.Escapes.{Escape, Ind, Nel, Ri, Hts, Decid, Ris, Decsc, Decrc, Deckpam, Deckpnm, DecdhlTop, DecdhlBottom, Decswl, Decdwl, Decaln, Scs, escape_named, escape_effect, restored}
use Rattle.vt_term.specs.Sequences.{Sequence, Cuu, Cud, Cuf, Cub, Cup, Ed, El, Il, Dl, Dch, Decstbm, Tbc, Sgr, Sm, Rm, Decll, sequences, sequence_effect, param_or, leds_set, AnsiMode, Irm, Lnm, ansi_modes, ansi_mode_effect, ansi_mode_set}
use Rattle.vt_term.specs.PrivateModes.{PrivateMode, Decanm, Deccolm, Decom, Decawm, private_modes, switches, mode_effect, mode_set, modes_set}
use Rattle.vt_term.specs.Vt52.{Vt52Sequence, Up, Down, Right, Left, Home, ReverseIndex, EraseDisplay, EraseLine, vt52_sequences, vt52_effect}
use Rattle.vt_term.specs.Effect.{effect, glyph_shown, glyph_for, control_sequence_effect}

-- ---- what the screen's operations keep

-- an operation keeps a picture sound, and a cursor that is inside the margins there
record Keeps (op : Picture → Picture) : Type 0 where
  sound : (p : Picture) → Sound p → Sound (op p)
  inside : (p : Picture) → Sound p → IsInRegion p → IsInRegion (op p)

-- the same of one that goes by DECOM: the cursor is inside the margins where lines are counted from the top margin
record KeepsBy (op : Bool → Picture → Picture) : Type 0 where
  sound : (origin : Bool) (p : Picture) → Sound p → Sound (op origin p)
  inside : (p : Picture) → Sound p → IsInRegion p → IsInRegion (op true p)

-- the same of one that brings the cursor there
record GoesBy (op : Bool → Picture → Picture) : Type 0 where
  sound : (origin : Bool) (p : Picture) → Sound p → Sound (op origin p)
  inside : (p : Picture) → Sound p → IsInRegion (op true p)

keeps_show : (glyph : ℕ) (rendition : Attributes) (autowrap : Bool) → glyph ≤ 126 → Keeps (shown glyph rendition autowrap)
keeps_show glyph rendition autowrap high =
    record { sound = λ p. sound_shown glyph rendition autowrap p high; inside = inside_shown glyph rendition autowrap }

keeps_show_inserting : (glyph : ℕ) (rendition : Attributes) (autowrap : Bool) → glyph ≤ 126 → Keeps (shown_inserting glyph rendition autowrap)
keeps_show_inserting glyph rendition autowrap high =
    record { sound = λ p. sound_shown_inserting glyph rendition autowrap p high; inside = inside_shown_inserting glyph rendition autowrap }

keeps_index : Keeps indexed
keeps_index = record { sound = sound_indexed; inside = inside_indexed }

keeps_reverse_index : Keeps reverse_indexed
keeps_reverse_index = record { sound = sound_reverse_indexed; inside = inside_reverse_indexed }

keeps_up : (n : ℕ) → Keeps (stepped_up n)
keeps_up n = record { sound = λ p sound. sound_stepped_up p sound n; inside = λ p sound inside. inside_stepped_up p sound inside n }

keeps_down : (n : ℕ) → Keeps (stepped_down n)
keeps_down n = record { sound = λ p sound. sound_stepped_down p sound n; inside = λ p sound inside. inside_stepped_down p sound inside n }

keeps_insert_lines : (n : ℕ) → Keeps (lines_inserted n)
keeps_insert_lines n = record { sound = λ p sound. sound_lines_inserted p sound n; inside = λ p sound inside. inside_lines_inserted p sound inside n }

keeps_delete_lines : (n : ℕ) → Keeps (lines_deleted n)
keeps_delete_lines n = record { sound = λ p sound. sound_lines_deleted p sound n; inside = λ p sound inside. inside_lines_deleted p sound inside n }

-- one that leaves the margins and the cursor's line
keeps_lines : (op : Picture → Picture) → ((p : Picture) → Sound p → Sound (op p))
    → ((p : Picture) → ◌≡◌ {A = ℕ × ℕ × ℕ} ((op p).top, (op p).line, (op p).bottom) (p.top, p.line, p.bottom)) → Keeps op
keeps_lines op sound same = record {
  sound = sound;
  inside = λ p _ inside.
      let at = subst (λ (l : ℕ × ℕ × ℕ). (l.0 ≤ l.1) × (l.1 ≤ l.2)) (sym (same p)) (inside.below_top, inside.above_bottom) in
      record { below_top = at.0; above_bottom = at.1 };
}

keeps_right : (n : ℕ) → Keeps (stepped_right n)
keeps_right n = keeps_lines (stepped_right n) (λ p sound. sound_stepped_right p sound n) (λ p. refl)

keeps_left : (n : ℕ) → Keeps (stepped_left n)
keeps_left n = keeps_lines (stepped_left n) (λ p sound. sound_stepped_left p sound n) (λ p. refl)

keeps_to_left : Keeps moved_to_left
keeps_to_left = keeps_lines moved_to_left sound_moved_to_left (λ p. refl)

keeps_clear_wrap : Keeps wrap_cleared
keeps_clear_wrap = keeps_lines wrap_cleared sound_wrap_cleared (λ p. refl)

keeps_delete_cells : (n : ℕ) → Keeps (cells_deleted n)
keeps_delete_cells n = keeps_lines (cells_deleted n) (λ p sound. sound_cells_deleted p sound n) (λ p. refl)

keeps_erase_display : (part : ℕ) → Keeps (display_erased part)
keeps_erase_display part = keeps_lines (display_erased part) (λ p sound. sound_display_erased p sound part) (λ p. refl)

keeps_erase_line : (part : ℕ) → Keeps (line_erased part)
keeps_erase_line part = keeps_lines (line_erased part) (λ p sound. sound_line_erased p sound part) (λ p. refl)

keeps_size : (size : Size) → Keeps (size_set size)
keeps_size size = keeps_lines (size_set size) (λ p sound. sound_size_set p sound size) (λ p. refl)

keeps_align : Keeps aligned
keeps_align = keeps_lines aligned sound_aligned (λ p. refl)

keeps_tab : Keeps tabbed
keeps_tab = keeps_lines tabbed sound_tabbed (λ p. refl)

keeps_set_tab : (stops : Bool) → Keeps (tab_made stops)
keeps_set_tab stops = keeps_lines (tab_made stops) (λ p sound. sound_tab_made p sound stops) (λ p. refl)

keeps_clear_tabs : Keeps tabs_cleared
keeps_clear_tabs = keeps_lines tabs_cleared sound_tabs_cleared (λ p. refl)

keeps_margins : (top bottom : ℕ) → KeepsBy (margins_set top bottom)
keeps_margins top bottom =
    record { sound = sound_margins_set top bottom; inside = λ p sound inside. inside_margins_set p sound inside top bottom }

goes_place : (line column : ℕ) → 1 ≤ line → 1 ≤ column → GoesBy (placed line column)
goes_place line column low column_low = record {
  sound = λ origin p sound. sound_placed p sound line column origin low column_low;
  inside = λ p sound. inside_placed p sound line column;
}

goes_home : GoesBy moved_home
goes_home = record { sound = λ origin p sound. sound_moved_home p sound origin; inside = inside_moved_home }

goes_put_back : (line column : ℕ) (wrap autowrap : Bool) → 1 ≤ line → line ≤ 24 → 1 ≤ column
    → GoesBy (λ origin. put_back line column wrap origin autowrap)
goes_put_back line column wrap autowrap low high column_low = record {
  sound = λ origin p sound. sound_put_back p sound line column wrap origin autowrap low high column_low;
  inside = λ p sound. inside_put_back p sound line column wrap autowrap;
}

goes_columns : (wide : Bool) → GoesBy (columns_set wide)
goes_columns wide = record {
  sound = λ origin p sound. sound_columns_set p sound wide origin;
  inside = λ p sound. record { below_top = omega arith; above_bottom = omega arith };
}

-- ---- a change of one part

-- what holds with lines counted from the top margin holds where they are so
while_set : (P : Bool → Type 0) (origin : Bool) → P true → origin ≡ true → P origin
while_set P origin there is = subst P (sym is) there

safe_new : (s t : Console) → Sound t.picture → (t.modes.origin ≡ true → IsInRegion t.picture) → t.saved ≡ s.saved
    → t.leds ≡ s.leds → IsSafe s → IsSafe t
safe_new s t sound inside saved leds safe =
    record { sound = sound; inside = inside; saved = subst IsSavedWell (sym saved) safe.saved; leds = ap length leds ∙ safe.leds }

safe_on : (s : Console) (op : Picture → Picture) → Keeps op → IsSafe s → IsSafe (on_picture op s)
safe_on s op keeps safe =
    safe_new s _ (keeps.sound s.picture safe.sound) (λ is. keeps.inside s.picture safe.sound (safe.inside is)) refl refl safe

safe_by : (s : Console) (op : Bool → Picture → Picture) → KeepsBy op → IsSafe s → IsSafe (on_picture (op s.modes.origin) s)
safe_by s op keeps safe =
    safe_new s _ (keeps.sound s.modes.origin s.picture safe.sound)
    (λ is. while_set (λ (o : Bool). IsInRegion (op o s.picture)) s.modes.origin (keeps.inside s.picture safe.sound (safe.inside is)) is) refl refl safe

-- a change after which DECOM may be another
safe_goes : (s t : Console) (op : Bool → Picture → Picture) → GoesBy op → t.picture ≡ op t.modes.origin s.picture
    → t.saved ≡ s.saved → t.leds ≡ s.leds → IsSafe s → IsSafe t
safe_goes s t op goes picture saved leds safe =
    safe_new s t (subst Sound (sym picture) (goes.sound t.modes.origin s.picture safe.sound))
    (λ is. subst IsInRegion (sym picture) (while_set (λ (o : Bool). IsInRegion (op o s.picture)) t.modes.origin (goes.inside s.picture safe.sound) is)) saved leds safe

-- a change of what the screen doesn't know, which leaves DECOM, the save and the LEDs
safe_else : (s t : Console) → t.picture ≡ s.picture → t.modes.origin ≡ s.modes.origin → t.saved ≡ s.saved → t.leds ≡ s.leds → IsSafe s → IsSafe t
safe_else s t picture origin saved leds safe =
    safe_new s t (subst Sound (sym picture) safe.sound) (λ is. subst IsInRegion (sym picture) (safe.inside (sym origin ∙ is))) saved leds safe

-- one of two operations, and none
keeps_if : (b : Bool) (op other : Picture → Picture) → Keeps op → Keeps other → Keeps (λ p. if b then op p else other p)
keeps_if true op other keeps keeps_other = keeps
keeps_if false op other keeps keeps_other = keeps_other

keeps_none : Keeps (λ p. p)
keeps_none = record { sound = λ p sound. sound; inside = λ p sound inside. inside }

-- ---- characters

pub glyph_high : (set : CharacterSet) (byte : ℕ) → byte ≤ 126 → glyph_of set byte ≤ 126
glyph_high Ascii byte high = high
glyph_high _ byte high = grind (arith, nat_tests)

-- ---- what needs no law of the screen

param_low : (params : List ℕ) (index : ℕ) → 1 ≤ param_or params index 1
param_low params index = grind (arith, nat_tests)

leds_kept : (params : List ℕ) (leds : List Bool) → length leds ≡ 4 → length (fold leds_set leds params) ≡ 4
leds_kept [] leds four = four
leds_kept (param ∷ params) leds four = leds_kept params (leds_set leds param) (grind (arith, nat_tests, length-set {A = Bool}))

ansi_mode_origin : (profile : Profile) (value : Bool) (mode : Option AnsiMode) (modes : Modes)
    → (effect_of (ansi_mode_effect profile value) mode modes).origin ≡ modes.origin
ansi_mode_origin profile value None modes = refl
ansi_mode_origin profile value (Some Lnm) modes = refl
ansi_mode_origin Vt100 value (Some Irm) modes = refl
ansi_mode_origin Vt102 value (Some Irm) modes = refl

origin_kept : (profile : Profile) (value : Bool) (params : List ℕ) (modes : Modes)
    → (fold (ansi_mode_set profile value) modes params).origin ≡ modes.origin
origin_kept profile value [] modes = refl
origin_kept profile value (param ∷ params) modes =
    origin_kept profile value params (ansi_mode_set profile value modes param) ∙ ansi_mode_origin profile value (named ansi_modes param) modes

safe_invoked : (slot : Slot) (mode : Mode) (s : Console) → IsSafe s → IsSafe (invoked slot mode s)
safe_invoked slot Ansi s safe = safe_else s _ refl refl refl refl safe
safe_invoked slot Vt52Mode s safe = safe

-- a row of a table, or none
safe_row : {Name : Type 0} (change : Name → Console → Console)
    → ((row : Name) (s : Console) → IsSafe s → IsSafe (change row s)) → (row : Option Name) (s : Console) → IsSafe s
    → IsSafe (effect_of change row s)
safe_row change each None s safe = safe
safe_row change each (Some row) s safe = each row s safe

-- ---- what does

pub safe_reset : (profile : Profile) → IsSafe (reset_console profile)
safe_reset profile = record { sound = sound_reset; inside = λ is. absurd (cc is); saved = tt; leds = refl }

safe_put : (s : Console) (glyph : ℕ) → glyph ≤ 126 → IsSafe s → IsSafe (glyph_shown glyph s)
safe_put s glyph high safe =
    safe_on s _ (keeps_if s.modes.insert _ _ (keeps_show_inserting glyph s.rendition s.modes.autowrap high) (keeps_show glyph s.rendition s.modes.autowrap high)) safe

safe_lf : (newline : Bool) (s : Console) → IsSafe s → IsSafe (on_picture (line_fed newline) s)
safe_lf true s safe = safe_on (on_picture moved_to_left s) _ keeps_index (safe_on s _ keeps_to_left safe)
safe_lf false s safe = safe_on s _ keeps_index safe

safe_control : (control : Control) (s : Console) → IsSafe s → IsSafe (control_effect control s)
safe_control Bs s safe = safe_on s _ (keeps_left 1) safe
safe_control Ht s safe = safe_on s _ keeps_tab safe
safe_control Lf s safe = safe_lf s.modes.newline s safe
safe_control Cr s safe = safe_on s _ keeps_to_left safe
safe_control So s safe = safe_invoked _ s.modes.mode s safe
safe_control Si s safe = safe_invoked _ s.modes.mode s safe

safe_restored : (saved : Option Saved) (s : Console) → IsSavedWell saved → IsSafe s → IsSafe (restored saved s)
safe_restored None s well safe = safe_goes s _ moved_home goes_home refl refl refl safe
safe_restored (Some saved) s well safe =
    safe_goes s _ (λ origin. put_back saved.line saved.column saved.wrap origin s.modes.autowrap)
    (goes_put_back saved.line saved.column saved.wrap s.modes.autowrap well.0 well.1 well.2) refl refl refl safe

safe_escape : (escape : Escape) (s : Console) → IsSafe s → IsSafe (escape_effect escape s)
safe_escape Ind s safe = safe_lf false s safe
safe_escape Nel s safe = safe_lf true s safe
safe_escape Ri s safe = safe_on s _ keeps_reverse_index safe
safe_escape Hts s safe = safe_on s _ (keeps_set_tab true) safe
safe_escape Decid s safe = safe
safe_escape Ris s safe = safe_reset s.profile
safe_escape Decsc s safe = record {
  sound = safe.sound;
  inside = safe.inside;
  saved = (safe.sound.line_low, safe.sound.line_high, safe.sound.column_low, omega (arith, safe.sound.column_high, right_margin_high s.picture s.picture.line));
  leds = safe.leds;
}
safe_escape Decrc s safe = safe_restored s.saved s safe.saved safe
safe_escape Deckpam s safe = safe_else s _ refl refl refl refl safe
safe_escape Deckpnm s safe = safe_else s _ refl refl refl refl safe
safe_escape DecdhlTop s safe = safe_on s _ (keeps_size _) safe
safe_escape DecdhlBottom s safe = safe_on s _ (keeps_size _) safe
safe_escape Decswl s safe = safe_on s _ (keeps_size _) safe
safe_escape Decdwl s safe = safe_on s _ (keeps_size _) safe
safe_escape Decaln s safe = safe_on s _ keeps_align safe
safe_escape (Scs slot set) s safe = safe_else s _ refl refl refl refl safe

safe_edited : (b : Bool) (op : Picture → Picture) (s : Console) → Keeps op → IsSafe s → IsSafe (if b then on_picture op s else s)
safe_edited true op s keeps safe = safe_on s op keeps safe
safe_edited false op s keeps safe = safe

safe_sequence : (sequence : Sequence) (params : List ℕ) (s : Console) → IsSafe s → IsSafe (sequence_effect sequence params s)
safe_sequence Cuu params s safe = safe_on s _ (keeps_up _) safe
safe_sequence Cud params s safe = safe_on s _ (keeps_down _) safe
safe_sequence Cuf params s safe = safe_on s _ (keeps_right _) safe
safe_sequence Cub params s safe = safe_on s _ (keeps_left _) safe
safe_sequence Cup params s safe =
    safe_goes s _ (placed (param_or params 0 1) (param_or params 1 1))
    (goes_place (param_or params 0 1) (param_or params 1 1) (param_low params 0) (param_low params 1)) refl refl refl safe
safe_sequence Ed params s safe = safe_on s _ (keeps_if _ _ _ (keeps_erase_display _) keeps_none) safe
safe_sequence El params s safe = safe_on s _ (keeps_if _ _ _ (keeps_erase_line _) keeps_none) safe
safe_sequence Il params s safe = safe_edited _ _ s (keeps_insert_lines _) safe
safe_sequence Dl params s safe = safe_edited _ _ s (keeps_delete_lines _) safe
safe_sequence Dch params s safe = safe_edited _ _ s (keeps_delete_cells _) safe
safe_sequence Decstbm params s safe = safe_by s _ (keeps_margins (param_or params 0 1) (param_or params 1 24)) safe
safe_sequence Tbc params s safe = safe_on s _ (keeps_if _ _ _ (keeps_set_tab false) (keeps_if _ _ _ keeps_clear_tabs keeps_none)) safe
safe_sequence Sgr params s safe = safe_else s _ refl refl refl refl safe
safe_sequence Sm params s safe = safe_else s _ refl (origin_kept s.profile true params s.modes) refl refl safe
safe_sequence Rm params s safe = safe_else s _ refl (origin_kept s.profile false params s.modes) refl refl safe
safe_sequence Decll params s safe = record { sound = safe.sound; inside = safe.inside; saved = safe.saved; leds = leds_kept params s.leds safe.leds }
safe_sequence _ params s safe = safe

safe_vt52_entered : (value : Bool) (s : Console) → IsSafe s → IsSafe (mode_effect value Decanm s)
safe_vt52_entered true s safe = safe
safe_vt52_entered false s safe = safe_else s _ refl refl refl refl safe

safe_autowrap : (value : Bool) (s : Console) → IsSafe s → IsSafe (mode_effect value Decawm s)
safe_autowrap true s safe = safe_else s _ refl refl refl refl safe
safe_autowrap false s safe = safe_else (on_picture wrap_cleared s) _ refl refl refl refl (safe_on s _ keeps_clear_wrap safe)

safe_mode : (value : Bool) (mode : PrivateMode) (s : Console) → IsSafe s → IsSafe (mode_effect value mode s)
safe_mode value Decanm s safe = safe_vt52_entered value s safe
safe_mode value Deccolm s safe = safe_goes s _ (columns_set value) (goes_columns value) refl refl refl safe
safe_mode value Decom s safe = safe_goes s _ moved_home goes_home refl refl refl safe
safe_mode value Decawm s safe = safe_autowrap value s safe
safe_mode value _ s safe = safe_else s _ refl refl refl refl safe

safe_modes : (value : Bool) (params : List ℕ) (s : Console) → IsSafe s → IsSafe (fold (mode_set value) s params)
safe_modes value [] s safe = safe
safe_modes value (param ∷ params) s safe =
    safe_modes value params (mode_set value s param) (safe_row (mode_effect value) (safe_mode value) (named private_modes param) s safe)

safe_control_sequence : (private : Bool) (last : ℕ) (params : List ℕ) (s : Console) → IsSafe s
    → IsSafe (control_sequence_effect private last params s)
safe_control_sequence true last params s safe = safe_row (modes_set params) (λ value. safe_modes value params) (named switches last) s safe
safe_control_sequence false last params s safe = safe_row (λ row. sequence_effect row params) (λ row. safe_sequence row params) (named sequences last) s safe

safe_vt52 : (sequence : Vt52Sequence) (s : Console) → IsSafe s → IsSafe (vt52_effect sequence s)
safe_vt52 Up s safe = safe_on s _ (keeps_up 1) safe
safe_vt52 Down s safe = safe_on s _ (keeps_down 1) safe
safe_vt52 Right s safe = safe_on s _ (keeps_right 1) safe
safe_vt52 Left s safe = safe_on s _ (keeps_left 1) safe
safe_vt52 Home s safe = safe_goes s _ moved_home goes_home refl refl refl safe
safe_vt52 ReverseIndex s safe = safe_on s _ keeps_reverse_index safe
safe_vt52 EraseDisplay s safe = safe_on s _ (keeps_erase_display 0) safe
safe_vt52 EraseLine s safe = safe_on s _ (keeps_erase_line 0) safe
safe_vt52 _ s safe = safe_else s _ refl refl refl refl safe

-- ---- all of them

pub safe_effect : (command : Command) (s : Console) → IsProper command → IsSafe s → IsSafe (effect command s)
unfolding effect
safe_effect (Show byte) s proper safe = safe_put s (glyph_for s byte) (glyph_high (set_in_use s.modes.mode s.sets) byte proper.1) safe
safe_effect Error s proper safe = safe_put s checkerboard (omega arith) safe
safe_effect (ControlOf byte) s proper safe = safe_row control_effect safe_control (named controls byte) s safe
safe_effect (Esc inter last) s proper safe = safe_row escape_effect safe_escape (escape_named inter last) s safe
safe_effect (Csi private params last) s proper safe = safe_control_sequence private last params.items s safe
safe_effect (Vt52 last) s proper safe = safe_row vt52_effect safe_vt52 (named vt52_sequences last) s safe
safe_effect (Vt52Address line column) s proper safe = safe_goes s _ (placed line column) (goes_place line column proper.0.0 proper.1.0) refl refl refl safe
