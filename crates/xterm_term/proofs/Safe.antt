-- Every command keeps a terminal safe.
use Rattle.std.proofs.Common.{◌≡◌, ℕ, zero, suc, ◌≤◌, Bool, true, false, List, [], ◌∷◌, refl, sym, subst, ◌∙◌, arith, ◌==◌}
use Rattle.std.specs.Prelude.{if◌then◌else◌, fold, min, Option, Some, None}
use Rattle.std.proofs.lemmas.Bool.Decides.{nat_tests}
use Rattle.vt_parser.specs.declared.commands.Command.TheVariants.{Show, Error, Control as ControlOf, Esc, Csi, Vt52, Vt52Address}
use Rattle.sheet.specs.declared.rendition.Colour.{Colour}
use Rattle.sheet.specs.declared.rendition.Rendition.{Rendition}
use Rattle.xterm_screen.specs.Picture.{Picture, Sound, IsInRegion, KeepsSound, KeepsInRegion, GoesIntoRegion, reset}
use Rattle.xterm_screen.specs.CellEdits.{cells_inserted, cells_deleted}
use Rattle.xterm_screen.specs.Erasures.{display_erased, line_erased, cells_erased}
use Rattle.xterm_screen.specs.Margins.{aligned, margins_set}
use Rattle.xterm_screen.specs.Moves.{stepped_up, stepped_down, stepped_right, stepped_left, moved_to_left, on_column, lowered, placed_on_line, placed, moved_home, wrap_cleared, put_back}
use Rattle.xterm_screen.specs.Puts.{shown, mark_joined}
use Rattle.xterm_screen.specs.Scrolls.{indexed, reverse_indexed, lines_inserted, lines_deleted, region_raised, region_lowered}
use Rattle.xterm_screen.specs.Sheets.{alternate_shown, main_shown}
use Rattle.xterm_screen.specs.Tabs.{tabbed, tabbed_on, tabbed_back, tab_made, tabs_cleared}
use Rattle.xterm_term.specs.declared.modes.Modes.{Modes}
use Rattle.xterm_term.specs.declared.saved.Saved.{Saved}
use Rattle.xterm_term.specs.Size.{IsSize}
use Rattle.xterm_term.specs.Console.{Console, IsSafe, IsSavedWell, reset_console, on_picture, on_paper, saved_here}
use Rattle.xterm_term.specs.Rows.{named, effect_of}
use Rattle.xterm_term.specs.Puts.{put, put_by_width, shown_with, is_c1, put_times, repeated, character_for}
use Rattle.characters.specs.Width.{width}
use Rattle.xterm_term.specs.Controls.{Control, Bs, Ht, Lf, Cr, So, Si, controls, control_effect, line_fed}
use Rattle.xterm_term.specs.Escapes.{Escape, Ind, Nel, Ri, Hts, Decid, Ris, Decsc, Decrc, Deckpam, Deckpnm, Decaln, Title, Scs, escape_named, escape_effect, saved, restored, restored_from, saved_from}
use Rattle.xterm_term.specs.Sequences.{Sequence, Cuu, Cud, Cuf, Cub, Cnl, Cpl, Cha, Vpr, Vpa, Cup, Cht, Cbt, Ed, El, Ech, Ich, Dch, Il, Dl, Su, Sd, Rep, Tbc, Sm, Rm, Sgr, Decstbm, Scosc, Scorc, sequences, sequence_effect, param_or, AnsiMode, Irm, Lnm, ansi_modes, ansi_mode_effect, ansi_mode_set}
use Rattle.xterm_term.specs.PrivateModes.{PrivateMode, Decom, Decawm, AlternateSheet, Save, SaveAndSheet, private_modes, switches, mode_effect, mode_set, modes_set, sheet_shown, save_switched, save_and_sheet_switched}
use Rattle.xterm_term.specs.Effect.{effect, control_sequence_effect}
use Rattle.xterm_term.specs.Law.{CommandsKeepSafe, PutsKeepSafe, ModesKeepSafe, SheetsKeepSafe}

-- ---- what the screen's laws say

-- an operation keeps a picture sound, and a cursor that is inside the margins there
pub record Keeps (op : Picture → Picture) : Type 0 where
  pub sound : KeepsSound op
  pub inside : KeepsInRegion op

-- the same of one that goes by DECOM: the cursor is inside the margins where lines are counted from the top margin
pub record KeepsBy (op : Bool → Picture → Picture) : Type 0 where
  pub sound : (origin : Bool) → KeepsSound (op origin)
  pub inside : KeepsInRegion (op true)

-- the same of one that brings the cursor there
pub record GoesBy (op : Bool → Picture → Picture) : Type 0 where
  pub sound : (origin : Bool) → KeepsSound (op origin)
  pub inside : GoesIntoRegion (op true)

pub record ScreenLaws : Type 0 where
  pub reset : (columns lines : ℕ) → IsSize columns lines → Sound (reset columns lines)
  pub show : (character : ℕ) (wide : Bool) (rendition : Rendition) (autowrap inserting : Bool) → Keeps (shown character wide rendition autowrap inserting)
  pub add_mark : (mark : ℕ) → Keeps (mark_joined mark)
  pub up : (n : ℕ) → Keeps (stepped_up n)
  pub down : (n : ℕ) → Keeps (stepped_down n)
  pub lower : (n : ℕ) → KeepsBy (lowered n)
  pub right : (n : ℕ) → Keeps (stepped_right n)
  pub left : (n : ℕ) → Keeps (stepped_left n)
  pub to_left : Keeps moved_to_left
  pub to_column : (column : ℕ) → 1 ≤ column → Keeps (on_column column)
  pub clear_wrap : Keeps wrap_cleared
  pub index : (paper : Colour) → Keeps (indexed paper)
  pub reverse_index : (paper : Colour) → Keeps (reverse_indexed paper)
  pub scroll_up : (n : ℕ) (paper : Colour) → Keeps (region_raised n paper)
  pub scroll_down : (n : ℕ) (paper : Colour) → Keeps (region_lowered n paper)
  pub insert_lines : (n : ℕ) (paper : Colour) → Keeps (lines_inserted n paper)
  pub delete_lines : (n : ℕ) (paper : Colour) → Keeps (lines_deleted n paper)
  pub erase_display : (part : ℕ) (paper : Colour) → Keeps (display_erased part paper)
  pub erase_line : (part : ℕ) (paper : Colour) → Keeps (line_erased part paper)
  pub erase_cells : (n : ℕ) (paper : Colour) → Keeps (cells_erased n paper)
  pub insert_cells : (n : ℕ) (paper : Colour) → Keeps (cells_inserted n paper)
  pub delete_cells : (n : ℕ) (paper : Colour) → Keeps (cells_deleted n paper)
  pub align : KeepsSound aligned
  pub alternate : (paper : Colour) → Keeps (alternate_shown paper)
  pub main : Keeps main_shown
  pub tab : Keeps tabbed
  pub tab_on : (n : ℕ) → Keeps (tabbed_on n)
  pub tab_back : (n : ℕ) → Keeps (tabbed_back n)
  pub set_tab : (stops : Bool) → Keeps (tab_made stops)
  pub clear_tabs : Keeps tabs_cleared
  pub to_line : (line : ℕ) → 1 ≤ line → GoesBy (placed_on_line line)
  pub place : (line column : ℕ) → 1 ≤ line → 1 ≤ column → GoesBy (placed line column)
  pub home : GoesBy moved_home
  pub back : (line column : ℕ) (wrap origin autowrap : Bool) (p : Picture) → 1 ≤ line → line ≤ p.lines → 1 ≤ column → Sound p
      → Sound (put_back line column wrap origin autowrap p)
  pub back_inside : (line column : ℕ) (wrap autowrap : Bool) → GoesIntoRegion (put_back line column wrap true autowrap)
  pub margins : (top bottom : ℕ) → KeepsBy (margins_set top bottom)

-- ---- a change of one part

-- what holds with lines counted from the top margin holds where they are so
while_set : (P : Bool → Type 0) (origin : Bool) → P true → origin ≡ true → P origin
while_set P origin there is = subst P (sym is) there

safe_new : (s t : Console) → Sound t.picture → (t.modes.origin ≡ true → IsInRegion t.picture) → t.main_saved ≡ s.main_saved
    → t.alternate_saved ≡ s.alternate_saved → IsSafe s → IsSafe t
safe_new s t sound inside main alternate safe = record {
  sound = sound;
  inside = inside;
  main_saved = subst IsSavedWell (sym main) safe.main_saved;
  alternate_saved = subst IsSavedWell (sym alternate) safe.alternate_saved;
}

safe_on : (s : Console) (op : Picture → Picture) → Keeps op → IsSafe s → IsSafe (on_picture op s)
safe_on s op keeps safe =
    safe_new s _ (keeps.sound s.picture safe.sound) (λ is. keeps.inside s.picture safe.sound (safe.inside is)) refl refl safe

safe_by : (s : Console) (op : Bool → Picture → Picture) → KeepsBy op → IsSafe s → IsSafe (on_picture (op s.modes.origin) s)
safe_by s op keeps safe =
    safe_new s _ (keeps.sound s.modes.origin s.picture safe.sound)
    (λ is. while_set (λ (o : Bool). IsInRegion (op o s.picture)) s.modes.origin (keeps.inside s.picture safe.sound (safe.inside is)) is) refl refl safe

-- a change after which DECOM may be another
safe_goes : (s t : Console) (op : Bool → Picture → Picture) → GoesBy op → t.picture ≡ op t.modes.origin s.picture
    → t.main_saved ≡ s.main_saved → t.alternate_saved ≡ s.alternate_saved → IsSafe s → IsSafe t
safe_goes s t op goes picture main alternate safe =
    safe_new s t (subst Sound (sym picture) (goes.sound t.modes.origin s.picture safe.sound))
    (λ is. subst IsInRegion (sym picture) (while_set (λ (o : Bool). IsInRegion (op o s.picture)) t.modes.origin (goes.inside s.picture safe.sound) is))
    main alternate safe

-- a change of what the screen doesn't know, which leaves DECOM and the saves
safe_else : (s t : Console) → t.picture ≡ s.picture → t.modes.origin ≡ s.modes.origin → t.main_saved ≡ s.main_saved
    → t.alternate_saved ≡ s.alternate_saved → IsSafe s → IsSafe t
safe_else s t picture origin main alternate safe =
    safe_new s t (subst Sound (sym picture) safe.sound) (λ is. subst IsInRegion (sym picture) (safe.inside (sym origin ∙ is))) main alternate safe

-- one of two operations, and none
keeps_if : (b : Bool) (op other : Picture → Picture) → Keeps op → Keeps other → Keeps (λ p. if b then op p else other p)
keeps_if true op other keeps keeps_other = keeps
keeps_if false op other keeps keeps_other = keeps_other

keeps_none : Keeps (λ p. p)
keeps_none = record { sound = λ p sound. sound; inside = λ p sound inside. inside }

-- two one after the other
keeps_both : (op other : Picture → Picture) → Keeps op → Keeps other → Keeps (λ p. other (op p))
keeps_both op other keeps keeps_other = record {
  sound = λ p sound. keeps_other.sound (op p) (keeps.sound p sound);
  inside = λ p sound inside. keeps_other.inside (op p) (keeps.sound p sound) (keeps.inside p sound inside);
}

-- ---- what needs no law of the screen

param_low : (params : List ℕ) (index : ℕ) → 1 ≤ param_or params index 1
param_low params index = grind (arith, nat_tests)

ansi_mode_origin : (value : Bool) (mode : Option AnsiMode) (modes : Modes)
    → (effect_of (ansi_mode_effect value) mode modes).origin ≡ modes.origin
ansi_mode_origin value None modes = refl
ansi_mode_origin value (Some Lnm) modes = refl
ansi_mode_origin value (Some Irm) modes = refl

origin_kept : (value : Bool) (params : List ℕ) (modes : Modes) → (fold (ansi_mode_set value) modes params).origin ≡ modes.origin
origin_kept value [] modes = refl
origin_kept value (param ∷ params) modes =
    origin_kept value params (ansi_mode_set value modes param) ∙ ansi_mode_origin value (named ansi_modes param) modes

-- a row of a table, or none
safe_row : {Name : Type 0} (change : Name → Console → Console)
    → ((row : Name) (s : Console) → IsSafe s → IsSafe (change row s)) → (row : Option Name) (s : Console) → IsSafe s
    → IsSafe (effect_of change row s)
safe_row change each None s safe = safe
safe_row change each (Some row) s safe = each row s safe

-- DECSC of either sheet
safe_saved_if : (alternate : Bool) (s : Console) → IsSafe s
    → IsSafe (if alternate then record s { alternate_saved = Some (saved_from s) } else record s { main_saved = Some (saved_from s) })
safe_saved_if true s safe = record {
  sound = safe.sound;
  inside = safe.inside;
  main_saved = safe.main_saved;
  alternate_saved = (safe.sound.line_low, safe.sound.column_low);
}
safe_saved_if false s safe = record {
  sound = safe.sound;
  inside = safe.inside;
  main_saved = (safe.sound.line_low, safe.sound.column_low);
  alternate_saved = safe.alternate_saved;
}

pub safe_saved : (s : Console) → IsSafe s → IsSafe (saved s)
safe_saved s safe = safe_saved_if s.picture.alternate s safe

well_if : (alternate : Bool) (there main : Option Saved) → IsSavedWell there → IsSavedWell main
    → IsSavedWell (if alternate then there else main)
well_if true there main well_there well_main = well_there
well_if false there main well_there well_main = well_main

-- the save of the sheet that is shown is well
pub well_here : (s : Console) → IsSafe s → IsSavedWell (saved_here s)
well_here s safe = well_if s.picture.alternate s.alternate_saved s.main_saved safe.alternate_saved safe.main_saved

-- ---- what does

module _ (laws : ScreenLaws) where
  pub safe_reset : (columns lines : ℕ) → IsSize columns lines → IsSafe (reset_console columns lines)
  safe_reset columns lines size =
      record { sound = laws.reset columns lines size; inside = λ is. absurd (cc is); main_saved = tt; alternate_saved = tt }

  safe_size : (p : Picture) → Sound p → IsSize p.columns p.lines
  safe_size p sound = record { columns_low = sound.columns_low; columns_high = sound.columns_high; lines_low = sound.lines_low; lines_high = sound.lines_high }

  -- ---- characters

  safe_shown : (wide : Bool) (character : ℕ) (s : Console) → IsSafe s → IsSafe (shown_with wide character s)
  safe_shown wide character s safe =
      safe_else (on_picture (shown character wide s.rendition s.modes.autowrap s.modes.insert) s) _ refl refl refl refl
      (safe_on s _ (laws.show character wide s.rendition s.modes.autowrap s.modes.insert) safe)

  safe_by_width : (n character : ℕ) (s : Console) → IsSafe s → IsSafe (put_by_width n character s)
  safe_by_width zero character s safe = safe_on s _ (laws.add_mark character) safe
  safe_by_width (suc n) character s safe = safe_shown (n == 1) character s safe

  safe_put_if : (c1 : Bool) (n character : ℕ) (s : Console) → IsSafe s
      → IsSafe (if c1 then record s { last = None } else put_by_width n character s)
  safe_put_if true n character s safe = safe_else s _ refl refl refl refl safe
  safe_put_if false n character s safe = safe_by_width n character s safe

  pub safe_put : PutsKeepSafe
  unfolding put
  safe_put character s safe = safe_put_if (is_c1 character) (width character) character s safe

  safe_times : (n character : ℕ) (s : Console) → IsSafe s → IsSafe (put_times n character s)
  safe_times zero character s safe = safe
  safe_times (suc n) character s safe = safe_put character (put_times n character s) (safe_times n character s safe)

  safe_repeated : (n : ℕ) (last : Option ℕ) (s : Console) → IsSafe s → IsSafe (repeated n last s)
  safe_repeated n None s safe = safe
  safe_repeated n (Some character) s safe = safe_times n character s safe

  -- ---- controls and escape sequences

  safe_lf : (newline : Bool) (s : Console) → IsSafe s → IsSafe (on_paper (line_fed newline) s)
  safe_lf true s safe = safe_on s _ (keeps_both moved_to_left (indexed s.rendition.paper) laws.to_left (laws.index s.rendition.paper)) safe
  safe_lf false s safe = safe_on s _ (laws.index s.rendition.paper) safe

  safe_control : (control : Control) (s : Console) → IsSafe s → IsSafe (control_effect control s)
  safe_control Bs s safe = safe_on s _ (laws.left 1) safe
  safe_control Ht s safe = safe_on s _ laws.tab safe
  safe_control Lf s safe = safe_lf s.modes.newline s safe
  safe_control Cr s safe = safe_on s _ laws.to_left safe
  safe_control So s safe = safe_else s _ refl refl refl refl safe
  safe_control Si s safe = safe_else s _ refl refl refl refl safe

  safe_restored_from : (save : Option Saved) (s : Console) → IsSavedWell save → IsSafe s → IsSafe (restored_from save s)
  safe_restored_from None s well safe = safe_goes s _ moved_home laws.home refl refl refl safe
  safe_restored_from (Some save) s well safe =
      let low = safe.sound.lines_low in
      let line = min save.line s.picture.lines in
      let first = well.0 in
      safe_new s _ (laws.back line save.column save.wrap save.origin s.modes.autowrap s.picture (omega arith) (omega arith) well.1 safe.sound)
      (λ is. while_set (λ (o : Bool). IsInRegion (put_back line save.column save.wrap o s.modes.autowrap s.picture)) save.origin
      (laws.back_inside line save.column save.wrap s.modes.autowrap s.picture safe.sound) is) refl refl safe

  pub safe_restored : (s : Console) → IsSafe s → IsSafe (restored s)
  safe_restored s safe = safe_restored_from (saved_here s) s (well_here s safe) safe

  safe_escape : (escape : Escape) (s : Console) → IsSafe s → IsSafe (escape_effect escape s)
  safe_escape Ind s safe = safe_on s _ (laws.index s.rendition.paper) safe
  safe_escape Nel s safe = safe_on s _ (keeps_both moved_to_left (indexed s.rendition.paper) laws.to_left (laws.index s.rendition.paper)) safe
  safe_escape Ri s safe = safe_on s _ (laws.reverse_index s.rendition.paper) safe
  safe_escape Hts s safe = safe_on s _ (laws.set_tab true) safe
  safe_escape Decid s safe = safe
  safe_escape Ris s safe = safe_reset s.picture.columns s.picture.lines (safe_size s.picture safe.sound)
  safe_escape Decsc s safe = safe_saved s safe
  safe_escape Decrc s safe = safe_restored s safe
  safe_escape Deckpam s safe = safe_else s _ refl refl refl refl safe
  safe_escape Deckpnm s safe = safe_else s _ refl refl refl refl safe
  safe_escape Decaln s safe = safe_new s _ (laws.align s.picture safe.sound) (λ is. absurd (cc is)) refl refl safe
  safe_escape Title s safe = safe_else s _ refl refl refl refl safe
  safe_escape (Scs slot set) s safe = safe_else s _ refl refl refl refl safe

  -- ---- control sequences

  safe_sequence : (sequence : Sequence) (params : List ℕ) (s : Console) → IsSafe s → IsSafe (sequence_effect sequence params s)
  safe_sequence Cuu params s safe = safe_on s _ (laws.up _) safe
  safe_sequence Cud params s safe = safe_on s _ (laws.down _) safe
  safe_sequence Cuf params s safe = safe_on s _ (laws.right _) safe
  safe_sequence Cub params s safe = safe_on s _ (laws.left _) safe
  safe_sequence Cnl params s safe =
      safe_on s _ (keeps_both (stepped_down (param_or params 0 1)) moved_to_left (laws.down (param_or params 0 1)) laws.to_left) safe
  safe_sequence Cpl params s safe =
      safe_on s _ (keeps_both (stepped_up (param_or params 0 1)) moved_to_left (laws.up (param_or params 0 1)) laws.to_left) safe
  safe_sequence Cha params s safe = safe_on s _ (laws.to_column (param_or params 0 1) (param_low params 0)) safe
  safe_sequence Vpr params s safe = safe_by s (lowered (param_or params 0 1)) (laws.lower (param_or params 0 1)) safe
  safe_sequence Vpa params s safe =
      safe_goes s _ (placed_on_line (param_or params 0 1)) (laws.to_line (param_or params 0 1) (param_low params 0)) refl refl refl safe
  safe_sequence Cup params s safe =
      safe_goes s _ (placed (param_or params 0 1) (param_or params 1 1))
      (laws.place (param_or params 0 1) (param_or params 1 1) (param_low params 0) (param_low params 1)) refl refl refl safe
  safe_sequence Cht params s safe = safe_on s _ (laws.tab_on _) safe
  safe_sequence Cbt params s safe = safe_on s _ (laws.tab_back _) safe
  safe_sequence Ed params s safe = safe_on s _ (keeps_if _ _ _ (laws.erase_display _ s.rendition.paper) keeps_none) safe
  safe_sequence El params s safe = safe_on s _ (keeps_if _ _ _ (laws.erase_line _ s.rendition.paper) keeps_none) safe
  safe_sequence Ech params s safe = safe_on s _ (laws.erase_cells _ s.rendition.paper) safe
  safe_sequence Ich params s safe = safe_on s _ (laws.insert_cells _ s.rendition.paper) safe
  safe_sequence Dch params s safe = safe_on s _ (laws.delete_cells _ s.rendition.paper) safe
  safe_sequence Il params s safe = safe_on s _ (laws.insert_lines _ s.rendition.paper) safe
  safe_sequence Dl params s safe = safe_on s _ (laws.delete_lines _ s.rendition.paper) safe
  safe_sequence Su params s safe = safe_on s _ (laws.scroll_up _ s.rendition.paper) safe
  safe_sequence Sd params s safe = safe_on s _ (keeps_if _ _ _ (laws.scroll_down _ s.rendition.paper) keeps_none) safe
  safe_sequence Rep params s safe = safe_repeated (param_or params 0 1) s.last s safe
  safe_sequence Tbc params s safe = safe_on s _ (keeps_if _ _ _ (laws.set_tab false) (keeps_if _ _ _ laws.clear_tabs keeps_none)) safe
  safe_sequence Sm params s safe = safe_else s _ refl (origin_kept true params s.modes) refl refl safe
  safe_sequence Rm params s safe = safe_else s _ refl (origin_kept false params s.modes) refl refl safe
  safe_sequence Sgr params s safe = safe_else s _ refl refl refl refl safe
  safe_sequence Decstbm params s safe =
      safe_by s (margins_set (param_or params 0 1) (param_or params 1 s.picture.lines)) (laws.margins (param_or params 0 1) (param_or params 1 s.picture.lines)) safe
  safe_sequence Scosc params s safe = safe_saved s safe
  safe_sequence Scorc params s safe = safe_restored s safe
  safe_sequence _ params s safe = safe

  -- ---- modes

  safe_autowrap : (value : Bool) (s : Console) → IsSafe s → IsSafe (mode_effect value Decawm s)
  safe_autowrap true s safe = safe_else s _ refl refl refl refl safe
  safe_autowrap false s safe = safe_else (on_picture wrap_cleared s) _ refl refl refl refl (safe_on s _ laws.clear_wrap safe)

  pub safe_sheet : SheetsKeepSafe
  safe_sheet true s safe = safe_on s _ (laws.alternate s.rendition.paper) safe
  safe_sheet false s safe = safe_on s _ laws.main safe

  safe_save : (value : Bool) (s : Console) → IsSafe s → IsSafe (save_switched value s)
  safe_save true s safe = safe_saved s safe
  safe_save false s safe = safe_restored s safe

  safe_if : (alternate : Bool) (s t : Console) → IsSafe s → IsSafe t → IsSafe (if alternate then s else t)
  safe_if true s t safe other = safe
  safe_if false s t safe other = other

  safe_save_and_sheet : (value : Bool) (s : Console) → IsSafe s → IsSafe (save_and_sheet_switched value s)
  safe_save_and_sheet true s safe = safe_if s.picture.alternate s _ safe (safe_sheet true (saved s) (safe_saved s safe))
  safe_save_and_sheet false s safe = safe_restored (sheet_shown false s) (safe_sheet false s safe)

  safe_mode : (value : Bool) (mode : PrivateMode) (s : Console) → IsSafe s → IsSafe (mode_effect value mode s)
  safe_mode value Decom s safe = safe_goes s _ moved_home laws.home refl refl refl safe
  safe_mode value Decawm s safe = safe_autowrap value s safe
  safe_mode value AlternateSheet s safe = safe_sheet value s safe
  safe_mode value Save s safe = safe_save value s safe
  safe_mode value SaveAndSheet s safe = safe_save_and_sheet value s safe
  safe_mode value _ s safe = safe_else s _ refl refl refl refl safe

  pub safe_mode_set : ModesKeepSafe
  safe_mode_set value s param safe = safe_row (mode_effect value) (safe_mode value) (named private_modes param) s safe

  safe_modes : (value : Bool) (params : List ℕ) (s : Console) → IsSafe s → IsSafe (fold (mode_set value) s params)
  safe_modes value [] s safe = safe
  safe_modes value (param ∷ params) s safe = safe_modes value params (mode_set value s param) (safe_mode_set value s param safe)

  safe_control_sequence : (private : Bool) (last : ℕ) (params : List ℕ) (s : Console) → IsSafe s
      → IsSafe (control_sequence_effect private last params s)
  safe_control_sequence true last params s safe = safe_row (modes_set params) (λ value. safe_modes value params) (named switches last) s safe
  safe_control_sequence false last params s safe = safe_row (λ row. sequence_effect row params) (λ row. safe_sequence row params) (named sequences last) s safe

  -- ---- all of them

  pub safe_effect : CommandsKeepSafe
  unfolding effect
  safe_effect (Show byte) s proper safe = safe_put (character_for s byte) s safe
  safe_effect Error s proper safe = safe
  safe_effect (ControlOf byte) s proper safe = safe_row control_effect safe_control (named controls byte) s safe
  safe_effect (Esc inter last) s proper safe = safe_row escape_effect safe_escape (escape_named inter last) s safe
  safe_effect (Csi private params last) s proper safe = safe_control_sequence private last params.items s safe
  safe_effect (Vt52 last) s proper safe = safe
  safe_effect (Vt52Address line column) s proper safe = safe
