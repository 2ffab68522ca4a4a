-- What every term keeps that comes of a reset one: a wrap is pending at the right margin alone, while DECAWM is set; a saved
-- one stands where a right margin is; and insert mode is a VT102's.
use Rattle.std.proofs.Common.{◌≡◌, ℕ, ◌+◌, ◌≤◌, Bool, true, false, List, [], ◌∷◌, refl, sym, ap, subst, inl, inr, ◌∙◌}
use Rattle.std.specs.Prelude.{fold, min, nat_le, not, ◌==◌, ◌&&◌, ◌||◌, if◌then◌else◌, Option, Some, None}
use Rattle.std.proofs.lemmas.Bool.{and_parts, cases_eq, eqb-true}
use Rattle.vt_parser.specs.declared.commands.Mode.{Mode}
use Rattle.vt_parser.specs.declared.commands.Mode.TheVariants.{Ansi, Vt52 as Vt52Mode}
use Rattle.vt_parser.specs.declared.commands.Command.{Command}
use Rattle.vt_parser.specs.declared.commands.Command.TheVariants.{Show, Error, Control as ControlOf, Esc, Csi, Vt52, Vt52Address}
use Rattle.vt_parser.specs.Step.{command_of}
use Rattle.vt_screen.specs.declared.cell.Cell.{Cell}
use Rattle.vt_screen.specs.declared.cell.Row.{Row}
use Rattle.vt_screen.specs.declared.cell.Size.{Size}
use Rattle.vt_screen.specs.declared.cell.Size.TheVariants.{Single}
use Rattle.vt_screen.specs.Attributes.{Attributes}
use Rattle.vt_screen.specs.CellEdits.{cells_deleted, room_made, shown_inserting, taken_out}
use Rattle.vt_screen.specs.Cells.{blank_row, is_single, row_at}
use Rattle.vt_screen.specs.Erasures.{display_erased, erased_whole, line_erased, part_erased}
use Rattle.vt_screen.specs.Lines.{are_margins, margins_set}
use Rattle.vt_screen.specs.Moves.{moved_home, moved_to_left, put_back}
use Rattle.vt_screen.specs.Picture.{Picture, Sound, margin_of, right_margin}
use Rattle.vt_screen.specs.Puts.{put, shown, with_cell, with_row, wrap_taken}
use Rattle.vt_screen.specs.Scrolls.{indexed, is_in_region, reverse_indexed, lines_deleted, lines_inserted, scrolled_down, scrolled_up}
use Rattle.vt_screen.specs.Tabs.{tab_made, tabs_cleared}
use Rattle.vt_screen.proofs.Answers.{put_there, put_on}
use Rattle.vt_screen.proofs.Runs.{wrap_gone}
use Rattle.vt_screen.proofs.Soundness.{either_picture, row_put, sound_wrap_taken}
use Rattle.vt_screen.proofs.Tables.{nth-table}
use Rattle.vt_term.specs.declared.modes.Modes.{Modes}
use Rattle.vt_term.specs.declared.profile.Profile.{Profile}
use Rattle.vt_term.specs.declared.profile.Profile.TheVariants.{Vt100, Vt102}
use Rattle.vt_term.specs.declared.saved.Saved.{Saved}
use Rattle.vt_term.specs.declared.sets.Slot.{Slot}
use Rattle.vt_term.specs.Console.{Console, IsSafe, effect_of, on_picture, reset_console}
use Rattle.vt_term.specs.Controls.{Control, Lf, So, Si, controls, control_effect, invoked}
use Rattle.vt_term.specs.Effect.{control_sequence_effect, effect, glyph_for, glyph_shown}
use Rattle.vt_term.specs.Escapes.{Escape, Ind, Nel, Ri, Hts, Decid, Ris, Decsc, Decrc, Deckpam, Deckpnm, Scs, escape_named, escape_effect, restored}
use Rattle.vt_term.specs.PrivateModes.{PrivateMode, Decanm, Deccolm, Decom, Decawm, private_modes, switches, mode_effect, mode_set, modes_set}
use Rattle.vt_term.specs.Profile.{has_editing}
use Rattle.vt_term.specs.Rows.{named}
use Rattle.vt_term.specs.Sequences.{Sequence, Ed, El, Il, Dl, Dch, Decstbm, Tbc, Sgr, Sm, Rm, Decll, Da, Dsr, Decreqtparm, sequences, sequence_effect, erased, param_or, tabs_taken, AnsiMode, Irm, Lnm, ansi_modes, ansi_mode_effect, ansi_mode_set}
use Rattle.vt_term.specs.Sets.{checkerboard}
use Rattle.vt_term.specs.Term.{Term, mode_of, play, reset_term_as, step}
use Rattle.vt_term.specs.Vt52.{Vt52Sequence, Up, Down, Right, Left, Home, ReverseIndex, EraseDisplay, EraseLine, Identify, vt52_sequences, vt52_effect}
use Rattle.vt_term.proofs.Safe.{safe_reset}
use Rattle.vt_term.proofs.Steps.{safe_step}
use Rattle.screen_state.proofs.Kept.{IsSavedWrap}

-- a pending wrap stands at the right margin, and autowrap is set
abbrev pub AtMargin : Picture → Bool → Type 0
AtMargin p autowrap = p.wrap ≡ true → (p.column ≡ right_margin p p.line) × (autowrap ≡ true)

-- insert mode is one of profiles that have the editing
abbrev Edits : Profile → Modes → Type 0
Edits profile modes = modes.insert ≡ true → has_editing profile ≡ true

pub record IsReached (s : Console) : Type 0 where
  pub wrap : AtMargin s.picture s.modes.autowrap
  pub saved : IsSavedWrap s.saved
  pub insert : Edits s.profile s.modes

-- ---- pictures

-- no wrap is pending
none_pending : (p : Picture) (autowrap : Bool) → p.wrap ≡ false → AtMargin p autowrap
none_pending p autowrap none = λ is. absurd (cc)

abbrev NonePending : Picture → Type 0
NonePending p = p.wrap ≡ false

indexed_none : (p : Picture) → NonePending (indexed p)
indexed_none p = either_picture NonePending (p.line == p.bottom) _ _ refl (either_picture NonePending (p.line == 24) _ _ refl refl)

reverse_indexed_none : (p : Picture) → NonePending (reverse_indexed p)
reverse_indexed_none p = either_picture NonePending (p.line == p.top) _ _ refl (either_picture NonePending (p.line == 1) _ _ refl refl)

module _ (p : Picture) (autowrap : Bool) where
  abbrev Stays : Picture → Type 0
  Stays q = AtMargin q autowrap

  -- a row of the same size in the cursor's line
  stays_with_row : (row : Row) → 1 ≤ p.line → p.line ≤ 24 → row.size ≡ (row_at p.rows p.line).size → AtMargin p autowrap
      → Stays (record p { rows = with_row p.line row p.rows })
  stays_with_row row low high same at = λ is.
      let there : row_at (with_row p.line row p.rows) p.line ≡ row = row_put p.line row p.rows low high in
      let margin : margin_of p.wide (row_at (with_row p.line row p.rows) p.line).size ≡ margin_of p.wide (row_at p.rows p.line).size =
      ap (λ (r : Row). margin_of p.wide r.size) there ∙ ap (margin_of p.wide) same in
      ((at is).0 ∙ sym margin, (at is).1)

  -- a cell is put where no wrap is pending
  stays_put : (cell : Cell) → 1 ≤ p.line → p.line ≤ 24 → NonePending p → Stays (put cell autowrap p)
  stays_put cell low high none =
      let row = with_cell p.column cell (row_at p.rows p.line) in
      let rows = with_row p.line row p.rows in
      let there : row_at rows p.line ≡ row = row_put p.line row p.rows low high in
      elim (cases_eq p.column (right_margin p p.line)) [
        | inl e ↦ subst Stays (put_there p cell autowrap e)
            (λ is. (e ∙ sym (ap (λ (r : Row). margin_of p.wide r.size) there), is))
        | inr ne ↦ subst Stays (put_on p cell autowrap ne) (none_pending (record p { rows = rows; column = p.column + 1 }) autowrap none)
      ]

stays_shown : (glyph : ℕ) (rendition : Attributes) (autowrap : Bool) (p : Picture) → Sound p → AtMargin (shown glyph rendition autowrap p) autowrap
stays_shown glyph rendition autowrap p sound =
    let taken = sound_wrap_taken p sound in
    stays_put (wrap_taken p) autowrap (record { glyph = glyph; rendition = rendition }) taken.line_low taken.line_high (wrap_gone rendition autowrap p)

stays_shown_inserting : (glyph : ℕ) (rendition : Attributes) (autowrap : Bool) (p : Picture) → Sound p → AtMargin (shown_inserting glyph rendition autowrap p) autowrap
stays_shown_inserting glyph rendition autowrap p sound =
    let taken = sound_wrap_taken p sound in
    stays_put (room_made (wrap_taken p)) autowrap (record { glyph = glyph; rendition = rendition }) taken.line_low taken.line_high (wrap_gone rendition autowrap p)

-- the size of a row of which cells are erased
erased_margin : (wide : Bool) (size : Size) (whole : Bool) → (is_single size || not whole) ≡ true
    → margin_of wide (if whole then Single else size) ≡ margin_of wide size
erased_margin wide Single true kept = refl
erased_margin wide size false kept = refl
erased_margin wide _ true kept = absurd (cc)

stays_display_erased : (part : ℕ) (autowrap : Bool) (p : Picture) → Sound p → AtMargin p autowrap → AtMargin (display_erased part p) autowrap
stays_display_erased part autowrap p sound at = λ is.
    let parts = and_parts p.wrap (is_single (row_at p.rows p.line).size || not (erased_whole part p p.line)) is in
    let here = at parts.0 in
    let there : row_at (display_erased part p).rows p.line ≡ _ = nth-table blank_row 24 _ p.line sound.line_low sound.line_high in
    (here.0 ∙ sym (ap (λ (r : Row). margin_of p.wide r.size) there ∙ erased_margin p.wide (row_at p.rows p.line).size (erased_whole part p p.line) parts.1), here.1)

stays_line_erased : (part : ℕ) (autowrap : Bool) (p : Picture) → Sound p → AtMargin p autowrap → AtMargin (line_erased part p) autowrap
stays_line_erased part autowrap p sound at = stays_with_row p autowrap (part_erased part p.column (row_at p.rows p.line)) sound.line_low sound.line_high refl at

stays_cells_deleted : (n : ℕ) (autowrap : Bool) (p : Picture) → Sound p → AtMargin p autowrap → AtMargin (cells_deleted n p) autowrap
stays_cells_deleted n autowrap p sound at =
    stays_with_row p autowrap (taken_out n p.column (right_margin p p.line) (row_at p.rows p.line)) sound.line_low sound.line_high refl at

stays_put_back : (line column : ℕ) (wrap origin autowrap : Bool) (p : Picture) → AtMargin (put_back line column wrap origin autowrap p) autowrap
stays_put_back line column wrap origin autowrap p = λ is.
    let q = put_back line column wrap origin autowrap p in
    let margin = right_margin p q.line in
    let both = and_parts (wrap && autowrap) (min column margin == margin) is in
    (eqb-true (min column margin) margin both.1, (and_parts wrap autowrap both.0).1)

stays_margins : (top bottom : ℕ) (origin autowrap : Bool) (p : Picture) → AtMargin p autowrap → AtMargin (margins_set top bottom origin p) autowrap
stays_margins top bottom origin autowrap p at =
    let there : Picture = moved_home origin (record p { top = top; bottom = bottom }) in
    either_picture (λ (q : Picture). AtMargin q autowrap) (are_margins top bottom) there p (none_pending there autowrap refl) at

stays_lines_deleted : (n : ℕ) (autowrap : Bool) (p : Picture) → AtMargin p autowrap → AtMargin (lines_deleted n p) autowrap
stays_lines_deleted n autowrap p at =
    let there : Picture = moved_to_left (record p { rows = scrolled_up n p.line p.bottom p.rows }) in
    either_picture (λ (q : Picture). AtMargin q autowrap) (is_in_region p) there p (none_pending there autowrap refl) at

stays_lines_inserted : (n : ℕ) (autowrap : Bool) (p : Picture) → AtMargin p autowrap → AtMargin (lines_inserted n p) autowrap
stays_lines_inserted n autowrap p at =
    let there : Picture = moved_to_left (record p { rows = scrolled_down n p.line p.bottom p.rows }) in
    either_picture (λ (q : Picture). AtMargin q autowrap) (is_in_region p) there p (none_pending there autowrap refl) at

stays_tabs_taken : (param : ℕ) (autowrap : Bool) (p : Picture) → AtMargin p autowrap → AtMargin (tabs_taken param p) autowrap
stays_tabs_taken param autowrap p at =
    let wraps = λ (q : Picture). AtMargin q autowrap in
    either_picture wraps (param == 0) (tab_made false p) (if param == 3 then tabs_cleared p else p) at
    (either_picture wraps (param == 3) (tabs_cleared p) p at at)

stays_erased : (erase : ℕ → Picture → Picture) (part : ℕ) (autowrap : Bool) (p : Picture) → AtMargin (erase part p) autowrap → AtMargin p autowrap
    → AtMargin (erased erase part p) autowrap
stays_erased erase part autowrap p there at = either_picture (λ (q : Picture). AtMargin q autowrap) (nat_le part 2) (erase part p) p there at

-- ---- changes of a console

reached_with : (s t : Console) → AtMargin t.picture t.modes.autowrap → t.modes.insert ≡ s.modes.insert → t.saved ≡ s.saved → t.profile ≡ s.profile
    → IsReached s → IsReached t
reached_with s t wrap insert saved profile reached = record {
  wrap = wrap;
  saved = subst IsSavedWrap (sym saved) reached.saved;
  insert = λ is. ap has_editing profile ∙ reached.insert (sym insert ∙ is);
}

-- a change after which no wrap is pending
reached_none : (s t : Console) → NonePending t.picture → t.modes.insert ≡ s.modes.insert → t.saved ≡ s.saved → t.profile ≡ s.profile
    → IsReached s → IsReached t
reached_none s t none insert saved profile reached = reached_with s t (none_pending t.picture t.modes.autowrap none) insert saved profile reached

-- a change of something else
reached_else : (s t : Console) → t.picture ≡ s.picture → t.modes.autowrap ≡ s.modes.autowrap → t.modes.insert ≡ s.modes.insert → t.saved ≡ s.saved
    → t.profile ≡ s.profile → IsReached s → IsReached t
reached_else s t picture autowrap insert saved profile reached =
    reached_with s t (subst (λ (p : Picture). AtMargin p t.modes.autowrap) (sym picture) (subst (AtMargin s.picture) (sym autowrap) reached.wrap)) insert saved profile reached

reached_row : {Name : Type 0} (change : Name → Console → Console) → ((row : Name) (s : Console) → IsSafe s → IsReached s → IsReached (change row s))
    → (row : Option Name) (s : Console) → IsSafe s → IsReached s → IsReached (effect_of change row s)
reached_row change each None s safe reached = reached
reached_row change each (Some row) s safe reached = each row s safe reached

-- ---- what does

reached_reset : (profile : Profile) → IsReached (reset_console profile)
reached_reset profile = record { wrap = λ is. absurd (cc); saved = tt; insert = λ is. absurd (cc) }

reached_put : (s : Console) (glyph : ℕ) → IsSafe s → IsReached s → IsReached (glyph_shown glyph s)
reached_put s glyph safe reached =
    reached_with s _
    (either_picture (λ (q : Picture). AtMargin q s.modes.autowrap) s.modes.insert _ _
    (stays_shown_inserting glyph s.rendition s.modes.autowrap s.picture safe.sound)
    (stays_shown glyph s.rendition s.modes.autowrap s.picture safe.sound)) refl refl refl reached

reached_invoked : (slot : Slot) (mode : Mode) (s : Console) → IsReached s → IsReached (invoked slot mode s)
reached_invoked slot Ansi s reached = reached_else s _ refl refl refl refl refl reached
reached_invoked slot Vt52Mode s reached = reached

reached_control : (control : Control) (s : Console) → IsSafe s → IsReached s → IsReached (control_effect control s)
reached_control Lf s safe reached = reached_none s _ (indexed_none (if s.modes.newline then moved_to_left s.picture else s.picture)) refl refl refl reached
reached_control So s safe reached = reached_invoked _ s.modes.mode s reached
reached_control Si s safe reached = reached_invoked _ s.modes.mode s reached
reached_control _ s safe reached = reached_none s _ refl refl refl refl reached

reached_restored : (saved : Option Saved) (s : Console) → IsReached s → IsReached (restored saved s)
reached_restored None s reached = record { wrap = λ is. absurd (cc); saved = reached.saved; insert = reached.insert }
reached_restored (Some saved) s reached =
    record { wrap = stays_put_back saved.line saved.column saved.wrap saved.origin s.modes.autowrap s.picture; saved = reached.saved; insert = reached.insert }

reached_escape : (escape : Escape) (s : Console) → IsSafe s → IsReached s → IsReached (escape_effect escape s)
reached_escape Ind s safe reached = reached_none s _ (indexed_none s.picture) refl refl refl reached
reached_escape Nel s safe reached = reached_none s _ (indexed_none (moved_to_left s.picture)) refl refl refl reached
reached_escape Ri s safe reached = reached_none s _ (reverse_indexed_none s.picture) refl refl refl reached
reached_escape Hts s safe reached = reached_with s _ reached.wrap refl refl refl reached
reached_escape Decid s safe reached = reached
reached_escape Ris s safe reached = reached_reset s.profile
reached_escape Decsc s safe reached = record {
  wrap = reached.wrap;
  saved = λ is. (s.picture.wide, (row_at s.picture.rows s.picture.line).size, (reached.wrap is).0);
  insert = reached.insert;
}
reached_escape Decrc s safe reached = reached_restored s.saved s reached
reached_escape Deckpam s safe reached = reached_else s _ refl refl refl refl refl reached
reached_escape Deckpnm s safe reached = reached_else s _ refl refl refl refl refl reached
reached_escape (Scs slot set) s safe reached = reached_else s _ refl refl refl refl refl reached
reached_escape _ s safe reached = reached_none s _ refl refl refl refl reached

-- SM and RM
ansi_mode_kept : (profile : Profile) (value : Bool) (mode : Option AnsiMode) (modes : Modes)
    → (effect_of (ansi_mode_effect profile value) mode modes).autowrap ≡ modes.autowrap
ansi_mode_kept profile value None modes = refl
ansi_mode_kept profile value (Some Lnm) modes = refl
ansi_mode_kept Vt100 value (Some Irm) modes = refl
ansi_mode_kept Vt102 value (Some Irm) modes = refl

ansi_mode_edits : (profile : Profile) (value : Bool) (mode : Option AnsiMode) (modes : Modes) → Edits profile modes
    → Edits profile (effect_of (ansi_mode_effect profile value) mode modes)
ansi_mode_edits profile value None modes edits = edits
ansi_mode_edits profile value (Some Lnm) modes edits = edits
ansi_mode_edits Vt100 value (Some Irm) modes edits = edits
ansi_mode_edits Vt102 value (Some Irm) modes edits = λ is. refl

modes_kept : (profile : Profile) (value : Bool) (params : List ℕ) (modes : Modes) → (fold (ansi_mode_set profile value) modes params).autowrap ≡ modes.autowrap
modes_kept profile value [] modes = refl
modes_kept profile value (param ∷ params) modes =
    modes_kept profile value params (ansi_mode_set profile value modes param) ∙ ansi_mode_kept profile value (named ansi_modes param) modes

modes_edit : (profile : Profile) (value : Bool) (params : List ℕ) (modes : Modes) → Edits profile modes → Edits profile (fold (ansi_mode_set profile value) modes params)
modes_edit profile value [] modes edits = edits
modes_edit profile value (param ∷ params) modes edits =
    modes_edit profile value params (ansi_mode_set profile value modes param) (ansi_mode_edits profile value (named ansi_modes param) modes edits)

reached_modes : (value : Bool) (params : List ℕ) (s : Console) → IsReached s → IsReached (record s { modes = fold (ansi_mode_set s.profile value) s.modes params })
reached_modes value params s reached = record {
  wrap = subst (AtMargin s.picture) (sym (modes_kept s.profile value params s.modes)) reached.wrap;
  saved = reached.saved;
  insert = modes_edit s.profile value params s.modes reached.insert;
}

reached_edited : (b : Bool) (op : Picture → Picture) (s : Console) → AtMargin (op s.picture) s.modes.autowrap → IsReached s → IsReached (if b then on_picture op s else s)
reached_edited true op s wrap reached = reached_with s _ wrap refl refl refl reached
reached_edited false op s wrap reached = reached

reached_sequence : (sequence : Sequence) (params : List ℕ) (s : Console) → IsSafe s → IsReached s → IsReached (sequence_effect sequence params s)
reached_sequence Ed params s safe reached =
    let part = param_or params 0 0 in
    reached_with s _ (stays_erased display_erased part s.modes.autowrap s.picture
    (stays_display_erased part s.modes.autowrap s.picture safe.sound reached.wrap) reached.wrap) refl refl refl reached
reached_sequence El params s safe reached =
    let part = param_or params 0 0 in
    reached_with s _ (stays_erased line_erased part s.modes.autowrap s.picture
    (stays_line_erased part s.modes.autowrap s.picture safe.sound reached.wrap) reached.wrap) refl refl refl reached
reached_sequence Il params s safe reached =
    reached_edited (has_editing s.profile) (lines_inserted (param_or params 0 1)) s (stays_lines_inserted (param_or params 0 1) s.modes.autowrap s.picture reached.wrap) reached
reached_sequence Dl params s safe reached =
    reached_edited (has_editing s.profile) (lines_deleted (param_or params 0 1)) s (stays_lines_deleted (param_or params 0 1) s.modes.autowrap s.picture reached.wrap) reached
reached_sequence Dch params s safe reached =
    reached_edited (has_editing s.profile) (cells_deleted (param_or params 0 1)) s
    (stays_cells_deleted (param_or params 0 1) s.modes.autowrap s.picture safe.sound reached.wrap) reached
reached_sequence Decstbm params s safe reached =
    reached_with s _ (stays_margins (param_or params 0 1) (param_or params 1 24) s.modes.origin s.modes.autowrap s.picture reached.wrap) refl refl refl reached
reached_sequence Tbc params s safe reached = reached_with s _ (stays_tabs_taken (param_or params 0 0) s.modes.autowrap s.picture reached.wrap) refl refl refl reached
reached_sequence Sgr params s safe reached = reached_else s _ refl refl refl refl refl reached
reached_sequence Sm params s safe reached = reached_modes true params s reached
reached_sequence Rm params s safe reached = reached_modes false params s reached
reached_sequence Decll params s safe reached = reached_else s _ refl refl refl refl refl reached
reached_sequence Da params s safe reached = reached
reached_sequence Dsr params s safe reached = reached
reached_sequence Decreqtparm params s safe reached = reached
reached_sequence _ params s safe reached = reached_none s _ refl refl refl refl reached

reached_vt52_entered : (value : Bool) (s : Console) → IsReached s → IsReached (mode_effect value Decanm s)
reached_vt52_entered true s reached = reached
reached_vt52_entered false s reached = reached_else s _ refl refl refl refl refl reached

reached_autowrap : (value : Bool) (s : Console) → IsReached s → IsReached (mode_effect value Decawm s)
reached_autowrap true s reached = record { wrap = λ is. ((reached.wrap is).0, refl); saved = reached.saved; insert = reached.insert }
reached_autowrap false s reached = record { wrap = λ is. absurd (cc); saved = reached.saved; insert = reached.insert }

reached_mode : (value : Bool) (mode : PrivateMode) (s : Console) → IsReached s → IsReached (mode_effect value mode s)
reached_mode value Decanm s reached = reached_vt52_entered value s reached
reached_mode value Deccolm s reached = reached_none s _ refl refl refl refl reached
reached_mode value Decom s reached = record { wrap = λ is. absurd (cc); saved = reached.saved; insert = reached.insert }
reached_mode value Decawm s reached = reached_autowrap value s reached
reached_mode value _ s reached = reached_else s _ refl refl refl refl refl reached

reached_mode_of : (value : Bool) (mode : Option PrivateMode) (s : Console) → IsReached s → IsReached (effect_of (mode_effect value) mode s)
reached_mode_of value None s reached = reached
reached_mode_of value (Some mode) s reached = reached_mode value mode s reached

reached_privates : (value : Bool) (params : List ℕ) (s : Console) → IsReached s → IsReached (fold (mode_set value) s params)
reached_privates value [] s reached = reached
reached_privates value (param ∷ params) s reached =
    reached_privates value params (mode_set value s param) (reached_mode_of value (named private_modes param) s reached)

reached_control_sequence : (private : Bool) (last : ℕ) (params : List ℕ) (s : Console) → IsSafe s → IsReached s
    → IsReached (control_sequence_effect private last params s)
reached_control_sequence true last params s safe reached =
    reached_row (modes_set params) (λ value t safe_t reached_t. reached_privates value params t reached_t) (named switches last) s safe reached
reached_control_sequence false last params s safe reached =
    reached_row (λ row. sequence_effect row params) (λ row. reached_sequence row params) (named sequences last) s safe reached

reached_vt52 : (sequence : Vt52Sequence) (s : Console) → IsSafe s → IsReached s → IsReached (vt52_effect sequence s)
reached_vt52 ReverseIndex s safe reached = reached_none s _ (reverse_indexed_none s.picture) refl refl refl reached
reached_vt52 EraseDisplay s safe reached = reached_with s _ (stays_display_erased 0 s.modes.autowrap s.picture safe.sound reached.wrap) refl refl refl reached
reached_vt52 EraseLine s safe reached = reached_with s _ (stays_line_erased 0 s.modes.autowrap s.picture safe.sound reached.wrap) refl refl refl reached
reached_vt52 Up s safe reached = reached_none s _ refl refl refl refl reached
reached_vt52 Down s safe reached = reached_none s _ refl refl refl refl reached
reached_vt52 Right s safe reached = reached_none s _ refl refl refl refl reached
reached_vt52 Left s safe reached = reached_none s _ refl refl refl refl reached
reached_vt52 Home s safe reached = reached_none s _ refl refl refl refl reached
reached_vt52 Identify s safe reached = reached
reached_vt52 _ s safe reached = reached_else s _ refl refl refl refl refl reached

reached_effect : (command : Command) (s : Console) → IsSafe s → IsReached s → IsReached (effect command s)
unfolding effect
reached_effect (Show byte) s safe reached = reached_put s (glyph_for s byte) safe reached
reached_effect Error s safe reached = reached_put s checkerboard safe reached
reached_effect (ControlOf byte) s safe reached = reached_row control_effect reached_control (named controls byte) s safe reached
reached_effect (Esc inter last) s safe reached = reached_row escape_effect reached_escape (escape_named inter last) s safe reached
reached_effect (Csi private params last) s safe reached = reached_control_sequence private last params.items s safe reached
reached_effect (Vt52 last) s safe reached = reached_row vt52_effect reached_vt52 (named vt52_sequences last) s safe reached
reached_effect (Vt52Address line column) s safe reached = reached_none s _ refl refl refl refl reached

-- ---- every term

reached_if : (command : Option Command) (s : Console) → IsSafe s → IsReached s → IsReached (effect_of effect command s)
reached_if None s safe reached = reached
reached_if (Some command) s safe reached = reached_effect command s safe reached

pub record IsWhole (s : Console) : Type 0 where
  pub safe : IsSafe s
  pub reached : IsReached s

whole_play : (x : Term) (bytes : List ℕ) → IsWhole x.console → IsWhole (play x bytes).console
unfolding play
whole_play x [] whole = whole
whole_play x (byte ∷ bytes) whole =
    whole_play (step x byte) bytes
    (record { safe = safe_step x byte whole.safe; reached = reached_if (command_of (mode_of x) x.pending byte) x.console whole.safe whole.reached })

pub whole_of_reset : (profile : Profile) (bytes : List ℕ) → IsWhole (play (reset_term_as profile) bytes).console
whole_of_reset profile bytes = whole_play (reset_term_as profile) bytes (record { safe = safe_reset profile; reached = reached_reset profile })
