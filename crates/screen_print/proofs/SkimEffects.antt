-- Bytes that leave a screen lacking a key.
use Rattle.std.proofs.Common.{◌≡◌, ◌≢◌, ◌⊎◌, ℕ, zero, suc, ◌≤◌, Bool, true, false, ◌==◌, List, [], ◌∷◌, ◌++◌, drop, take, nat_le, refl, ap, sym, ◌∙◌, subst, inl, inr, if◌then◌else◌, fold, Option, Some, None, IfSome, option_map}
use Rattle.std.specs.List.{All, AllByRecursion}
use Rattle.std.proofs.lemmas.List.{take-take}
use Rattle.std.proofs.lemmas.List.Elements.{recursion_from_All}
use Rattle.std.proofs.lemmas.Bool.{cases_Bool, ne_eqb, leb-true}
use Rattle.vt_parser.specs.declared.commands.Mode.{Mode}
use Rattle.vt_parser.specs.declared.commands.Mode.TheVariants.{Ansi, Vt52 as Vt52Mode}
use Rattle.vt_parser.specs.declared.commands.Command.{Command}
use Rattle.vt_parser.specs.declared.commands.Command.TheVariants.{Show, Error, Control as ControlOf, Esc, Csi, Vt52, Vt52Address}
use Rattle.vt_parser.specs.declared.syntax.Action.{Action}
use Rattle.vt_parser.specs.declared.syntax.Action.TheVariants.{Ignore, Execute, Print, Mark, Begin, Join, End, Cancel}
use Rattle.vt_parser.specs.Syntax.{action_of, is_within}
use Rattle.vt_parser.specs.Forms.{control_sequence_meaning, escape_meaning, front, final, is_control_sequence_begun, is_line_begun, is_well_formed, is_whole, meaning}
use Rattle.vt_parser.specs.Step.{command_by, command_of, context_of, pending_after, pending_by}
use Rattle.vt_screen.specs.declared.cell.Row.{Row}
use Rattle.vt_screen.specs.Cells.{row_at}
use Rattle.vt_screen.specs.Erasures.{display_erased, line_erased}
use Rattle.vt_screen.specs.Lines.{columns_set, margins_set, are_margins}
use Rattle.vt_screen.specs.Moves.{moved_home, moved_to_left}
use Rattle.vt_screen.specs.Picture.{Picture}
use Rattle.vt_screen.specs.Puts.{shown}
use Rattle.vt_screen.specs.Scrolls.{lines_deleted, lines_inserted, reverse_indexed}
use Rattle.vt_screen.specs.CellEdits.{cells_deleted}
use Rattle.vt_screen.specs.Tabs.{tab_made, tabs_cleared}
use Rattle.vt_term.specs.declared.sets.CharacterSet.{CharacterSet}
use Rattle.vt_term.specs.declared.sets.CharacterSet.TheVariants.{Ascii, Uk, SpecialGraphics}
use Rattle.vt_term.specs.declared.sets.Slot.{Slot}
use Rattle.vt_term.specs.declared.sets.Slot.TheVariants.{G0, G1}
use Rattle.vt_term.specs.declared.modes.Modes.{Modes}
use Rattle.vt_term.specs.declared.profile.Profile.{Profile}
use Rattle.vt_term.specs.declared.profile.Profile.TheVariants.{Vt100}
use Rattle.vt_term.specs.declared.saved.Saved.{Saved}
use Rattle.vt_term.specs.Sets.{glyph_of, set_in_use}
use Rattle.vt_term.specs.Profile.{has_editing}
use Rattle.vt_term.specs.Console.{Console, IsSafe, on_picture, effect_of}
use Rattle.vt_term.specs.Rows.{named}
use Rattle.vt_term.specs.Controls.{Control, Lf, So, Si, controls, control_effect, line_fed, invoked}
use Rattle.vt_term.specs.Escapes.{Escape, Ind, Nel, Ri, Ris, Decrc, DecdhlTop, DecdhlBottom, Decswl, Decdwl, Decaln, Scs, character_sets, designation_named, escape_named, escape_effect, plain_escapes, restored}
use Rattle.vt_term.specs.Sequences.{Sequence, Ed, El, Il, Dl, Dch, Decstbm, Tbc, Sm, Rm, AnsiMode, Irm, Lnm, ansi_modes, ansi_mode_effect, ansi_mode_set, erased, param_or, sequences, sequence_effect, tabs_taken, where_it_edits}
use Rattle.vt_term.specs.PrivateModes.{PrivateMode, Decanm, Deccolm, Decawm, private_modes, switches, mode_effect, mode_set, modes_set}
use Rattle.vt_term.specs.Vt52.{Vt52Sequence, ReverseIndex, EraseDisplay, EraseLine, vt52_sequences, vt52_effect}
use Rattle.vt_term.specs.Effect.{effect, glyph_shown, glyph_for, control_sequence_effect}
use Rattle.vt_term.specs.Term.{Term, mode_of, step, play}
use Rattle.screen_rows.specs.Glyphs.{character}
use Rattle.screen_print.specs.Skim.{IsCalm, IsKey, IsPlain, RowLacks, ScreenLacks, is_in}
use Rattle.screen_print.proofs.SkimRows.{columns_lack, erase_display_lacks, erase_line_lacks, index_lacks, left_lacks, pick, reset_lacks, reverse_index_lacks, shown_checked, shown_lacks}

-- ---- what a byte comes to

-- not one of the escape sequences that change the size of a line, or fill the screen
abbrev pub is_calm : Escape → Bool
is_calm DecdhlTop = false
is_calm DecdhlBottom = false
is_calm Decswl = false
is_calm Decdwl = false
is_calm Decaln = false
is_calm _ = true

-- the escape sequence with the intermediate # isn't given
abbrev pub IsCalmCommand : Command → Type 0
IsCalmCommand (Esc inter last) = inter ≢ Some 35
IsCalmCommand _ = Unit {0}

-- the glyph that a command puts
abbrev pub glyph_put : Command → Console → Option ℕ
glyph_put (Show byte) s = Some (glyph_for s byte)
glyph_put Error s = Some 2
glyph_put _ s = None

-- what a sequence asks for is calm, and puts no glyph
pub record IsMute (command : Command) : Type 0 where
  pub calm : IsCalmCommand command
  pub puts : (s : Console) → glyph_put command s ≡ None

one_byte : (bytes : List ℕ) (byte : ℕ) → front (bytes ++ byte ∷ []) ≡ bytes
one_byte [] byte = refl
one_byte (a ∷ []) byte = refl
one_byte (a ∷ b ∷ rest) byte = ap (λ l. a ∷ l) (one_byte (b ∷ rest) byte)

mute_escape : (inters : List ℕ) (last : ℕ) → inters ≢ 35 ∷ [] → IfSome (escape_meaning inters last) IsMute
mute_escape [] last apart = record { calm = λ e. cc; puts = λ s. refl }
mute_escape (inter ∷ []) last apart =
    record { calm = λ (e : Some inter ≡ Some 35). apart (ap (λ n. n ∷ []) (cc e)); puts = λ s. refl }
mute_escape (inter ∷ next ∷ rest) last apart = tt

mute_sequence : (text : List ℕ) (last : ℕ) → IfSome (control_sequence_meaning text last) IsMute
mute_sequence text last = elim (cases_Bool (is_well_formed text)) [
  | inl t ↦ rw t (record { calm = tt; puts = λ s. refl })
  | inr f ↦ rw f tt
]

mute_meaning : (mode : Mode) (pending : List ℕ) (byte : ℕ) → drop 1 pending ≢ 35 ∷ [] → IfSome (meaning mode (pending ++ byte ∷ [])) IsMute
unfolding meaning
mute_meaning Ansi pending byte apart = rw (one_byte pending byte) (elim (cases_Bool (is_control_sequence_begun pending)) [
  | inl t ↦ rw t (mute_sequence (drop 2 pending) (final (pending ++ byte ∷ [])))
  | inr f ↦ rw f (mute_escape (drop 1 pending) (final (pending ++ byte ∷ [])) apart)
])
mute_meaning Vt52Mode pending byte apart = rw (one_byte pending byte) (elim (cases_Bool (is_line_begun pending)) [
  | inl t ↦ rw t (record { calm = tt; puts = λ s. refl })
  | inr f ↦ rw f (record { calm = tt; puts = λ s. refl })
])

-- what a byte gives: a character, the error character, or what puts no glyph
pub record IsOf (byte : ℕ) (command : Command) : Type 0 where
  pub calm : IsCalmCommand command
  pub puts : (s : Console) → (glyph_put command s ≡ None) ⊎ ((glyph_put command s ≡ Some (glyph_for s byte)) ⊎ (glyph_put command s ≡ Some 2))

put_one : (P : ℕ → Type 0) (command : Command) (byte : ℕ) (s : Console) → IsOf byte command → P (glyph_for s byte) → P 2 → IfSome (glyph_put command s) P
put_one P command byte s is one two = elim (is.puts s) [
  | inl e ↦ subst (λ g. IfSome g P) (sym e) tt
  | inr rest ↦ elim rest [
    | inl e ↦ subst (λ g. IfSome g P) (sym e) one
    | inr e ↦ subst (λ g. IfSome g P) (sym e) two
  ]
]

of_mute : (byte : ℕ) (command : Option Command) → IfSome command IsMute → IfSome command (IsOf byte)
of_mute byte None h = tt
of_mute byte (Some command) h = record { calm = h.calm; puts = λ s. inl (h.puts s) }

of_action : (action : Action) (mode : Mode) (pending : List ℕ) (byte : ℕ) → drop 1 pending ≢ 35 ∷ [] → IfSome (command_by action mode pending byte) (IsOf byte)
of_action Ignore mode pending byte apart = tt
of_action Execute mode pending byte apart = elim (cases_Bool (is_within 8 15 byte)) [
  | inl t ↦ rw t (record { calm = tt; puts = λ s. inl refl })
  | inr f ↦ rw f tt
]
of_action Print mode pending byte apart = record { calm = tt; puts = λ s. inr (inl refl) }
of_action Mark mode pending byte apart = record { calm = tt; puts = λ s. inr (inr refl) }
of_action Begin mode pending byte apart = tt
of_action Join mode pending byte apart = elim (cases_Bool (is_whole mode (pending ++ byte ∷ []))) [
  | inl t ↦ rw t (of_mute byte (meaning mode (pending ++ byte ∷ [])) (mute_meaning mode pending byte apart))
  | inr f ↦ rw f tt
]
of_action End mode pending byte apart = tt
of_action Cancel mode pending byte apart = record { calm = tt; puts = λ s. inr (inr refl) }

of_byte : (mode : Mode) (pending : List ℕ) (byte : ℕ) → drop 1 pending ≢ 35 ∷ [] → IfSome (command_of mode pending byte) (IsOf byte)
unfolding command_of
of_byte mode pending byte apart = of_action (action_of (context_of mode pending) byte) mode pending byte apart

-- ---- what is pending

longer : (b : ℕ) (rest : List ℕ) (byte : ℕ) → b ∷ (rest ++ byte ∷ []) ≢ 35 ∷ []
longer b [] byte e = cc
longer b (a ∷ rest) byte e = cc

joined_calm : (pending : List ℕ) (byte : ℕ) → byte ≢ 35 → drop 1 (pending ++ byte ∷ []) ≢ 35 ∷ []
joined_calm [] byte unmarked e = cc
joined_calm (a ∷ []) byte unmarked e = unmarked (cc e)
joined_calm (a ∷ b ∷ rest) byte unmarked e = longer b rest byte e

calm_action : (action : Action) (mode : Mode) (pending : List ℕ) (byte : ℕ) → byte ≢ 35 → drop 1 pending ≢ 35 ∷ [] → drop 1 (pending_by action mode pending byte) ≢ 35 ∷ []
calm_action Begin mode pending byte unmarked apart = λ e. cc
calm_action Join mode pending byte unmarked apart = elim (cases_Bool (is_whole mode (pending ++ byte ∷ []))) [
  | inl t ↦ rw t (λ e. cc)
  | inr f ↦ rw f (joined_calm pending byte unmarked)
]
calm_action End mode pending byte unmarked apart = λ e. cc
calm_action Cancel mode pending byte unmarked apart = λ e. cc
calm_action _ mode pending byte unmarked apart = apart

calm_byte : (mode : Mode) (pending : List ℕ) (byte : ℕ) → byte ≢ 35 → drop 1 pending ≢ 35 ∷ [] → drop 1 (pending_after mode pending byte) ≢ 35 ∷ []
unfolding pending_after
calm_byte mode pending byte unmarked apart = calm_action (action_of (context_of mode pending) byte) mode pending byte unmarked apart

-- ---- tables

named_holds : {Name : Type 0} (P : Name → Type 0) (rows : List (ℕ × Name)) (number : ℕ) → AllByRecursion (λ (row : ℕ × Name). P row.1) rows → IfSome (named rows number) P
named_holds P [] number h = tt
named_holds P (row ∷ rest) number h = pick (λ found. IfSome found P) (number == row.0) (Some row.1) (named rest number) h.0 (named_holds P rest number h.1)

calm_named : (inter : Option ℕ) (last : ℕ) → inter ≢ Some 35 → IfSome (escape_named inter last) (λ e. is_calm e ≡ true)
calm_named None last apart =
    named_holds (λ e. is_calm e ≡ true) plain_escapes last (refl, (refl, (refl, (refl, (refl, (refl, (refl, (refl, (refl, (refl, tt))))))))))
calm_named (Some inter) last apart =
    rw (ne_eqb inter 35 (λ e. apart (ap (λ n. Some n) e)))
    (pick (λ found. IfSome found (λ e. is_calm e ≡ true)) (inter == 40) (designation_named G0 last) (if inter == 41 then designation_named G1 last else None)
    (calm_designation G0 (named character_sets last))
    (pick (λ found. IfSome found (λ e. is_calm e ≡ true)) (inter == 41) (designation_named G1 last) None (calm_designation G1 (named character_sets last)) tt))
  where
    calm_designation : (slot : Slot) (set : Option CharacterSet) → IfSome (option_map (Scs slot) set) (λ e. is_calm e ≡ true)
    calm_designation slot None = tt
    calm_designation slot (Some set) = refl

-- ---- what a command leaves

insert_kept : (value : Bool) (params : List ℕ) (modes : Modes) → (fold (ansi_mode_set Vt100 value) modes params).insert ≡ modes.insert
insert_kept value [] modes = refl
insert_kept value (param ∷ params) modes =
    insert_kept value params (ansi_mode_set Vt100 value modes param) ∙ insert_stays (named ansi_modes param)
  where
    insert_stays : (mode : Option AnsiMode) → (effect_of (ansi_mode_effect Vt100 value) mode modes).insert ≡ modes.insert
    insert_stays None = refl
    insert_stays (Some Irm) = refl
    insert_stays (Some Lnm) = refl

module _ (key : List ℕ) (good : IsKey key) where
  -- a VT100 in no insert mode, of which the screen lacks the key
  pub record Skims (s : Console) : Type 0 where
    pub profile : s.profile ≡ Vt100
    pub over : s.modes.insert ≡ false
    pub lacks : ScreenLacks key s.picture

  on : (s : Console) (op : Picture → Picture) → (ScreenLacks key s.picture → ScreenLacks key (op s.picture)) → Skims s → Skims (on_picture op s)
  on s op keeps h = record { profile = h.profile; over = h.over; lacks = keeps h.lacks }

  -- rows and width stay
  still : (s t : Console) → t.picture.rows ≡ s.picture.rows → t.picture.wide ≡ s.picture.wide → t.profile ≡ s.profile → t.modes.insert ≡ s.modes.insert → Skims s → Skims t
  still s t rows wide profile insert h = record {
    profile = profile ∙ h.profile;
    over = insert ∙ h.over;
    lacks = record {
      row = λ line.
          subst (λ w. RowLacks key w (row_at t.picture.rows line)) (sym wide)
          (subst (λ (these : List Row). RowLacks key s.picture.wide (row_at these line)) (sym rows) (h.lacks.row line));
    };
  }

  lf_lacks : (newline : Bool) (p : Picture) → ScreenLacks key p → ScreenLacks key (line_fed newline p)
  lf_lacks true p lacks = index_lacks key good (moved_to_left p) (left_lacks key good p lacks)
  lf_lacks false p lacks = index_lacks key good p lacks

  skims_invoked : (slot : Slot) (mode : Mode) (s : Console) → Skims s → Skims (invoked slot mode s)
  skims_invoked slot Ansi s h = still s _ refl refl refl refl h
  skims_invoked slot Vt52Mode s h = h

  skims_control : (control : Control) (s : Console) → Skims s → Skims (control_effect control s)
  skims_control Lf s h = on s (line_fed s.modes.newline) (lf_lacks s.modes.newline s.picture) h
  skims_control So s h = skims_invoked G1 s.modes.mode s h
  skims_control Si s h = skims_invoked G0 s.modes.mode s h
  skims_control _ s h = still s _ refl refl refl refl h

  skims_row : {Name : Type 0} (change : Name → Console → Console) (P : Name → Type 0)
      → ((row : Name) (s : Console) → P row → Skims s → Skims (change row s)) → (row : Option Name) (s : Console) → IfSome row P → Skims s
      → Skims (effect_of change row s)
  skims_row change P each None s p h = h
  skims_row change P each (Some row) s p h = each row s p h

  any : {Name : Type 0} (row : Option Name) → IfSome row (λ _. Unit {0})
  any None = tt
  any (Some row) = tt

  skims_restored : (saved : Option Saved) (s : Console) → Skims s → Skims (restored saved s)
  skims_restored None s h = still s _ refl refl refl refl h
  skims_restored (Some saved) s h = still s _ refl refl refl refl h

  skims_escape : (escape : Escape) (s : Console) → is_calm escape ≡ true → Skims s → Skims (escape_effect escape s)
  skims_escape Ind s calm h = on s (line_fed false) (lf_lacks false s.picture) h
  skims_escape Nel s calm h = on s (line_fed true) (lf_lacks true s.picture) h
  skims_escape Ri s calm h = on s reverse_indexed (reverse_index_lacks key good s.picture) h
  skims_escape Ris s calm h = record { profile = h.profile; over = refl; lacks = reset_lacks key good }
  skims_escape Decrc s calm h = skims_restored s.saved s h
  skims_escape DecdhlTop s calm h = absurd cc
  skims_escape DecdhlBottom s calm h = absurd cc
  skims_escape Decswl s calm h = absurd cc
  skims_escape Decdwl s calm h = absurd cc
  skims_escape Decaln s calm h = absurd cc
  skims_escape _ s calm h = still s _ refl refl refl refl h

  none_edited : (b : Bool) (t s : Console) → b ≡ false → Skims s → Skims (if b then t else s)
  none_edited true t s e h = absurd cc
  none_edited false t s e h = h

  unedited : (edit : Picture → Picture) (s : Console) → Skims s → Skims (where_it_edits edit s)
  unedited edit s h = none_edited (has_editing s.profile) (on_picture edit s) s (ap has_editing h.profile) h

  skims_ansi_modes : (value : Bool) (params : List ℕ) (s : Console) → Skims s → Skims (record s { modes = fold (ansi_mode_set s.profile value) s.modes params })
  skims_ansi_modes value params s h =
      still s _ refl refl refl
      (subst (λ (profile : Profile). (fold (ansi_mode_set profile value) s.modes params).insert ≡ s.modes.insert) (sym h.profile) (insert_kept value params s.modes)) h

  skims_sequence : (sequence : Sequence) (params : List ℕ) (s : Console) → IsSafe s → Skims s → Skims (sequence_effect sequence params s)
  skims_sequence Ed params s safe h =
      on s (erased display_erased (param_or params 0 0)) (λ lacks. pick (ScreenLacks key) (nat_le (param_or params 0 0) 2) (display_erased (param_or params 0 0) s.picture) s.picture
      (erase_display_lacks key good (param_or params 0 0) s.picture safe.sound lacks) lacks) h
  skims_sequence El params s safe h =
      on s (erased line_erased (param_or params 0 0)) (λ lacks. pick (ScreenLacks key) (nat_le (param_or params 0 0) 2) (line_erased (param_or params 0 0) s.picture) s.picture
      (erase_line_lacks key good (param_or params 0 0) s.picture lacks) lacks) h
  skims_sequence Il params s safe h = unedited (lines_inserted (param_or params 0 1)) s h
  skims_sequence Dl params s safe h = unedited (lines_deleted (param_or params 0 1)) s h
  skims_sequence Dch params s safe h = unedited (cells_deleted (param_or params 0 1)) s h
  skims_sequence Decstbm params s safe h =
      let top = param_or params 0 1 in
      let bottom = param_or params 1 24 in
      on s (margins_set top bottom s.modes.origin) (λ lacks. pick (ScreenLacks key) (are_margins top bottom) (moved_home s.modes.origin (record s.picture { top = top; bottom = bottom })) s.picture
      (record { row = lacks.row }) lacks) h
  skims_sequence Tbc params s safe h =
      let param = param_or params 0 0 in
      on s (tabs_taken param) (λ lacks. pick (ScreenLacks key) (param == 0) (tab_made false s.picture) (if param == 3 then tabs_cleared s.picture else s.picture)
      (record { row = lacks.row }) (pick (ScreenLacks key) (param == 3) (tabs_cleared s.picture) s.picture (record { row = lacks.row }) lacks)) h
  skims_sequence Sm params s safe h = skims_ansi_modes true params s h
  skims_sequence Rm params s safe h = skims_ansi_modes false params s h
  skims_sequence _ params s safe h = still s _ refl refl refl refl h

  skims_vt52_entered : (value : Bool) (s : Console) → Skims s → Skims (mode_effect value Decanm s)
  skims_vt52_entered true s h = h
  skims_vt52_entered false s h = still s _ refl refl refl refl h

  skims_autowrap : (value : Bool) (s : Console) → Skims s → Skims (mode_effect value Decawm s)
  skims_autowrap true s h = still s _ refl refl refl refl h
  skims_autowrap false s h = still s _ refl refl refl refl h

  skims_mode : (value : Bool) (mode : PrivateMode) (s : Console) → Skims s → Skims (mode_effect value mode s)
  skims_mode value Decanm s h = skims_vt52_entered value s h
  skims_mode value Deccolm s h = on s (columns_set value s.modes.origin) (columns_lack key good value s.modes.origin s.picture) h
  skims_mode value Decawm s h = skims_autowrap value s h
  skims_mode value _ s h = still s _ refl refl refl refl h

  skims_modes : (value : Bool) (params : List ℕ) (s : Console) → Skims s → Skims (fold (mode_set value) s params)
  skims_modes value [] s h = h
  skims_modes value (param ∷ params) s h =
      skims_modes value params (mode_set value s param)
      (skims_row (mode_effect value) (λ _. Unit {0}) (λ mode t p. skims_mode value mode t) (named private_modes param) s (any (named private_modes param)) h)

  skims_named : (sequence : Option Sequence) (params : List ℕ) (s : Console) → IsSafe s → Skims s → Skims (effect_of (λ row. sequence_effect row params) sequence s)
  skims_named None params s safe h = h
  skims_named (Some sequence) params s safe h = skims_sequence sequence params s safe h

  skims_control_sequence : (private : Bool) (last : ℕ) (params : List ℕ) (s : Console) → IsSafe s → Skims s → Skims (control_sequence_effect private last params s)
  skims_control_sequence true last params s safe h =
      skims_row (modes_set params) (λ _. Unit {0}) (λ value t p. skims_modes value params t) (named switches last) s (any (named switches last)) h
  skims_control_sequence false last params s safe h = skims_named (named sequences last) params s safe h

  skims_vt52 : (sequence : Vt52Sequence) (s : Console) → IsSafe s → Skims s → Skims (vt52_effect sequence s)
  skims_vt52 ReverseIndex s safe h = on s reverse_indexed (reverse_index_lacks key good s.picture) h
  skims_vt52 EraseDisplay s safe h = on s (display_erased 0) (erase_display_lacks key good 0 s.picture safe.sound) h
  skims_vt52 EraseLine s safe h = on s (line_erased 0) (erase_line_lacks key good 0 s.picture) h
  skims_vt52 _ s safe h = still s _ refl refl refl refl h

  skims_vt52_named : (sequence : Option Vt52Sequence) (s : Console) → IsSafe s → Skims s → Skims (effect_of vt52_effect sequence s)
  skims_vt52_named None s safe h = h
  skims_vt52_named (Some sequence) s safe h = skims_vt52 sequence s safe h

  -- a command that puts no glyph, or one after which the screen lacks the key
  skims_effect : (command : Command) (s : Console) → IsSafe s → IsCalmCommand command
      → IfSome (glyph_put command s) (λ glyph. ScreenLacks key (glyph_shown glyph s).picture) → Skims s → Skims (effect command s)
  unfolding effect
  skims_effect (Show byte) s safe calm put h = record { profile = h.profile; over = h.over; lacks = put }
  skims_effect Error s safe calm put h = record { profile = h.profile; over = h.over; lacks = put }
  skims_effect (ControlOf byte) s safe calm put h =
      skims_row control_effect (λ _. Unit {0}) (λ control t p. skims_control control t) (named controls byte) s (any (named controls byte)) h
  skims_effect (Esc inter last) s safe calm put h =
      skims_row escape_effect (λ e. is_calm e ≡ true) skims_escape (escape_named inter last) s (calm_named inter last calm) h
  skims_effect (Csi private params last) s safe calm put h = skims_control_sequence private last params.items s safe h
  skims_effect (Vt52 last) s safe calm put h = skims_vt52_named (named vt52_sequences last) s safe h
  skims_effect (Vt52Address line column) s safe calm put h = still s _ refl refl refl refl h

  -- ---- bytes

  -- in no insert mode a glyph takes the place of another
  put_over : (glyph : ℕ) (s : Console) → s.modes.insert ≡ false → (P : Picture → Type 0) → P (shown glyph s.rendition s.modes.autowrap s.picture) → P (glyph_shown glyph s).picture
  put_over glyph s over P h = rw over h

  put_under : (glyph : ℕ) (s : Console) → s.modes.insert ≡ false → (P : Picture → Type 0) → P (glyph_shown glyph s).picture → P (shown glyph s.rendition s.modes.autowrap s.picture)
  put_under glyph s over P h = rw over at h

  strange_shown : (glyph : ℕ) (s : Console) → Skims s → is_in key (character glyph) ≡ false → ScreenLacks key (glyph_shown glyph s).picture
  strange_shown glyph s h strange =
      put_over glyph s h.over (ScreenLacks key) (shown_lacks key good glyph s.rendition s.modes.autowrap strange s.picture h.lacks)

  checked_shown : (glyph : ℕ) (s : Console) → Skims s → (let p = (glyph_shown glyph s).picture in RowLacks key p.wide (row_at p.rows p.line)) → ScreenLacks key (glyph_shown glyph s).picture
  checked_shown glyph s h here =
      put_over glyph s h.over (ScreenLacks key)
      (shown_checked key good glyph s.rendition s.modes.autowrap s.picture h.lacks (put_under glyph s h.over (λ (p : Picture). RowLacks key p.wide (row_at p.rows p.line)) here))

  plain_glyph : (set : CharacterSet) (byte : ℕ) → IsPlain key byte → is_in key (character (glyph_of set byte)) ≡ false
  plain_glyph Ascii byte plain = plain.ascii
  plain_glyph Uk byte plain = rw (ne_eqb byte 35 plain.unmarked) plain.ascii
  plain_glyph SpecialGraphics byte plain = elim (cases_Bool (nat_le 95 byte)) [
    | inl t ↦ rw t (plain.drawn (leb-true 95 byte t))
    | inr f ↦ rw f plain.ascii
  ]

  -- what a plain byte gives
  plain_command : (command : Option Command) (byte : ℕ) (s : Console) → IsSafe s → IfSome command (IsOf byte) → IsPlain key byte → Skims s → Skims (effect_of effect command s)
  plain_command None byte s safe is plain h = h
  plain_command (Some command) byte s safe is plain h =
      skims_effect command s safe is.calm
      (put_one (λ glyph. ScreenLacks key (glyph_shown glyph s).picture) command byte s is
      (strange_shown (glyph_for s byte) s h (plain_glyph (set_in_use s.modes.mode s.sets) byte plain)) (strange_shown 2 s h good.sound)) h

  -- what any byte gives, where the row of the cursor lacks the key then
  checked_put : (command : Command) (s : Console) → Skims s → (let p = (effect command s).picture in RowLacks key p.wide (row_at p.rows p.line))
      → IfSome (glyph_put command s) (λ glyph. ScreenLacks key (glyph_shown glyph s).picture)
  unfolding effect
  checked_put (Show byte) s h here = checked_shown (glyph_for s byte) s h here
  checked_put Error s h here = checked_shown 2 s h here
  checked_put _ s h here = tt

  checked_command : (command : Option Command) (byte : ℕ) (s : Console) → IsSafe s → IfSome command (IsOf byte) → Skims s
      → (let p = (effect_of effect command s).picture in RowLacks key p.wide (row_at p.rows p.line)) → Skims (effect_of effect command s)
  checked_command None byte s safe is h here = h
  checked_command (Some command) byte s safe is h here = skims_effect command s safe is.calm (checked_put command s h here) h

  skims_of : (x : Term) → IsCalm x → ScreenLacks key x.console.picture → Skims x.console
  skims_of x calm lacks = record { profile = calm.profile; over = calm.over; lacks = lacks }

  -- a calm term of which the screen lacks the key
  pub record Lasts (x : Term) : Type 0 where
    pub calm : IsCalm x
    pub lacks : ScreenLacks key x.console.picture

  lasts_on : (x : Term) (byte : ℕ) → IsSafe x.console → IsPlain key byte → Lasts x → Lasts (step x byte)
  lasts_on x byte safe plain h =
      let after = plain_command (command_of (mode_of x) x.pending byte) byte x.console safe (of_byte (mode_of x) x.pending byte h.calm.pending) plain (skims_of x h.calm h.lacks) in
      record {
        calm = record { profile = after.profile; over = after.over; pending = calm_byte (mode_of x) x.pending byte plain.unmarked h.calm.pending };
        lacks = after.lacks;
      }

  one_step : (x : Term) (byte : ℕ) → play x (byte ∷ []) ≡ step x byte
  unfolding play
  one_step x byte = refl

  -- plain bytes, however many of them were played
  pub plain_lasts : ((x : Term) (bytes : List ℕ) → IsSafe x.console → IsSafe (play x bytes).console) → (x : Term) (bytes : List ℕ) (count : ℕ) → IsSafe x.console
      → AllByRecursion (IsPlain key) bytes → Lasts x → Lasts (play x (take count bytes))
  unfolding play
  plain_lasts safes x bytes zero safe plain h = h
  plain_lasts safes x [] (suc count) safe plain h = h
  plain_lasts safes x (byte ∷ bytes) (suc count) safe plain h =
      plain_lasts safes (step x byte) bytes count (safes x (byte ∷ []) safe) plain.1 (lasts_on x byte safe plain.0 h)

  -- any byte, where the row of the cursor lacks the key then
  pub checked_lacks : (x : Term) (byte : ℕ) → IsSafe x.console → IsCalm x → ScreenLacks key x.console.picture
      → (let p = (play x (byte ∷ [])).console.picture in RowLacks key p.wide (row_at p.rows p.line)) → ScreenLacks key (play x (byte ∷ [])).console.picture
  unfolding play
  checked_lacks x byte safe calm lacks here =
      (checked_command (command_of (mode_of x) x.pending byte) byte x.console safe (of_byte (mode_of x) x.pending byte calm.pending) (skims_of x calm lacks) here).lacks

  pub plain_lacks : (x : Term) (byte : ℕ) → IsSafe x.console → IsCalm x → ScreenLacks key x.console.picture → IsPlain key byte → ScreenLacks key (play x (byte ∷ [])).console.picture
  unfolding play
  plain_lacks x byte safe calm lacks plain = (lasts_on x byte safe plain (record { calm = calm; lacks = lacks })).lacks

  -- bytes that are plain, however many of them were played
  pub running_lasts : ((x : Term) (bytes : List ℕ) → IsSafe x.console → IsSafe (play x bytes).console) → (x : Term) (bytes : List ℕ) (n count : ℕ)
      → IsSafe x.console → All (IsPlain key) (take n bytes) → IsCalm x → ScreenLacks key x.console.picture → count ≤ n → Lasts (play x (take count bytes))
  running_lasts safes x bytes n count safe running calm lacks high =
      subst (λ (b : List ℕ). Lasts (play x b)) (take-take count n bytes high)
      (plain_lasts safes x (take n bytes) count safe (recursion_from_All (IsPlain key) (take n bytes) running) (record { calm = calm; lacks = lacks }))
