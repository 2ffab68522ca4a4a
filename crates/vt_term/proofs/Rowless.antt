-- What has no row does nothing; the mode that a command leaves.
use Rattle.std.proofs.Common.{◌≡◌, ℕ, Bool, true, false, List, [], ◌∷◌, refl, ap, ◌∙◌}
use Rattle.std.specs.Prelude.{fold, Option, Some, None, is_some, if◌then◌else◌}
use Rattle.vt_parser.specs.declared.commands.Command.TheVariants.{Show, Error, Control as ControlOf, Esc, Csi, Vt52, Vt52Address}
use Rattle.vt_term.specs.declared.profile.Profile.{Profile}
use Rattle.vt_term.specs.declared.profile.Profile.TheVariants.{Vt100, Vt102}
use Rattle.vt_term.specs.declared.modes.Modes.{Modes}
use Rattle.vt_term.specs.declared.saved.Saved.{Saved}
use Rattle.vt_screen.specs.Picture.{Picture}
use Rattle.vt_screen.specs.Scrolls.{lines_inserted, lines_deleted}
use Rattle.vt_screen.specs.CellEdits.{cells_deleted}
use Rattle.vt_term.specs.Profile.{has_editing}
use Rattle.vt_term.specs.Rows.{named}
use Rattle.vt_term.specs.Console.{Console, effect_of, on_picture}
use Rattle.vt_term.specs.Escapes.{Escape, Decrc, escape_named, escape_effect, restored}
use Rattle.vt_term.specs.Sequences.{Sequence, Il, Dl, Dch, Sm, Rm, sequences, sequence_effect, param_or, is_row_of, AnsiMode, Irm, Lnm, ansi_modes, is_mode_of, ansi_mode_effect, ansi_mode_set}
use Rattle.vt_term.specs.PrivateModes.{PrivateMode, Decanm, private_modes, switches, mode_effect, mode_set, modes_set}
use Rattle.vt_term.specs.Vt52.{Vt52Sequence, EnterAnsi, vt52_sequences, vt52_effect}
use Rattle.vt_term.specs.Replies.{escape_reply, sequence_reply, vt52_reply, reply_of}
use Rattle.vt_term.specs.Effect.{effect, reply}
use Rattle.vt_term.specs.Played.{has_row_of, mode_by_escape, mode_by_reset, mode_by_switch, mode_by_vt52, RowlessDoNothing, RowlessModesStay, RowlessAnsiModesStay, ModeGoesAlone}
use Rattle.vt_term.proofs.Steps.{effect_mode}

-- ---- what has no row

rowless : {Name : Type 0} (change : Name → Console → Console) (answer : Name → Console → List ℕ) (row : Option Name) (s : Console)
    → is_some row ≡ false → (effect_of change row s ≡ s) × (reply_of answer row s ≡ [])
rowless change answer None s none = (refl, refl)
rowless change answer (Some row) s none = absurd cc

unedited : (change : Console → Console) (s : Console) → has_editing s.profile ≡ false
    → (if has_editing s.profile then change s else s) ≡ s
unedited change s none = simp none refl

rowless_sequence : (row : Option Sequence) (params : List ℕ) (s : Console)
    → has_row_of (is_row_of s.profile) row ≡ false
    → (effect_of (λ r. sequence_effect r params) row s ≡ s) × (reply_of (λ r. sequence_reply r (param_or params 0 0)) row s ≡ [])
rowless_sequence None params s none = (refl, refl)
rowless_sequence (Some Il) params s none = (unedited (on_picture (lines_inserted (param_or params 0 1))) s none, refl)
rowless_sequence (Some Dl) params s none = (unedited (on_picture (lines_deleted (param_or params 0 1))) s none, refl)
rowless_sequence (Some Dch) params s none = (unedited (on_picture (cells_deleted (param_or params 0 1))) s none, refl)
rowless_sequence (Some _) params s none = absurd cc

pub rowless_commands_do_nothing : RowlessDoNothing
unfolding effect reply
rowless_commands_do_nothing (Esc inter last) s none = rowless escape_effect escape_reply (escape_named inter last) s none
rowless_commands_do_nothing (Csi true params last) s none =
    ((rowless (modes_set params.items) (λ _ _. []) (named switches last) s none).0, refl)
rowless_commands_do_nothing (Csi false params last) s none = rowless_sequence (named sequences last) params.items s none
rowless_commands_do_nothing (Vt52 last) s none = rowless vt52_effect vt52_reply (named vt52_sequences last) s none
rowless_commands_do_nothing _ s none = absurd cc

pub rowless_modes_stay : RowlessModesStay
rowless_modes_stay value s param none = (rowless (mode_effect value) (λ _ _. []) (named private_modes param) s none).0

rowless_mode : (profile : Profile) (value : Bool) (row : Option AnsiMode) (modes : Modes)
    → has_row_of (is_mode_of profile) row ≡ false → effect_of (ansi_mode_effect profile value) row modes ≡ modes
rowless_mode profile value None modes none = refl
rowless_mode profile value (Some Lnm) modes none = absurd cc
rowless_mode profile value (Some Irm) modes none = simp none refl

pub rowless_ansi_modes_stay : RowlessAnsiModesStay
rowless_ansi_modes_stay profile value modes param none = rowless_mode profile value (named ansi_modes param) modes none

-- ---- the mode that a command leaves

restored_mode : (saved : Option Saved) (s : Console) → (restored saved s).modes.mode ≡ s.modes.mode
restored_mode None s = refl
restored_mode (Some saved) s = refl

escape_mode : (row : Option Escape) (s : Console) → (effect_of escape_effect row s).modes.mode ≡ mode_by_escape row s.modes.mode
escape_mode None s = refl
escape_mode (Some Decrc) s = restored_mode s.saved s
escape_mode (Some _) s = refl

edited_mode : (b : Bool) (change : Picture → Picture) (s : Console)
    → (if b then on_picture change s else s).modes.mode ≡ s.modes.mode
edited_mode true change s = refl
edited_mode false change s = refl

ansi_mode_kept : (profile : Profile) (value : Bool) (row : Option AnsiMode) (modes : Modes)
    → (effect_of (ansi_mode_effect profile value) row modes).mode ≡ modes.mode
ansi_mode_kept profile value None modes = refl
ansi_mode_kept profile value (Some Lnm) modes = refl
ansi_mode_kept Vt100 value (Some Irm) modes = refl
ansi_mode_kept Vt102 value (Some Irm) modes = refl

ansi_modes_kept : (profile : Profile) (value : Bool) (params : List ℕ) (modes : Modes)
    → (fold (ansi_mode_set profile value) modes params).mode ≡ modes.mode
ansi_modes_kept profile value [] modes = refl
ansi_modes_kept profile value (param ∷ params) modes =
    ansi_modes_kept profile value params (ansi_mode_set profile value modes param)
    ∙ ansi_mode_kept profile value (named ansi_modes param) modes

sequence_mode : (row : Option Sequence) (params : List ℕ) (s : Console)
    → (effect_of (λ r. sequence_effect r params) row s).modes.mode ≡ s.modes.mode
sequence_mode None params s = refl
sequence_mode (Some Il) params s = edited_mode (has_editing s.profile) (lines_inserted (param_or params 0 1)) s
sequence_mode (Some Dl) params s = edited_mode (has_editing s.profile) (lines_deleted (param_or params 0 1)) s
sequence_mode (Some Dch) params s = edited_mode (has_editing s.profile) (cells_deleted (param_or params 0 1)) s
sequence_mode (Some Sm) params s = ansi_modes_kept s.profile true params s.modes
sequence_mode (Some Rm) params s = ansi_modes_kept s.profile false params s.modes
sequence_mode (Some _) params s = refl

-- one parameter of h, and of l
set_mode : (row : Option PrivateMode) (s : Console) → (effect_of (mode_effect true) row s).modes.mode ≡ s.modes.mode
set_mode None s = refl
set_mode (Some Decanm) s = refl
set_mode (Some _) s = refl

reset_mode : (row : Option PrivateMode) (s : Console)
    → (effect_of (mode_effect false) row s).modes.mode ≡ mode_by_reset row s.modes.mode
reset_mode None s = refl
reset_mode (Some Decanm) s = refl
reset_mode (Some _) s = refl

set_modes : (params : List ℕ) (s : Console) → (fold (mode_set true) s params).modes.mode ≡ s.modes.mode
set_modes [] s = refl
set_modes (param ∷ params) s = set_modes params (mode_set true s param) ∙ set_mode (named private_modes param) s

reset_modes : (params : List ℕ) (s : Console)
    → (fold (mode_set false) s params).modes.mode ≡ mode_by_switch (Some false) params s.modes.mode
reset_modes [] s = refl
reset_modes (param ∷ params) s =
    reset_modes params (mode_set false s param)
    ∙ ap (mode_by_switch (Some false) params) (reset_mode (named private_modes param) s)

private_mode : (row : Option Bool) (params : List ℕ) (s : Console)
    → (effect_of (modes_set params) row s).modes.mode ≡ mode_by_switch row params s.modes.mode
private_mode None params s = refl
private_mode (Some true) params s = set_modes params s
private_mode (Some false) params s = reset_modes params s

vt52_mode : (row : Option Vt52Sequence) (s : Console) → (effect_of vt52_effect row s).modes.mode ≡ mode_by_vt52 row s.modes.mode
vt52_mode None s = refl
vt52_mode (Some EnterAnsi) s = refl
vt52_mode (Some _) s = refl

pub mode_goes_alone : ModeGoesAlone
unfolding effect
mode_goes_alone (Esc inter last) s = escape_mode (escape_named inter last) s
mode_goes_alone (Csi true params last) s = private_mode (named switches last) params.items s
mode_goes_alone (Csi false params last) s = sequence_mode (named sequences last) params.items s
mode_goes_alone (Vt52 last) s = vt52_mode (named vt52_sequences last) s
mode_goes_alone (Vt52Address line column) s = refl
mode_goes_alone (Show byte) s = refl
mode_goes_alone Error s = refl
mode_goes_alone (ControlOf byte) s = effect_mode (ControlOf byte) s refl
