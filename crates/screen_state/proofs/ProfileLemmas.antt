-- Whatever bytes come, a terminal keeps its profile.
use Rattle.std.proofs.Common.{◌≡◌, ℕ, Bool, true, false, List, [], ◌∷◌, refl, ◌∙◌}
use Rattle.std.specs.Prelude.{fold, if◌then◌else◌, Option, Some, None}
use Rattle.vt_parser.specs.declared.commands.Mode.{Mode}
use Rattle.vt_parser.specs.declared.commands.Mode.TheVariants.{Ansi, Vt52 as Vt52Mode}
use Rattle.vt_parser.specs.declared.commands.Command.{Command}
use Rattle.vt_parser.specs.declared.commands.Command.TheVariants.{Show, Error, Control as ControlOf, Esc, Csi, Vt52, Vt52Address}
use Rattle.vt_parser.specs.Step.{command_of}
use Rattle.vt_screen.specs.CellEdits.{cells_deleted}
use Rattle.vt_screen.specs.Picture.{Picture}
use Rattle.vt_screen.specs.Scrolls.{lines_deleted, lines_inserted}
use Rattle.vt_term.specs.declared.profile.Profile.{Profile}
use Rattle.vt_term.specs.declared.saved.Saved.{Saved}
use Rattle.vt_term.specs.declared.sets.Slot.{Slot}
use Rattle.vt_term.specs.Console.{Console, effect_of, on_picture}
use Rattle.vt_term.specs.Controls.{Control, So, Si, controls, control_effect, invoked}
use Rattle.vt_term.specs.Effect.{control_sequence_effect, effect}
use Rattle.vt_term.specs.Escapes.{Escape, Decrc, escape_named, escape_effect, restored}
use Rattle.vt_term.specs.PrivateModes.{PrivateMode, Decanm, Decawm, private_modes, switches, mode_effect, mode_set, modes_set}
use Rattle.vt_term.specs.Profile.{has_editing}
use Rattle.vt_term.specs.Rows.{named}
use Rattle.vt_term.specs.Sequences.{Sequence, Il, Dl, Dch, sequences, sequence_effect, param_or}
use Rattle.vt_term.specs.Term.{Term, mode_of, play, reset_term_as, step}
use Rattle.vt_term.specs.Vt52.{Vt52Sequence, Up, vt52_sequences, vt52_effect}

profile_row : {Name : Type 0} (change : Name → Console → Console) → ((row : Name) (s : Console) → (change row s).profile ≡ s.profile)
    → (row : Option Name) (s : Console) → (effect_of change row s).profile ≡ s.profile
profile_row change each None s = refl
profile_row change each (Some row) s = each row s

profile_invoked : (slot : Slot) (mode : Mode) (s : Console) → (invoked slot mode s).profile ≡ s.profile
profile_invoked slot Ansi s = refl
profile_invoked slot Vt52Mode s = refl

profile_control : (control : Control) (s : Console) → (control_effect control s).profile ≡ s.profile
profile_control So s = profile_invoked _ s.modes.mode s
profile_control Si s = profile_invoked _ s.modes.mode s
profile_control _ s = refl

profile_restored : (saved : Option Saved) (s : Console) → (restored saved s).profile ≡ s.profile
profile_restored None s = refl
profile_restored (Some saved) s = refl

profile_escape : (escape : Escape) (s : Console) → (escape_effect escape s).profile ≡ s.profile
profile_escape Decrc s = profile_restored s.saved s
profile_escape _ s = refl

profile_edited : (b : Bool) (op : Picture → Picture) (s : Console) → (if b then on_picture op s else s).profile ≡ s.profile
profile_edited true op s = refl
profile_edited false op s = refl

profile_sequence : (sequence : Sequence) (params : List ℕ) (s : Console) → (sequence_effect sequence params s).profile ≡ s.profile
profile_sequence Il params s = profile_edited (has_editing s.profile) (lines_inserted (param_or params 0 1)) s
profile_sequence Dl params s = profile_edited (has_editing s.profile) (lines_deleted (param_or params 0 1)) s
profile_sequence Dch params s = profile_edited (has_editing s.profile) (cells_deleted (param_or params 0 1)) s
profile_sequence _ params s = refl

profile_mode : (value : Bool) (mode : PrivateMode) (s : Console) → (mode_effect value mode s).profile ≡ s.profile
profile_mode true Decanm s = refl
profile_mode false Decanm s = refl
profile_mode true Decawm s = refl
profile_mode false Decawm s = refl
profile_mode value _ s = refl

profile_privates : (value : Bool) (params : List ℕ) (s : Console) → (fold (mode_set value) s params).profile ≡ s.profile
profile_privates value [] s = refl
profile_privates value (param ∷ params) s =
    profile_privates value params (mode_set value s param) ∙ profile_row (mode_effect value) (profile_mode value) (named private_modes param) s

profile_control_sequence : (private : Bool) (last : ℕ) (params : List ℕ) (s : Console)
    → (control_sequence_effect private last params s).profile ≡ s.profile
profile_control_sequence true last params s =
    profile_row (modes_set params) (λ value t. profile_privates value params t) (named switches last) s
profile_control_sequence false last params s =
    profile_row (λ row. sequence_effect row params) (λ row t. profile_sequence row params t) (named sequences last) s

profile_vt52 : (sequence : Vt52Sequence) (s : Console) → (vt52_effect sequence s).profile ≡ s.profile
profile_vt52 Up s = refl
profile_vt52 _ s = refl

profile_effect : (command : Command) (s : Console) → (effect command s).profile ≡ s.profile
unfolding effect
profile_effect (Show byte) s = refl
profile_effect Error s = refl
profile_effect (ControlOf byte) s = profile_row control_effect profile_control (named controls byte) s
profile_effect (Esc inter last) s = profile_row escape_effect profile_escape (escape_named inter last) s
profile_effect (Csi private params last) s = profile_control_sequence private last params.items s
profile_effect (Vt52 last) s = profile_row vt52_effect profile_vt52 (named vt52_sequences last) s
profile_effect (Vt52Address line column) s = refl

profile_played : (x : Term) (bytes : List ℕ) → (play x bytes).console.profile ≡ x.console.profile
unfolding play
profile_played x [] = refl
profile_played x (byte ∷ bytes) =
    profile_played (step x byte) bytes ∙ profile_row effect profile_effect (command_of (mode_of x) x.pending byte) x.console

pub profile_stays : (profile : Profile) (bytes : List ℕ) → (play (reset_term_as profile) bytes).console.profile ≡ profile
profile_stays profile bytes = profile_played (reset_term_as profile) bytes
