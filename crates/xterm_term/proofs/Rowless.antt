-- What has no row does nothing; whether a title is read behind a command.
use Rattle.std.proofs.Common.{◌≡◌, ℕ, zero, suc, Bool, true, false, List, [], ◌∷◌, refl, ◌∙◌}
use Rattle.std.specs.Prelude.{fold, Option, Some, None, is_some, if◌then◌else◌}
use Rattle.vt_parser.specs.declared.commands.Command.TheVariants.{Show, Error, Control as ControlOf, Esc, Csi, Vt52, Vt52Address}
use Rattle.characters.specs.Width.{width}
use Rattle.xterm_term.specs.declared.saved.Saved.{Saved}
use Rattle.xterm_term.specs.Rows.{named, effect_of}
use Rattle.xterm_term.specs.Console.{Console, saved_here}
use Rattle.xterm_term.specs.Puts.{put, put_by_width, is_c1, put_times, repeated, character_for}
use Rattle.xterm_term.specs.Controls.{Control, Lf, controls, control_effect}
use Rattle.xterm_term.specs.Escapes.{Escape, Decsc, Decrc, Title, Ris, escape_named, escape_effect, saved, restored, restored_from}
use Rattle.xterm_term.specs.Sequences.{Sequence, Rep, Scosc, Scorc, sequences, sequence_effect, param_or, ansi_modes, ansi_mode_effect}
use Rattle.xterm_term.specs.PrivateModes.{PrivateMode, AlternateSheet, Save, SaveAndSheet, private_modes, switches, mode_effect, mode_set, modes_set, sheet_shown, save_switched, save_and_sheet_switched}
use Rattle.xterm_term.specs.Replies.{escape_reply, sequence_reply, reply_of}
use Rattle.xterm_term.specs.Effect.{effect, reply}
use Rattle.xterm_term.specs.Played.{title_by_escape, RowlessDoNothing, RowlessModesStay, RowlessAnsiModesStay, TitleGoesAlone}

-- ---- what has no row

rowless : {Name State : Type 0} (change : Name → State → State) (row : Option Name) (s : State)
    → is_some row ≡ false → effect_of change row s ≡ s
rowless change None s none = refl
rowless change (Some row) s none = absurd cc

silent : {Name : Type 0} (answer : Name → Console → List ℕ) (row : Option Name) (s : Console)
    → is_some row ≡ false → reply_of answer row s ≡ []
silent answer None s none = refl
silent answer (Some row) s none = absurd cc

pub rowless_commands_do_nothing : RowlessDoNothing
unfolding effect reply
rowless_commands_do_nothing (Esc inter last) s none =
    (rowless escape_effect (escape_named inter last) s none, silent escape_reply (escape_named inter last) s none)
rowless_commands_do_nothing (Csi true params last) s none = (rowless (modes_set params.items) (named switches last) s none, refl)
rowless_commands_do_nothing (Csi false params last) s none = (
  rowless (λ row. sequence_effect row params.items) (named sequences last) s none,
  silent (λ row. sequence_reply row (param_or params.items 0 0)) (named sequences last) s none,
)
rowless_commands_do_nothing _ s none = absurd cc

pub rowless_modes_stay : RowlessModesStay
rowless_modes_stay value s param none = rowless (mode_effect value) (named private_modes param) s none

pub rowless_ansi_modes_stay : RowlessAnsiModesStay
rowless_ansi_modes_stay value modes param none = rowless (ansi_mode_effect value) (named ansi_modes param) modes none

-- ---- whether a title is read

title_if : (b : Bool) (s t : Console) (title : Bool) → s.title ≡ title → t.title ≡ title → (if b then s else t).title ≡ title
title_if true s t title one other = one
title_if false s t title one other = other

put_title_by : (n character : ℕ) (s : Console) → (put_by_width n character s).title ≡ s.title
put_title_by zero character s = refl
put_title_by (suc n) character s = refl

pub put_title : (character : ℕ) (s : Console) → (put character s).title ≡ s.title
unfolding put
put_title character s =
    title_if (is_c1 character) _ (put_by_width (width character) character s) s.title refl (put_title_by (width character) character s)

times_title : (n character : ℕ) (s : Console) → (put_times n character s).title ≡ s.title
times_title zero character s = refl
times_title (suc n) character s = put_title character (put_times n character s) ∙ times_title n character s

again_title : (n : ℕ) (last : Option ℕ) (s : Console) → (repeated n last s).title ≡ s.title
again_title n None s = refl
again_title n (Some character) s = times_title n character s

saved_title : (s : Console) → (saved s).title ≡ s.title
saved_title s = title_if s.picture.alternate _ _ s.title refl refl

restored_title_from : (save : Option Saved) (s : Console) → (restored_from save s).title ≡ s.title
restored_title_from None s = refl
restored_title_from (Some save) s = refl

restored_title : (s : Console) → (restored s).title ≡ s.title
restored_title s = restored_title_from (saved_here s) s

escape_title : (row : Option Escape) (s : Console) → (effect_of escape_effect row s).title ≡ title_by_escape row s.title
escape_title None s = refl
escape_title (Some Decsc) s = saved_title s
escape_title (Some Decrc) s = restored_title s
escape_title (Some Title) s = refl
escape_title (Some Ris) s = refl
escape_title (Some _) s = refl

sequence_title : (row : Option Sequence) (params : List ℕ) (s : Console)
    → (effect_of (λ r. sequence_effect r params) row s).title ≡ s.title
sequence_title None params s = refl
sequence_title (Some Rep) params s = again_title (param_or params 0 1) s.last s
sequence_title (Some Scosc) params s = saved_title s
sequence_title (Some Scorc) params s = restored_title s
sequence_title (Some _) params s = refl

sheet_title : (value : Bool) (s : Console) → (sheet_shown value s).title ≡ s.title
sheet_title true s = refl
sheet_title false s = refl

save_title : (value : Bool) (s : Console) → (save_switched value s).title ≡ s.title
save_title true s = saved_title s
save_title false s = restored_title s

both_title : (value : Bool) (s : Console) → (save_and_sheet_switched value s).title ≡ s.title
both_title true s = title_if s.picture.alternate s (sheet_shown true (saved s)) s.title refl (saved_title s)
both_title false s = restored_title (sheet_shown false s)

mode_title : (value : Bool) (row : Option PrivateMode) (s : Console) → (effect_of (mode_effect value) row s).title ≡ s.title
mode_title value None s = refl
mode_title value (Some AlternateSheet) s = sheet_title value s
mode_title value (Some Save) s = save_title value s
mode_title value (Some SaveAndSheet) s = both_title value s
mode_title value (Some _) s = refl

modes_title : (value : Bool) (params : List ℕ) (s : Console) → (fold (mode_set value) s params).title ≡ s.title
modes_title value [] s = refl
modes_title value (param ∷ params) s =
    modes_title value params (mode_set value s param) ∙ mode_title value (named private_modes param) s

switch_title : (row : Option Bool) (params : List ℕ) (s : Console) → (effect_of (modes_set params) row s).title ≡ s.title
switch_title None params s = refl
switch_title (Some value) params s = modes_title value params s

control_title : (row : Option Control) (s : Console) → (effect_of control_effect row s).title ≡ s.title
control_title None s = refl
control_title (Some Lf) s = refl
control_title (Some _) s = refl

pub title_goes_alone : TitleGoesAlone
unfolding effect
title_goes_alone (Esc inter last) s = escape_title (escape_named inter last) s
title_goes_alone (Csi true params last) s = switch_title (named switches last) params.items s
title_goes_alone (Csi false params last) s = sequence_title (named sequences last) params.items s
title_goes_alone (Show byte) s = put_title (character_for s byte) s
title_goes_alone (ControlOf byte) s = control_title (named controls byte) s
title_goes_alone Error s = refl
title_goes_alone (Vt52 last) s = refl
title_goes_alone (Vt52Address line column) s = refl
