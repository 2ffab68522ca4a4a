-- The size of a screen never changes.
use Rattle.std.proofs.Common.{◌≡◌, ℕ, zero, suc, Bool, true, false, List, [], ◌∷◌, refl, ap, ◌∙◌, ◌==◌, ◌&&◌}
use Rattle.std.specs.Prelude.{if◌then◌else◌, fold, Option, Some, None}
use Rattle.vt_parser.specs.declared.commands.Command.{Command}
use Rattle.vt_parser.specs.declared.commands.Command.TheVariants.{Show, Control as ControlOf, Esc, Csi}
use Rattle.sheet.specs.declared.rendition.Colour.{Colour}
use Rattle.sheet.specs.declared.rendition.Rendition.{Rendition}
use Rattle.characters.specs.Width.{width}
use Rattle.xterm_screen.specs.Picture.{Picture}
use Rattle.xterm_screen.specs.Moves.{moved_to_left}
use Rattle.xterm_screen.specs.Puts.{shown, next_line, wrap_taken, line_found, made_ready, overhangs, room_made, character_written, character_put, advanced, width as columns_of}
use Rattle.xterm_screen.specs.Tabs.{tab_made, tabs_cleared}
use Rattle.xterm_screen.specs.Scrolls.{indexed, reverse_indexed}
use Rattle.xterm_term.specs.declared.saved.Saved.{Saved}
use Rattle.xterm_term.specs.Console.{Console, on_paper, saved_here}
use Rattle.xterm_term.specs.Rows.{named, effect_of}
use Rattle.xterm_term.specs.Puts.{put, put_by_width, is_c1, put_times, repeated, character_for}
use Rattle.xterm_term.specs.Controls.{Control, Lf, controls, control_effect, line_fed}
use Rattle.xterm_term.specs.Escapes.{Escape, Ind, Nel, Ri, Decsc, Decrc, escape_named, escape_effect, saved, restored, restored_from}
use Rattle.xterm_term.specs.Sequences.{Sequence, Ed, El, Il, Dl, Sd, Rep, Tbc, Decstbm, Scosc, Scorc, sequences, sequence_effect, param_or}
use Rattle.xterm_term.specs.PrivateModes.{PrivateMode, Decawm, AlternateSheet, Save, SaveAndSheet, private_modes, switches, mode_effect, mode_set, modes_set, sheet_shown, save_switched, save_and_sheet_switched}
use Rattle.xterm_term.specs.Effect.{effect, control_sequence_effect}
use Rattle.xterm_term.specs.SameSize.{SameSize}

-- ---- pictures

-- so many columns and lines as before
pub record SamePicture (p q : Picture) : Type 0 where
  pub columns : q.columns ≡ p.columns
  pub lines : q.lines ≡ p.lines

same_refl : (p : Picture) → SamePicture p p
same_refl p = record { columns = refl; lines = refl }

same_trans : (p q r : Picture) → SamePicture p q → SamePicture q r → SamePicture p r
same_trans p q r first second = record { columns = second.columns ∙ first.columns; lines = second.lines ∙ first.lines }

same_if : (b : Bool) (p q r : Picture) → SamePicture p q → SamePicture p r → SamePicture p (if b then q else r)
same_if true p q r same other = same
same_if false p q r same other = other

same_indexed : (paper : Colour) (p : Picture) → SamePicture p (indexed paper p)
same_indexed paper p = same_if (p.line == p.bottom) p _ _ (record { columns = refl; lines = refl }) (record { columns = refl; lines = refl })

same_reverse_indexed : (paper : Colour) (p : Picture) → SamePicture p (reverse_indexed paper p)
same_reverse_indexed paper p = same_if (p.line == p.top) p _ _ (record { columns = refl; lines = refl }) (record { columns = refl; lines = refl })

same_next_line : (paper : Colour) (p : Picture) → SamePicture p (next_line paper p)
same_next_line paper p =
    same_trans p (moved_to_left p) _ (record { columns = refl; lines = refl }) (same_indexed paper (moved_to_left p))

same_wrap_taken : (paper : Colour) (p : Picture) → SamePicture p (wrap_taken paper p)
same_wrap_taken paper p = same_if p.wrap p _ _ (same_next_line paper p) (same_refl p)

same_advanced : (by : ℕ) (autowrap : Bool) (p : Picture) → SamePicture p (advanced by autowrap p)
same_advanced by autowrap p = same_if _ p _ _ (record { columns = refl; lines = refl }) (record { columns = refl; lines = refl })

same_room_made : (inserting wide : Bool) (paper : Colour) (p : Picture) → SamePicture p (room_made inserting wide paper p)
same_room_made inserting wide paper p = same_if inserting p _ _ (record { columns = refl; lines = refl }) (same_refl p)

same_put : (character : ℕ) (wide : Bool) (rendition : Rendition) (autowrap inserting : Bool) (p : Picture)
    → SamePicture p (character_put character wide rendition autowrap inserting p)
same_put character wide rendition autowrap inserting p =
    let q : Picture = room_made inserting wide rendition.paper p in
    let r : Picture = character_written character wide rendition q in
    same_trans p q _ (same_room_made inserting wide rendition.paper p)
    (same_trans q r _ (record { columns = refl; lines = refl }) (same_advanced (columns_of wide) autowrap r))

same_line_found : (wide autowrap : Bool) (paper : Colour) (p : Picture) → SamePicture p (line_found wide autowrap paper p)
same_line_found wide autowrap paper p = same_if (autowrap && overhangs wide p) p _ _ (same_next_line paper p) (same_refl p)

same_made_ready : (wide autowrap : Bool) (paper : Colour) (p : Picture) → SamePicture p (made_ready wide autowrap paper p)
same_made_ready wide autowrap paper p =
    same_trans p (wrap_taken paper p) _ (same_wrap_taken paper p) (same_line_found wide autowrap paper (wrap_taken paper p))

same_shown : (character : ℕ) (wide : Bool) (rendition : Rendition) (autowrap inserting : Bool) (p : Picture)
    → SamePicture p (shown character wide rendition autowrap inserting p)
same_shown character wide rendition autowrap inserting p =
    let q : Picture = made_ready wide autowrap rendition.paper p in
    same_trans p q _ (same_made_ready wide autowrap rendition.paper p)
    (same_if (overhangs wide q) q q (character_put character wide rendition autowrap inserting q) (same_refl q)
    (same_put character wide rendition autowrap inserting q))

-- ---- consoles

on : (s t : Console) → SamePicture s.picture t.picture → SameSize s t
on s t same = record { columns = same.columns; lines = same.lines }

none : (s t : Console) → t.picture ≡ s.picture → SameSize s t
none s t same = record { columns = ap (λ (p : Picture). p.columns) same; lines = ap (λ (p : Picture). p.lines) same }

same_as : (s : Console) → SameSize s s
same_as s = record { columns = refl; lines = refl }

pub both : (s t u : Console) → SameSize s t → SameSize t u → SameSize s u
both s t u first second = record { columns = second.columns ∙ first.columns; lines = second.lines ∙ first.lines }

either : (b : Bool) (s t u : Console) → SameSize s t → SameSize s u → SameSize s (if b then t else u)
either true s t u same other = same
either false s t u same other = other

row : {Name : Type 0} (change : Name → Console → Console)
    → ((row : Name) (s : Console) → SameSize s (change row s)) → (row : Option Name) (s : Console) → SameSize s (effect_of change row s)
row change each None s = same_as s
row change each (Some name) s = each name s

by_width : (n character : ℕ) (s : Console) → SameSize s (put_by_width n character s)
by_width zero character s = on s _ (same_if _ s.picture _ _ (same_refl s.picture) (record { columns = refl; lines = refl }))
by_width (suc n) character s = on s _ (same_shown character (n == 1) s.rendition s.modes.autowrap s.modes.insert s.picture)

pub put_keeps_size : (character : ℕ) (s : Console) → SameSize s (put character s)
unfolding put
put_keeps_size character s =
    either (is_c1 character) s _ _ (none s _ refl) (by_width (width character) character s)

times : (n character : ℕ) (s : Console) → SameSize s (put_times n character s)
times zero character s = same_as s
times (suc n) character s =
    both s (put_times n character s) _ (times n character s) (put_keeps_size character (put_times n character s))

again : (n : ℕ) (last : Option ℕ) (s : Console) → SameSize s (repeated n last s)
again n None s = same_as s
again n (Some character) s = times n character s

fed : (newline : Bool) (s : Console) → SameSize s (on_paper (line_fed newline) s)
fed true s = on s _ (same_next_line s.rendition.paper s.picture)
fed false s = on s _ (same_indexed s.rendition.paper s.picture)

by_control : (control : Control) (s : Console) → SameSize s (control_effect control s)
by_control Lf s = fed s.modes.newline s
by_control _ s = record { columns = refl; lines = refl }

saves : (s : Console) → SameSize s (saved s)
saves s = either s.picture.alternate s _ _ (none s _ refl) (none s _ refl)

restores_from : (save : Option Saved) (s : Console) → SameSize s (restored_from save s)
restores_from None s = record { columns = refl; lines = refl }
restores_from (Some save) s = record { columns = refl; lines = refl }

restores : (s : Console) → SameSize s (restored s)
restores s = restores_from (saved_here s) s

by_escape : (escape : Escape) (s : Console) → SameSize s (escape_effect escape s)
by_escape Ind s = on s _ (same_indexed s.rendition.paper s.picture)
by_escape Nel s = on s _ (same_next_line s.rendition.paper s.picture)
by_escape Ri s = on s _ (same_reverse_indexed s.rendition.paper s.picture)
by_escape Decsc s = saves s
by_escape Decrc s = restores s
by_escape _ s = record { columns = refl; lines = refl }

by_sequence : (sequence : Sequence) (params : List ℕ) (s : Console) → SameSize s (sequence_effect sequence params s)
by_sequence Ed params s = on s _ (same_if _ s.picture _ _ (record { columns = refl; lines = refl }) (same_refl s.picture))
by_sequence El params s = on s _ (same_if _ s.picture _ _ (record { columns = refl; lines = refl }) (same_refl s.picture))
by_sequence Il params s = on s _ (same_if _ s.picture _ _ (record { columns = refl; lines = refl }) (same_refl s.picture))
by_sequence Dl params s = on s _ (same_if _ s.picture _ _ (record { columns = refl; lines = refl }) (same_refl s.picture))
by_sequence Sd params s = on s _ (same_if _ s.picture _ _ (record { columns = refl; lines = refl }) (same_refl s.picture))
by_sequence Rep params s = again (param_or params 0 1) s.last s
by_sequence Tbc params s =
    on s _ (same_if (param_or params 0 0 == 0) s.picture (tab_made false s.picture) _ (record { columns = refl; lines = refl })
    (same_if (param_or params 0 0 == 3) s.picture (tabs_cleared s.picture) s.picture (record { columns = refl; lines = refl }) (same_refl s.picture)))
by_sequence Decstbm params s = on s _ (same_if _ s.picture _ _ (record { columns = refl; lines = refl }) (same_refl s.picture))
by_sequence Scosc params s = saves s
by_sequence Scorc params s = restores s
by_sequence _ params s = record { columns = refl; lines = refl }

by_sheet : (value : Bool) (s : Console) → SameSize s (sheet_shown value s)
by_sheet true s = on s _ (same_if s.picture.alternate s.picture _ _ (same_refl s.picture) (record { columns = refl; lines = refl }))
by_sheet false s = on s _ (same_if s.picture.alternate s.picture _ _ (record { columns = refl; lines = refl }) (same_refl s.picture))

by_save : (value : Bool) (s : Console) → SameSize s (save_switched value s)
by_save true s = saves s
by_save false s = restores s

by_both : (value : Bool) (s : Console) → SameSize s (save_and_sheet_switched value s)
by_both true s = either s.picture.alternate s s _ (same_as s) (both s (saved s) _ (saves s) (by_sheet true (saved s)))
by_both false s = both s (sheet_shown false s) _ (by_sheet false s) (restores (sheet_shown false s))

by_autowrap : (value : Bool) (s : Console) → SameSize s (mode_effect value Decawm s)
by_autowrap true s = record { columns = refl; lines = refl }
by_autowrap false s = record { columns = refl; lines = refl }

by_mode : (value : Bool) (mode : PrivateMode) (s : Console) → SameSize s (mode_effect value mode s)
by_mode value Decawm s = by_autowrap value s
by_mode value AlternateSheet s = by_sheet value s
by_mode value Save s = by_save value s
by_mode value SaveAndSheet s = by_both value s
by_mode value _ s = record { columns = refl; lines = refl }

by_modes : (value : Bool) (params : List ℕ) (s : Console) → SameSize s (fold (mode_set value) s params)
by_modes value [] s = same_as s
by_modes value (param ∷ params) s =
    both s (mode_set value s param) _ (row (mode_effect value) (by_mode value) (named private_modes param) s)
    (by_modes value params (mode_set value s param))

by_control_sequence : (private : Bool) (last : ℕ) (params : List ℕ) (s : Console) → SameSize s (control_sequence_effect private last params s)
by_control_sequence true last params s = row (modes_set params) (λ value. by_modes value params) (named switches last) s
by_control_sequence false last params s = row (λ row. sequence_effect row params) (λ row. by_sequence row params) (named sequences last) s

pub effect_keeps_size : (command : Command) (s : Console) → SameSize s (effect command s)
unfolding effect
effect_keeps_size (Show byte) s = put_keeps_size (character_for s byte) s
effect_keeps_size (ControlOf byte) s = row control_effect by_control (named controls byte) s
effect_keeps_size (Esc inter last) s = row escape_effect by_escape (escape_named inter last) s
effect_keeps_size (Csi private params last) s = by_control_sequence private last params.items s
effect_keeps_size _ s = same_as s
