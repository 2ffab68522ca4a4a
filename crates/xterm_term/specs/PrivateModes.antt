-- Control sequences with `?`, of which h sets modes and l resets them (EK-VT100-UG chapter 3; 25 and from 47 on: xterm).
use Rattle.std.specs.Prelude.{ℕ, Bool, true, false, List, [], ◌∷◌, fold, if◌then◌else◌}
use Rattle.xterm_screen.specs.Moves.{moved_home, wrap_cleared}
use Rattle.xterm_screen.specs.Sheets.{alternate_shown, main_shown}
use Rattle.xterm_term.specs.Rows.{named, effect_of}
use Rattle.xterm_term.specs.Console.{Console, on_picture, on_paper, on_modes}
use Rattle.xterm_term.specs.Escapes.{saved, restored}

-- the modes that have an effect or are kept
pub data PrivateMode : Type 0 where
  Decckm Decscnm Decom Decawm Dectcem AlternateSheet Save SaveAndSheet : PrivateMode

-- their parameters
abbrev pub private_modes : List (ℕ × PrivateMode)
private_modes =
    (1, Decckm) ∷
    (5, Decscnm) ∷
    (6, Decom) ∷
    (7, Decawm) ∷
    (25, Dectcem) ∷
    (47, AlternateSheet) ∷
    (1047, AlternateSheet) ∷
    (1048, Save) ∷
    (1049, SaveAndSheet) ∷
    []

-- the final bytes that set modes (true) or reset them; others have no effect (EK-VT100-UG chapter 3)
abbrev pub switches : List (ℕ × Bool)
switches =
    (104, true) ∷  -- h
    (108, false) ∷  -- l
    []

-- from the main sheet the alternate one is shown, blank; or the main one is (xterm)
abbrev pub sheet_shown : Bool → Console → Console
sheet_shown true s = on_paper alternate_shown s
sheet_shown false s = on_picture main_shown s

-- DECSC or DECRC
abbrev pub save_switched : Bool → Console → Console
save_switched true s = saved s
save_switched false s = restored s

-- from the main sheet DECSC, and then the alternate one; or the main one, and then DECRC (xterm)
abbrev pub save_and_sheet_switched : Bool → Console → Console
save_and_sheet_switched true s = if s.picture.alternate then s else sheet_shown true (saved s)
save_and_sheet_switched false s = restored (sheet_shown false s)

-- The table of their effects, set (true) or reset. DECCKM is kept and has no other effect.
abbrev pub mode_effect : Bool → PrivateMode → Console → Console
mode_effect value Decckm s = on_modes (λ modes. record modes { cursor_keys = value }) s
mode_effect value Decscnm s = on_modes (λ modes. record modes { reverse_screen = value }) s
mode_effect value Decom s = record s { picture = moved_home value s.picture; modes = record s.modes { origin = value } }
mode_effect value Decawm s = record s {
  picture = (if value then s.picture else wrap_cleared s.picture);
  modes = record s.modes { autowrap = value };
}
mode_effect value Dectcem s = on_modes (λ modes. record modes { cursor_shown = value }) s
mode_effect value AlternateSheet s = sheet_shown value s
mode_effect value Save s = save_switched value s
mode_effect value SaveAndSheet s = save_and_sheet_switched value s

-- one parameter; a number that names no mode does nothing (EK-VT100-UG chapter 3)
abbrev pub mode_set : Bool → Console → ℕ → Console
mode_set value s param = effect_of (mode_effect value) (named private_modes param) s

-- every parameter, from left to right
abbrev pub modes_set : List ℕ → Bool → Console → Console
modes_set params value s = fold (mode_set value) s params
