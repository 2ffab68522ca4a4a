-- Control sequences of ANSI mode with `?`, of which h sets modes and l resets them (EK-VT100-UG chapter 3).
use Rattle.std.specs.Prelude.{ℕ, Bool, true, false, List, [], ◌∷◌, fold, if◌then◌else◌}
use Rattle.vt_parser.specs.declared.commands.Mode.TheVariants.{Vt52}
use Rattle.vt_screen.specs.Moves.{moved_home, wrap_cleared}
use Rattle.vt_screen.specs.Lines.{columns_set}
use Rattle.vt_term.specs.Rows.{named}
use Rattle.vt_term.specs.Console.{Console, on_picture, on_modes, effect_of}

-- the modes that have an effect or are kept (EK-VT100-UG chapter 3)
pub data PrivateMode : Type 0 where
  Decckm Decanm Deccolm Decsclm Decscnm Decom Decawm Decarm Decinlm : PrivateMode

-- their parameters
abbrev pub private_modes : List (ℕ × PrivateMode)
private_modes =
    (1, Decckm) ∷
    (2, Decanm) ∷
    (3, Deccolm) ∷
    (4, Decsclm) ∷
    (5, Decscnm) ∷
    (6, Decom) ∷
    (7, Decawm) ∷
    (8, Decarm) ∷
    (9, Decinlm) ∷
    []

-- the final bytes that set modes (true) or reset them; others have no effect (EK-VT100-UG chapter 3)
abbrev pub switches : List (ℕ × Bool)
switches =
    (104, true) ∷  -- h
    (108, false) ∷  -- l
    []

-- DECANM reset: VT52 mode (EK-VT100-UG chapter 3), its graphics off (ours)
abbrev pub vt52_entered : Console → Console
vt52_entered s = record s {
  modes = record s.modes { mode = Vt52 };
  sets = record s.sets { vt52_graphics = false };
}

-- The table of their effects, set (true) or reset. DECCKM, DECSCLM, DECARM and DECINLM are kept and have no other
-- effect (EK-VT100-UG chapter 3; what they keep: ours).
abbrev pub mode_effect : Bool → PrivateMode → Console → Console
mode_effect value Decckm s = on_modes (λ modes. record modes { cursor_keys = value }) s
mode_effect value Decanm s = if value then s else vt52_entered s
mode_effect value Deccolm s = on_picture (columns_set value s.modes.origin) s
mode_effect value Decsclm s = on_modes (λ modes. record modes { smooth_scroll = value }) s
mode_effect value Decscnm s = on_modes (λ modes. record modes { reverse_screen = value }) s
mode_effect value Decom s = record s { picture = moved_home value s.picture; modes = record s.modes { origin = value } }
mode_effect value Decawm s = record s {
  picture = (if value then s.picture else wrap_cleared s.picture);
  modes = record s.modes { autowrap = value };
}
mode_effect value Decarm s = on_modes (λ modes. record modes { auto_repeat = value }) s
mode_effect value Decinlm s = on_modes (λ modes. record modes { interlace = value }) s

-- one parameter; a number that names no mode does nothing (EK-VT100-UG chapter 3)
abbrev pub mode_set : Bool → Console → ℕ → Console
mode_set value s param = effect_of (mode_effect value) (named private_modes param) s

-- every parameter, from left to right
abbrev pub modes_set : List ℕ → Bool → Console → Console
modes_set params value s = fold (mode_set value) s params
