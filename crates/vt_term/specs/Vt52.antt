-- Sequences of VT52 mode (EK-VT100-UG chapter 3, VT52 mode).
use Rattle.std.specs.Prelude.{ℕ, Bool, true, false, List, [], ◌∷◌}
use Rattle.vt_parser.specs.declared.commands.Mode.TheVariants.{Ansi}
use Rattle.vt_screen.specs.Moves.{stepped_up, stepped_down, stepped_right, stepped_left, moved_home}
use Rattle.vt_screen.specs.Scrolls.{reverse_indexed}
use Rattle.vt_screen.specs.Erasures.{display_erased, line_erased}
use Rattle.vt_term.specs.Console.{Console, on_picture, on_modes, on_sets}
use Rattle.vt_term.specs.Escapes.{keypad_set}

-- the sequences of VT52 mode that have an effect or a reply (EK-VT100-UG chapter 3)
pub data Vt52Sequence : Type 0 where
  Up Down Right Left GraphicsOn GraphicsOff Home ReverseIndex EraseDisplay EraseLine : Vt52Sequence
  Identify KeypadApplication KeypadNumeric EnterAnsi : Vt52Sequence

-- their final bytes
abbrev pub vt52_sequences : List (ℕ × Vt52Sequence)
vt52_sequences =
    (65, Up) ∷  -- A
    (66, Down) ∷  -- B
    (67, Right) ∷  -- C
    (68, Left) ∷  -- D
    (70, GraphicsOn) ∷  -- F
    (71, GraphicsOff) ∷  -- G
    (72, Home) ∷  -- H
    (73, ReverseIndex) ∷  -- I
    (74, EraseDisplay) ∷  -- J
    (75, EraseLine) ∷  -- K
    (90, Identify) ∷  -- Z
    (61, KeypadApplication) ∷  -- =
    (62, KeypadNumeric) ∷  -- >
    (60, EnterAnsi) ∷  -- <
    []

-- VT52 graphics on and off (EK-VT100-UG chapter 3)
abbrev pub graphics_set : Bool → Console → Console
graphics_set value s = on_sets (λ sets. record sets { vt52_graphics = value }) s

-- The table of their effects. Identify replies and has none; in ANSI mode again, G0, G1 and the invoked set are as they
-- were (EK-VT100-UG chapter 3; what stays: ours).
abbrev pub vt52_effect : Vt52Sequence → Console → Console
vt52_effect Up s = on_picture (stepped_up 1) s
vt52_effect Down s = on_picture (stepped_down 1) s
vt52_effect Right s = on_picture (stepped_right 1) s
vt52_effect Left s = on_picture (stepped_left 1) s
vt52_effect GraphicsOn s = graphics_set true s
vt52_effect GraphicsOff s = graphics_set false s
vt52_effect Home s = on_picture (moved_home s.modes.origin) s
vt52_effect ReverseIndex s = on_picture reverse_indexed s
vt52_effect EraseDisplay s = on_picture (display_erased 0) s
vt52_effect EraseLine s = on_picture (line_erased 0) s
vt52_effect Identify s = s
vt52_effect KeypadApplication s = keypad_set true s
vt52_effect KeypadNumeric s = keypad_set false s
vt52_effect EnterAnsi s = on_modes (λ modes. record modes { mode = Ansi }) s
