-- Control characters (EK-VT100-UG chapter 3). They act in both modes, and inside sequences that aren't finished.
use Rattle.std.specs.Prelude.{ℕ, Bool, List, [], ◌∷◌, if◌then◌else◌}
use Rattle.vt_parser.specs.declared.commands.Mode.{Mode}
use Rattle.vt_parser.specs.declared.commands.Mode.TheVariants.{Ansi, Vt52}
use Rattle.vt_screen.specs.Picture.{Picture}
use Rattle.vt_screen.specs.Moves.{stepped_left, moved_to_left}
use Rattle.vt_screen.specs.Scrolls.{indexed}
use Rattle.vt_screen.specs.Tabs.{tabbed}
use Rattle.vt_term.specs.declared.sets.Slot.{Slot}
use Rattle.vt_term.specs.declared.sets.Slot.TheVariants.{G0, G1}
use Rattle.vt_term.specs.Console.{Console, on_picture, on_sets}

-- the control characters that have an effect; VT and FF are read as LF (EK-VT100-UG chapter 3)
pub data Control : Type 0 where
  Bs Ht Lf Cr So Si : Control

-- their bytes
abbrev pub controls : List (ℕ × Control)
controls =
    (8, Bs) ∷  -- BS
    (9, Ht) ∷  -- HT
    (10, Lf) ∷  -- LF
    (11, Lf) ∷  -- VT
    (12, Lf) ∷  -- FF
    (13, Cr) ∷  -- CR
    (14, So) ∷  -- SO
    (15, Si) ∷  -- SI
    []

-- LF: index; where LNM is set the column becomes 1 first (EK-VT100-UG chapter 3, LNM)
abbrev pub line_fed : Bool → Picture → Picture
line_fed newline p = indexed (if newline then moved_to_left p else p)

-- SO and SI: the other slot is invoked; nothing in VT52 mode (ours)
abbrev pub invoked : Slot → Mode → Console → Console
invoked slot Ansi s = on_sets (λ sets. record sets { invoked = slot }) s
invoked slot Vt52 s = s

-- the table of their effects (EK-VT100-UG chapter 3; SO and SI in VT52 mode: ours)
abbrev pub control_effect : Control → Console → Console
control_effect Bs s = on_picture (stepped_left 1) s
control_effect Ht s = on_picture tabbed s
control_effect Lf s = on_picture (line_fed s.modes.newline) s
control_effect Cr s = on_picture moved_to_left s
control_effect So s = invoked G1 s.modes.mode s
control_effect Si s = invoked G0 s.modes.mode s
