-- Control characters (ECMA-48 8.3; EK-VT100-UG chapter 3). They act on ground and inside sequences that aren't finished.
use Rattle.std.specs.Prelude.{ℕ, Bool, List, [], ◌∷◌, if◌then◌else◌}
use Rattle.sheet.specs.declared.rendition.Colour.{Colour}
use Rattle.xterm_screen.specs.Picture.{Picture}
use Rattle.xterm_screen.specs.Moves.{stepped_left, moved_to_left}
use Rattle.xterm_screen.specs.Scrolls.{indexed}
use Rattle.xterm_screen.specs.Tabs.{tabbed}
use Rattle.xterm_term.specs.declared.sets.Slot.{Slot}
use Rattle.xterm_term.specs.declared.sets.Slot.TheVariants.{G0, G1}
use Rattle.xterm_term.specs.Console.{Console, on_picture, on_paper, on_sets}

-- the control characters that have an effect; VT and FF are read as LF (EK-VT100-UG chapter 3)
pub data Control : Type 0 where
  Bs Ht Lf Cr So Si : Control

-- their bytes
abbrev pub controls : List (ℕ × Control)
controls =
    (8, Bs) ∷  -- BS
    (9, Ht) ∷  -- HT
    (10, Lf) ∷  -- LF
    (11, Lf) ∷  -- VT
    (12, Lf) ∷  -- FF
    (13, Cr) ∷  -- CR
    (14, So) ∷  -- SO
    (15, Si) ∷  -- SI
    []

-- LF: index; where LNM is set the column becomes 1 first (EK-VT100-UG chapter 3, LNM)
abbrev pub line_fed : Bool → Colour → Picture → Picture
line_fed newline paper p = indexed paper (if newline then moved_to_left p else p)

-- SO and SI: the other slot is invoked
abbrev pub invoked : Slot → Console → Console
invoked slot s = on_sets (λ sets. record sets { invoked = slot }) s

-- the table of their effects (EK-VT100-UG chapter 3)
abbrev pub control_effect : Control → Console → Console
control_effect Bs s = on_picture (stepped_left 1) s
control_effect Ht s = on_picture tabbed s
control_effect Lf s = on_paper (line_fed s.modes.newline) s
control_effect Cr s = on_picture moved_to_left s
control_effect So s = invoked G1 s
control_effect Si s = invoked G0 s
