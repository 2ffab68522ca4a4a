-- Character sets, and the glyph that a byte stands for.
use Rattle.std.specs.Prelude.{ℕ, ◌-◌, false, nat_le, ◌==◌, if◌then◌else◌}
use Rattle.vt_parser.specs.declared.commands.Mode.{Mode}
use Rattle.vt_parser.specs.declared.commands.Mode.TheVariants.{Ansi, Vt52}
use Rattle.vt_term.specs.declared.sets.CharacterSet.{CharacterSet}
use Rattle.vt_term.specs.declared.sets.CharacterSet.TheVariants.{Ascii, Uk, SpecialGraphics}
use Rattle.vt_term.specs.declared.sets.Slot.{Slot}
use Rattle.vt_term.specs.declared.sets.Slot.TheVariants.{G0, G1}
use Rattle.vt_term.specs.declared.sets.Sets.{Sets}

-- The glyph of a byte 32 to 126: its own number; in the UK set 30, the pound sign, for #; in special graphics 0 to 31
-- for the bytes 95 to 126 (EK-VT100-UG chapter 3, character sets; the numbers: ours).
abbrev pub glyph_of : CharacterSet → ℕ → ℕ
glyph_of Ascii byte = byte
glyph_of Uk byte = if byte == 35 then 30 else byte
glyph_of SpecialGraphics byte = if nat_le 95 byte then byte - 95 else byte

-- the error character: the checkerboard (ours)
abbrev pub checkerboard : ℕ
checkerboard = 2

-- the set that stands in a slot (EK-VT100-UG chapter 3, SCS)
abbrev pub set_in : Slot → Sets → CharacterSet
set_in G0 sets = sets.g0
set_in G1 sets = sets.g1

-- the set in use: the invoked one, or in VT52 mode special graphics while its graphics is on and ASCII else
-- (EK-VT100-UG chapter 3)
abbrev pub set_in_use : Mode → Sets → CharacterSet
set_in_use Ansi sets = set_in sets.invoked sets
set_in_use Vt52 sets = if sets.vt52_graphics then SpecialGraphics else Ascii

-- ASCII in G0 and G1, G0 invoked, VT52 graphics off (ours)
abbrev pub first_sets : Sets
first_sets = record { g0 = Ascii; g1 = Ascii; invoked = G0; vt52_graphics = false }

-- SCS: another set stands in a slot (EK-VT100-UG chapter 3)
abbrev pub designated : Slot → CharacterSet → Sets → Sets
designated G0 set sets = record sets { g0 = set }
designated G1 set sets = record sets { g1 = set }
