-- Character sets, and the character that a byte stands for.
use Rattle.std.specs.Prelude.{ℕ, ◌-◌, nat_le, ◌==◌, slice_index, if◌then◌else◌}
use Rattle.xterm_term.specs.declared.sets.CharacterSet.{CharacterSet}
use Rattle.xterm_term.specs.declared.sets.CharacterSet.TheVariants.{Ascii, Uk, SpecialGraphics}
use Rattle.xterm_term.specs.declared.sets.Slot.{Slot}
use Rattle.xterm_term.specs.declared.sets.Slot.TheVariants.{G0, G1}
use Rattle.xterm_term.specs.declared.sets.Sets.{Sets}
use Rattle.xterm_term.specs.Graphics.{special_graphics}

-- The character of a byte 32 to 126: in ASCII its own number, in the UK set the pound sign for #, in special graphics
-- those of the table for the bytes from 95 on (EK-VT100-UG chapter 3, character sets).
unfoldable pub character_of : CharacterSet → ℕ → ℕ
character_of Ascii byte = byte
character_of Uk byte = if byte == 35 then 0xA3 else byte
character_of SpecialGraphics byte = if nat_le 95 byte then slice_index special_graphics (byte - 95) else byte

-- the set that is invoked (EK-VT100-UG chapter 3, SCS)
abbrev pub set_in : Slot → Sets → CharacterSet
set_in G0 sets = sets.g0
set_in G1 sets = sets.g1

abbrev pub set_in_use : Sets → CharacterSet
set_in_use sets = set_in sets.invoked sets

-- ASCII in G0 and G1, G0 invoked (ours)
abbrev pub first_sets : Sets
first_sets = record { g0 = Ascii; g1 = Ascii; invoked = G0 }

-- SCS: another set stands in a slot (EK-VT100-UG chapter 3)
abbrev pub designated : Slot → CharacterSet → Sets → Sets
designated G0 set sets = record sets { g0 = set }
designated G1 set sets = record sets { g1 = set }
