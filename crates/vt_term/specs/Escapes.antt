-- Escape sequences of ANSI mode (EK-VT100-UG chapter 3).
use Rattle.std.specs.Prelude.{ℕ, Bool, true, false, List, [], ◌∷◌, Option, Some, None, option_map, ◌==◌, if◌then◌else◌}
use Rattle.vt_screen.specs.declared.cell.Size.TheVariants.{Single, Double, Top, Bottom}
use Rattle.vt_screen.specs.Attributes.{plain}
use Rattle.vt_screen.specs.Moves.{moved_to_left, moved_home, put_back}
use Rattle.vt_screen.specs.Scrolls.{indexed, reverse_indexed}
use Rattle.vt_screen.specs.Lines.{size_set, aligned}
use Rattle.vt_screen.specs.Tabs.{tab_made}
use Rattle.vt_term.specs.declared.sets.CharacterSet.{CharacterSet}
use Rattle.vt_term.specs.declared.sets.CharacterSet.TheVariants.{Ascii, Uk, SpecialGraphics}
use Rattle.vt_term.specs.declared.sets.Slot.{Slot}
use Rattle.vt_term.specs.declared.sets.Slot.TheVariants.{G0, G1}
use Rattle.vt_term.specs.declared.saved.Saved.{Saved}
use Rattle.vt_term.specs.Rows.{named}
use Rattle.vt_term.specs.Sets.{designated}
use Rattle.vt_term.specs.Console.{Console, reset_console, on_picture, on_modes, on_sets}

-- the escape sequences that have an effect or a reply (EK-VT100-UG chapter 3)
pub data Escape : Type 0 where
  Ind Nel Ri Hts Decid Ris Decsc Decrc Deckpam Deckpnm DecdhlTop DecdhlBottom Decswl Decdwl Decaln : Escape
  Scs : (slot : Slot) (set : CharacterSet) → Escape

-- the final bytes of those without an intermediate
abbrev pub plain_escapes : List (ℕ × Escape)
plain_escapes =
    (68, Ind) ∷  -- D
    (69, Nel) ∷  -- E
    (77, Ri) ∷  -- M
    (72, Hts) ∷  -- H
    (90, Decid) ∷  -- Z
    (99, Ris) ∷  -- c
    (55, Decsc) ∷  -- 7
    (56, Decrc) ∷  -- 8
    (61, Deckpam) ∷  -- =
    (62, Deckpnm) ∷  -- >
    []

-- the final bytes of those with the intermediate #
abbrev pub line_escapes : List (ℕ × Escape)
line_escapes =
    (51, DecdhlTop) ∷  -- 3
    (52, DecdhlBottom) ∷  -- 4
    (53, Decswl) ∷  -- 5
    (54, Decdwl) ∷  -- 6
    (56, Decaln) ∷  -- 8
    []

-- the final bytes of SCS; the alternate ROMs of 1 and 2 are ASCII and special graphics (ours)
abbrev pub character_sets : List (ℕ × CharacterSet)
character_sets =
    (65, Uk) ∷  -- A
    (66, Ascii) ∷  -- B
    (48, SpecialGraphics) ∷  -- 0
    (49, Ascii) ∷  -- 1
    (50, SpecialGraphics) ∷  -- 2
    []

-- SCS designates a set in a slot
abbrev pub designation_named : Slot → ℕ → Option Escape
designation_named slot last = option_map (Scs slot) (named character_sets last)

-- the intermediates
abbrev pub escape_named : Option ℕ → ℕ → Option Escape
escape_named None last = named plain_escapes last
escape_named (Some inter) last =
    if inter == 35 then named line_escapes last  -- #
    else (if inter == 40 then designation_named G0 last  -- (
    else (if inter == 41 then designation_named G1 last  -- )
    else None))

-- DECSC: cursor, rendition and sets (EK-VT100-UG chapter 3), and also the pending wrap and DECOM (ours)
abbrev pub saved_from : Console → Saved
saved_from s = record {
  line = s.picture.line;
  column = s.picture.column;
  wrap = s.picture.wrap;
  rendition = s.rendition;
  g0 = s.sets.g0;
  g1 = s.sets.g1;
  invoked = s.sets.invoked;
  origin = s.modes.origin;
}

-- DECRC (ours): what was saved comes back and stays saved; without a save home with DECOM reset, no wrap and no
-- rendition, ASCII in G0 and G1, and G0 invoked
abbrev pub restored : Option Saved → Console → Console
restored None s = record s {
  picture = moved_home false s.picture;
  modes = record s.modes { origin = false };
  rendition = plain;
  sets = record s.sets { g0 = Ascii; g1 = Ascii; invoked = G0 };
}
restored (Some saved) s = record s {
  picture = put_back saved.line saved.column saved.wrap saved.origin s.modes.autowrap s.picture;
  modes = record s.modes { origin = saved.origin };
  rendition = saved.rendition;
  sets = record s.sets { g0 = saved.g0; g1 = saved.g1; invoked = saved.invoked };
}

-- DECKPAM and DECKPNM (EK-VT100-UG chapter 3)
abbrev pub keypad_set : Bool → Console → Console
keypad_set application s = on_modes (λ modes. record modes { application_keypad = application }) s

-- the table of their effects; DECID replies and has none (EK-VT100-UG chapter 3); RIS keeps the profile
abbrev pub escape_effect : Escape → Console → Console
escape_effect Ind s = on_picture indexed s
escape_effect Nel s = on_picture (λ p. indexed (moved_to_left p)) s
escape_effect Ri s = on_picture reverse_indexed s
escape_effect Hts s = on_picture (tab_made true) s
escape_effect Decid s = s
escape_effect Ris s = reset_console s.profile
escape_effect Decsc s = record s { saved = Some (saved_from s) }
escape_effect Decrc s = restored s.saved s
escape_effect Deckpam s = keypad_set true s
escape_effect Deckpnm s = keypad_set false s
escape_effect DecdhlTop s = on_picture (size_set Top) s
escape_effect DecdhlBottom s = on_picture (size_set Bottom) s
escape_effect Decswl s = on_picture (size_set Single) s
escape_effect Decdwl s = on_picture (size_set Double) s
escape_effect Decaln s = on_picture aligned s
escape_effect (Scs slot set) s = on_sets (designated slot set) s
