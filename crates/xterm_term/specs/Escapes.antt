-- Escape sequences (EK-VT100-UG chapter 3; titles: screen and tmux).
use Rattle.std.specs.Prelude.{ℕ, Bool, true, false, List, [], ◌∷◌, Option, Some, None, option_map, ◌==◌, min, if◌then◌else◌}
use Rattle.sheet.specs.declared.rendition.Colour.TheVariants.{Default}
use Rattle.sheet.specs.Cells.{plain_on}
use Rattle.xterm_screen.specs.Moves.{moved_home, put_back}
use Rattle.xterm_screen.specs.Puts.{next_line}
use Rattle.xterm_screen.specs.Scrolls.{indexed, reverse_indexed}
use Rattle.xterm_screen.specs.Margins.{aligned}
use Rattle.xterm_screen.specs.Tabs.{tab_made}
use Rattle.xterm_term.specs.declared.sets.CharacterSet.{CharacterSet}
use Rattle.xterm_term.specs.declared.sets.CharacterSet.TheVariants.{Ascii, Uk, SpecialGraphics}
use Rattle.xterm_term.specs.declared.sets.Slot.{Slot}
use Rattle.xterm_term.specs.declared.sets.Slot.TheVariants.{G0, G1}
use Rattle.xterm_term.specs.declared.saved.Saved.{Saved}
use Rattle.xterm_term.specs.Rows.{named}
use Rattle.xterm_term.specs.Sets.{designated}
use Rattle.xterm_term.specs.Console.{Console, reset_console, on_picture, on_paper, on_modes, on_sets, saved_here}

-- the escape sequences that have an effect or a reply
pub data Escape : Type 0 where
  Ind Nel Ri Hts Decid Ris Decsc Decrc Deckpam Deckpnm Decaln Title : Escape
  Scs : (slot : Slot) (set : CharacterSet) → Escape

-- the final bytes of those without an intermediate
abbrev pub plain_escapes : List (ℕ × Escape)
plain_escapes =
    (68, Ind) ∷  -- D
    (69, Nel) ∷  -- E
    (77, Ri) ∷  -- M
    (72, Hts) ∷  -- H
    (90, Decid) ∷  -- Z
    (99, Ris) ∷  -- c
    (55, Decsc) ∷  -- 7
    (56, Decrc) ∷  -- 8
    (61, Deckpam) ∷  -- =
    (62, Deckpnm) ∷  -- >
    (107, Title) ∷  -- k
    []

-- the final bytes of those with the intermediate #
abbrev pub line_escapes : List (ℕ × Escape)
line_escapes =
    (56, Decaln) ∷  -- 8
    []

-- the final bytes of SCS; the alternate ROMs of 1 and 2 are ASCII and special graphics (ours)
abbrev pub character_sets : List (ℕ × CharacterSet)
character_sets =
    (65, Uk) ∷  -- A
    (66, Ascii) ∷  -- B
    (48, SpecialGraphics) ∷  -- 0
    (49, Ascii) ∷  -- 1
    (50, SpecialGraphics) ∷  -- 2
    []

-- SCS designates a set in a slot
abbrev pub designation_named : Slot → ℕ → Option Escape
designation_named slot last = option_map (Scs slot) (named character_sets last)

-- the intermediates
abbrev pub escape_named : Option ℕ → ℕ → Option Escape
escape_named None last = named plain_escapes last
escape_named (Some inter) last =
    if inter == 35 then named line_escapes last  -- #
    else (if inter == 40 then designation_named G0 last  -- (
    else (if inter == 41 then designation_named G1 last  -- )
    else None))

-- DECSC: cursor, rendition and sets (EK-VT100-UG chapter 3), and also the pending wrap and DECOM (ours)
abbrev pub saved_from : Console → Saved
saved_from s = record {
  line = s.picture.line;
  column = s.picture.column;
  wrap = s.picture.wrap;
  rendition = s.rendition;
  g0 = s.sets.g0;
  g1 = s.sets.g1;
  invoked = s.sets.invoked;
  origin = s.modes.origin;
}

-- each sheet has a save of its own (xterm)
abbrev pub saved : Console → Console
saved s =
    if s.picture.alternate
    then record s { alternate_saved = Some (saved_from s) }
    else record s { main_saved = Some (saved_from s) }

-- DECRC (ours): what was saved comes back and stays saved, the line at most the last one; without a save home with
-- DECOM reset, no wrap and no rendition, ASCII in G0 and G1, and G0 invoked
abbrev pub restored_from : Option Saved → Console → Console
restored_from None s = record s {
  picture = moved_home false s.picture;
  modes = record s.modes { origin = false };
  rendition = plain_on Default;
  sets = record { g0 = Ascii; g1 = Ascii; invoked = G0 };
}
restored_from (Some save) s = record s {
  picture = put_back (min save.line s.picture.lines) save.column save.wrap save.origin s.modes.autowrap s.picture;
  modes = record s.modes { origin = save.origin };
  rendition = save.rendition;
  sets = record { g0 = save.g0; g1 = save.g1; invoked = save.invoked };
}

-- the save of the sheet that is shown
abbrev pub restored : Console → Console
restored s = restored_from (saved_here s) s

-- DECKPAM and DECKPNM (EK-VT100-UG chapter 3)
abbrev pub keypad_set : Bool → Console → Console
keypad_set application s = on_modes (λ modes. record modes { application_keypad = application }) s

-- The table of their effects. DECID replies and has none; RIS keeps the size (EK-VT100-UG chapter 3). DECALN resets
-- DECOM (xterm).
abbrev pub escape_effect : Escape → Console → Console
escape_effect Ind s = on_paper indexed s
escape_effect Nel s = on_paper next_line s
escape_effect Ri s = on_paper reverse_indexed s
escape_effect Hts s = on_picture (tab_made true) s
escape_effect Decid s = s
escape_effect Ris s = reset_console s.picture.columns s.picture.lines
escape_effect Decsc s = saved s
escape_effect Decrc s = restored s
escape_effect Deckpam s = keypad_set true s
escape_effect Deckpnm s = keypad_set false s
escape_effect Decaln s = record s { picture = aligned s.picture; modes = record s.modes { origin = false } }
escape_effect Title s = record s { title = true }
escape_effect (Scs slot set) s = on_sets (designated slot set) s
