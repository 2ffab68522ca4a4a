-- Control sequences without `?` (ECMA-48 8.3; DECSTBM and reports: EK-VT100-UG chapter 3; `s` and `u`: xterm).
use Rattle.std.specs.Prelude.{ℕ, Bool, true, false, List, [], ◌∷◌, ◌==◌, nat_le, length, fold, slice_index, if◌then◌else◌}
use Rattle.sheet.specs.declared.rendition.Colour.{Colour}
use Rattle.xterm_screen.specs.Picture.{Picture}
use Rattle.xterm_screen.specs.Moves.{stepped_up, stepped_down, stepped_right, stepped_left, moved_to_left, on_column, lowered, placed_on_line, placed}
use Rattle.xterm_screen.specs.Scrolls.{lines_inserted, lines_deleted, region_raised, region_lowered}
use Rattle.xterm_screen.specs.CellEdits.{cells_inserted, cells_deleted}
use Rattle.xterm_screen.specs.Erasures.{display_erased, line_erased, cells_erased}
use Rattle.xterm_screen.specs.Margins.{margins_set}
use Rattle.xterm_screen.specs.Tabs.{tab_made, tabs_cleared, tabbed_on, tabbed_back}
use Rattle.xterm_term.specs.declared.modes.Modes.{Modes}
use Rattle.xterm_term.specs.Rows.{named, effect_of}
use Rattle.xterm_term.specs.Console.{Console, on_picture, on_paper, on_modes}
use Rattle.xterm_term.specs.Renditions.{renditions_set}
use Rattle.xterm_term.specs.Escapes.{saved, restored}
use Rattle.xterm_term.specs.Puts.{last_repeated}

-- the control sequences that have an effect or a reply; HVP is read as CUP, and HPR as CUF
pub data Sequence : Type 0 where
  Cuu Cud Cuf Cub Cnl Cpl Cha Vpr Vpa Cup Cht Cbt Ed El Ech Ich Dch Il Dl Su Sd Rep Tbc Sm Rm Sgr : Sequence
  Decstbm Scosc Scorc Da Dsr Decreqtparm : Sequence

-- their final bytes
abbrev pub sequences : List (ℕ × Sequence)
sequences =
    (65, Cuu) ∷  -- A
    (66, Cud) ∷  -- B
    (67, Cuf) ∷  -- C
    (68, Cub) ∷  -- D
    (69, Cnl) ∷  -- E
    (70, Cpl) ∷  -- F
    (71, Cha) ∷  -- G
    (96, Cha) ∷  -- `
    (97, Cuf) ∷  -- a
    (101, Vpr) ∷  -- e
    (100, Vpa) ∷  -- d
    (72, Cup) ∷  -- H
    (102, Cup) ∷  -- f
    (73, Cht) ∷  -- I
    (90, Cbt) ∷  -- Z
    (74, Ed) ∷  -- J
    (75, El) ∷  -- K
    (88, Ech) ∷  -- X
    (64, Ich) ∷  -- @
    (80, Dch) ∷  -- P
    (76, Il) ∷  -- L
    (77, Dl) ∷  -- M
    (83, Su) ∷  -- S
    (84, Sd) ∷  -- T
    (98, Rep) ∷  -- b
    (103, Tbc) ∷  -- g
    (104, Sm) ∷  -- h
    (108, Rm) ∷  -- l
    (109, Sgr) ∷  -- m
    (114, Decstbm) ∷  -- r
    (115, Scosc) ∷  -- s
    (117, Scorc) ∷  -- u
    (99, Da) ∷  -- c
    (110, Dsr) ∷  -- n
    (120, Decreqtparm) ∷  -- x
    []

-- the parameter at an index, from 0 on, or a default where it is missing or 0 (ECMA-48 section 5.4.2)
abbrev pub param_or : List ℕ → ℕ → ℕ → ℕ
param_or params index default =
    let param = slice_index params index in
    if param == 0 then default else param

-- ED and EL have the parts 0, 1 and 2; another does nothing (ECMA-48 8.3.39, 8.3.41)
abbrev pub erased : (ℕ → Colour → Picture → Picture) → ℕ → Colour → Picture → Picture
erased erase part paper p = if nat_le part 2 then erase part paper p else p

-- TBC: 0 clears the stop at the cursor's column, 3 clears all; another does nothing (ECMA-48 8.3.154)
abbrev pub tabs_taken : ℕ → Picture → Picture
tabs_taken param p =
    if param == 0 then tab_made false p
    else (if param == 3 then tabs_cleared p
    else p)

-- CNL and CPL: down or up, and column 1 (ECMA-48 8.3.12, 8.3.13)
abbrev pub then_to_left : (ℕ → Picture → Picture) → ℕ → Picture → Picture
then_to_left step n p = moved_to_left (step n p)

-- SD: with more than one parameter it is another sequence, which does nothing (xterm)
abbrev pub region_lowered_by : List ℕ → Colour → Picture → Picture
region_lowered_by params paper p =
    if nat_le (length params) 1 then region_lowered (param_or params 0 1) paper p else p

-- the modes of SM and RM
pub data AnsiMode : Type 0 where
  Irm Lnm : AnsiMode

-- their parameters (ECMA-48 7.2.10; EK-VT100-UG chapter 3)
abbrev pub ansi_modes : List (ℕ × AnsiMode)
ansi_modes =
    (4, Irm) ∷
    (20, Lnm) ∷
    []

-- what setting or resetting one does
abbrev pub ansi_mode_effect : Bool → AnsiMode → Modes → Modes
ansi_mode_effect value Irm modes = record modes { insert = value }
ansi_mode_effect value Lnm modes = record modes { newline = value }

-- SM and RM of one parameter
abbrev pub ansi_mode_set : Bool → Modes → ℕ → Modes
ansi_mode_set value modes param = effect_of (ansi_mode_effect value) (named ansi_modes param) modes

-- The table of their effects. SGR, SM and RM take every parameter, from left to right; the others take the first one,
-- or two, and drop the rest (ours). DA, DSR and DECREQTPARM reply and have no effect.
abbrev pub sequence_effect : Sequence → List ℕ → Console → Console
sequence_effect Cuu params s = on_picture (stepped_up (param_or params 0 1)) s
sequence_effect Cud params s = on_picture (stepped_down (param_or params 0 1)) s
sequence_effect Cuf params s = on_picture (stepped_right (param_or params 0 1)) s
sequence_effect Cub params s = on_picture (stepped_left (param_or params 0 1)) s
sequence_effect Cnl params s = on_picture (then_to_left stepped_down (param_or params 0 1)) s
sequence_effect Cpl params s = on_picture (then_to_left stepped_up (param_or params 0 1)) s
sequence_effect Cha params s = on_picture (on_column (param_or params 0 1)) s
sequence_effect Vpr params s = on_picture (lowered (param_or params 0 1) s.modes.origin) s
sequence_effect Vpa params s = on_picture (placed_on_line (param_or params 0 1) s.modes.origin) s
sequence_effect Cup params s =
    on_picture (placed (param_or params 0 1) (param_or params 1 1) s.modes.origin) s
sequence_effect Cht params s = on_picture (tabbed_on (param_or params 0 1)) s
sequence_effect Cbt params s = on_picture (tabbed_back (param_or params 0 1)) s
sequence_effect Ed params s = on_paper (erased display_erased (param_or params 0 0)) s
sequence_effect El params s = on_paper (erased line_erased (param_or params 0 0)) s
sequence_effect Ech params s = on_paper (cells_erased (param_or params 0 1)) s
sequence_effect Ich params s = on_paper (cells_inserted (param_or params 0 1)) s
sequence_effect Dch params s = on_paper (cells_deleted (param_or params 0 1)) s
sequence_effect Il params s = on_paper (lines_inserted (param_or params 0 1)) s
sequence_effect Dl params s = on_paper (lines_deleted (param_or params 0 1)) s
sequence_effect Su params s = on_paper (region_raised (param_or params 0 1)) s
sequence_effect Sd params s = on_paper (region_lowered_by params) s
sequence_effect Rep params s = last_repeated (param_or params 0 1) s
sequence_effect Tbc params s = on_picture (tabs_taken (param_or params 0 0)) s
sequence_effect Sm params s = on_modes (λ modes. fold (ansi_mode_set true) modes params) s
sequence_effect Rm params s = on_modes (λ modes. fold (ansi_mode_set false) modes params) s
sequence_effect Sgr params s = record s { rendition = renditions_set 0 params s.rendition }
sequence_effect Decstbm params s =
    on_picture (margins_set (param_or params 0 1) (param_or params 1 s.picture.lines) s.modes.origin) s
sequence_effect Scosc params s = saved s
sequence_effect Scorc params s = restored s
sequence_effect Da params s = s
sequence_effect Dsr params s = s
sequence_effect Decreqtparm params s = s
