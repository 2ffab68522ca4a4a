-- Control sequences of ANSI mode without `?` (EK-VT100-UG chapter 3).
use Rattle.std.specs.Prelude.{ℕ, ◌-◌, Bool, true, false, List, [], ◌∷◌, ◌==◌, nat_le, fold, slice_index, slice_set, if◌then◌else◌}
use Rattle.vt_screen.specs.Attributes.{Attributes, plain}
use Rattle.vt_screen.specs.Picture.{Picture}
use Rattle.vt_screen.specs.Moves.{stepped_up, stepped_down, stepped_right, stepped_left, placed}
use Rattle.vt_screen.specs.Scrolls.{lines_inserted, lines_deleted}
use Rattle.vt_screen.specs.CellEdits.{cells_deleted}
use Rattle.vt_screen.specs.Erasures.{display_erased, line_erased}
use Rattle.vt_screen.specs.Lines.{margins_set}
use Rattle.vt_screen.specs.Tabs.{tab_made, tabs_cleared}
use Rattle.vt_screen.specs.Limits.{line_count}
use Rattle.vt_term.specs.declared.modes.Modes.{Modes}
use Rattle.vt_term.specs.declared.profile.Profile.{Profile}
use Rattle.vt_term.specs.Rows.{named}
use Rattle.vt_term.specs.Profile.{has_editing}
use Rattle.vt_term.specs.Console.{Console, dark, on_picture, on_modes, effect_of}

-- the control sequences that have an effect or a reply; HVP is read as CUP (EK-VT100-UG chapter 3)
pub data Sequence : Type 0 where
  Cuu Cud Cuf Cub Cup Ed El Il Dl Dch Decstbm Tbc Sgr Sm Rm Decll Da Dsr Decreqtparm : Sequence

-- their final bytes
abbrev pub sequences : List (ℕ × Sequence)
sequences =
    (65, Cuu) ∷  -- A
    (66, Cud) ∷  -- B
    (67, Cuf) ∷  -- C
    (68, Cub) ∷  -- D
    (72, Cup) ∷  -- H
    (102, Cup) ∷  -- f
    (74, Ed) ∷  -- J
    (75, El) ∷  -- K
    (76, Il) ∷  -- L
    (77, Dl) ∷  -- M
    (80, Dch) ∷  -- P
    (114, Decstbm) ∷  -- r
    (103, Tbc) ∷  -- g
    (109, Sgr) ∷  -- m
    (104, Sm) ∷  -- h
    (108, Rm) ∷  -- l
    (113, Decll) ∷  -- q
    (99, Da) ∷  -- c
    (110, Dsr) ∷  -- n
    (120, Decreqtparm) ∷  -- x
    []

-- IL, DL and DCH are rows of a VT102 alone (VT102 User Guide)
abbrev pub is_row_of : Profile → Sequence → Bool
is_row_of profile Il = has_editing profile
is_row_of profile Dl = has_editing profile
is_row_of profile Dch = has_editing profile
is_row_of profile _ = true

-- the parameter at an index, from 0 on, or a default where it is missing or 0 (ECMA-48 section 5.4.2, EK-VT100-UG
-- chapter 3)
abbrev pub param_or : List ℕ → ℕ → ℕ → ℕ
param_or params index default =
    let param = slice_index params index in
    if param == 0 then default else param

-- ED and EL have the parts 0, 1 and 2; another does nothing (EK-VT100-UG chapter 3)
abbrev pub erased : (ℕ → Picture → Picture) → ℕ → Picture → Picture
erased erase part p = if nat_le part 2 then erase part p else p

-- TBC: 0 clears the stop at the cursor's column, 3 clears all; another does nothing (EK-VT100-UG chapter 3)
abbrev pub tabs_taken : ℕ → Picture → Picture
tabs_taken param p =
    if param == 0 then tab_made false p
    else (if param == 3 then tabs_cleared p
    else p)

-- SGR: 0 no rendition, 1 bold, 4 underscore, 5 blink, 7 reverse; others do nothing (EK-VT100-UG chapter 3)
abbrev pub rendition_set : Attributes → ℕ → Attributes
rendition_set a param =
    if param == 0 then plain
    else (if param == 1 then record a { bold = true }
    else (if param == 4 then record a { underscore = true }
    else (if param == 5 then record a { blink = true }
    else (if param == 7 then record a { reverse = true }
    else a))))

-- the modes of SM and RM
pub data AnsiMode : Type 0 where
  Irm Lnm : AnsiMode

-- their parameters (VT102 User Guide; EK-VT100-UG chapter 3)
abbrev pub ansi_modes : List (ℕ × AnsiMode)
ansi_modes =
    (4, Irm) ∷
    (20, Lnm) ∷
    []

-- IRM is a row of a VT102 alone (VT102 User Guide)
abbrev pub is_mode_of : Profile → AnsiMode → Bool
is_mode_of profile Irm = has_editing profile
is_mode_of profile Lnm = true

-- what setting or resetting one does
abbrev pub ansi_mode_effect : Profile → Bool → AnsiMode → Modes → Modes
ansi_mode_effect profile value Irm modes = if has_editing profile then record modes { insert = value } else modes
ansi_mode_effect profile value Lnm modes = record modes { newline = value }

-- SM and RM of one parameter
abbrev pub ansi_mode_set : Profile → Bool → Modes → ℕ → Modes
ansi_mode_set profile value modes param = effect_of (ansi_mode_effect profile value) (named ansi_modes param) modes

-- IL, DL and DCH do nothing where the profile hasn't them (ours)
abbrev pub where_it_edits : (Picture → Picture) → Console → Console
where_it_edits edit s = if has_editing s.profile then on_picture edit s else s

-- DECLL: 0 all LEDs off, 1 to 4 that LED on; others do nothing (EK-VT100-UG chapter 3)
abbrev pub leds_set : List Bool → ℕ → List Bool
leds_set leds param =
    if param == 0 then dark
    else (if nat_le param 4 then slice_set leds (param - 1) true
    else leds)

-- The table of their effects. SGR, SM, RM and DECLL take every parameter, from left to right; the others take the first
-- one, or two, and drop the rest (ours). DA, DSR and DECREQTPARM reply and have no effect.
abbrev pub sequence_effect : Sequence → List ℕ → Console → Console
sequence_effect Cuu params s = on_picture (stepped_up (param_or params 0 1)) s
sequence_effect Cud params s = on_picture (stepped_down (param_or params 0 1)) s
sequence_effect Cuf params s = on_picture (stepped_right (param_or params 0 1)) s
sequence_effect Cub params s = on_picture (stepped_left (param_or params 0 1)) s
sequence_effect Cup params s =
    on_picture (placed (param_or params 0 1) (param_or params 1 1) s.modes.origin) s
sequence_effect Ed params s = on_picture (erased display_erased (param_or params 0 0)) s
sequence_effect El params s = on_picture (erased line_erased (param_or params 0 0)) s
sequence_effect Il params s = where_it_edits (lines_inserted (param_or params 0 1)) s
sequence_effect Dl params s = where_it_edits (lines_deleted (param_or params 0 1)) s
sequence_effect Dch params s = where_it_edits (cells_deleted (param_or params 0 1)) s
sequence_effect Decstbm params s =
    let top = param_or params 0 1 in
    let bottom = param_or params 1 line_count in
    on_picture (margins_set top bottom s.modes.origin) s
sequence_effect Tbc params s = on_picture (tabs_taken (param_or params 0 0)) s
sequence_effect Sgr params s = record s { rendition = fold rendition_set s.rendition params }
sequence_effect Sm params s = on_modes (λ modes. fold (ansi_mode_set s.profile true) modes params) s
sequence_effect Rm params s = on_modes (λ modes. fold (ansi_mode_set s.profile false) modes params) s
sequence_effect Decll params s = record s { leds = fold leds_set s.leds params }
sequence_effect Da params s = s
sequence_effect Dsr params s = s
sequence_effect Decreqtparm params s = s
