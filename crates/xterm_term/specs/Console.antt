-- What a terminal shows beside what is pending: a plain value, on which effects are told.
use Rattle.std.specs.Prelude.{◌≡◌, ℕ, ◌≤◌, Bool, true, false, Option, Some, None, if◌then◌else◌}
use Rattle.sheet.specs.declared.rendition.Colour.{Colour}
use Rattle.sheet.specs.declared.rendition.Colour.TheVariants.{Default}
use Rattle.sheet.specs.declared.rendition.Rendition.{Rendition}
use Rattle.sheet.specs.Cells.{plain_on}
use Rattle.xterm_screen.specs.Picture.{Picture, Sound, IsInRegion, reset}
use Rattle.xterm_term.specs.declared.modes.Modes.{Modes}
use Rattle.xterm_term.specs.declared.sets.Sets.{Sets}
use Rattle.xterm_term.specs.declared.saved.Saved.{Saved}
use Rattle.xterm_term.specs.declared.console.Console.{Console as Fields}
use Rattle.xterm_term.specs.Sets.{first_sets}

pub record Console : Type 0 where
  -- sheets, cursor, pending wrap, margins and tabs
  pub picture : Picture
  -- the modes, and the keypad
  pub modes : Modes
  -- the rendition of the characters that come
  pub rendition : Rendition
  -- G0, G1, and which of them is invoked
  pub sets : Sets
  -- the character that was put last, while REP can repeat it
  pub last : Option ℕ
  -- a title is read
  pub title : Bool
  -- what DECSC saved of the main sheet, and of the alternate one
  pub main_saved : Option Saved
  pub alternate_saved : Option Saved

-- DECAWM set and the cursor shown, every other mode reset, numeric keypad (ours, but for DECAWM: xterm)
abbrev pub first_modes : Modes
first_modes = record {
  cursor_keys = false;
  reverse_screen = false;
  origin = false;
  autowrap = true;
  newline = false;
  insert = false;
  application_keypad = false;
  cursor_shown = true;
}

-- the initial state of so many columns and lines (ours)
abbrev pub reset_console : ℕ → ℕ → Console
reset_console columns lines = record {
  picture = reset columns lines;
  modes = first_modes;
  rendition = plain_on Default;
  sets = first_sets;
  last = None;
  title = false;
  main_saved = None;
  alternate_saved = None;
}

-- the picture alone changes
abbrev pub on_picture : (Picture → Picture) → Console → Console
on_picture change s = record s { picture = change s.picture }

-- the same, with the paper of the current rendition, in which cells are erased (xterm)
abbrev pub on_paper : (Colour → Picture → Picture) → Console → Console
on_paper change s = record s { picture = change s.rendition.paper s.picture }

-- the modes alone change
abbrev pub on_modes : (Modes → Modes) → Console → Console
on_modes change s = record s { modes = change s.modes }

-- the sets alone change
abbrev pub on_sets : (Sets → Sets) → Console → Console
on_sets change s = record s { sets = change s.sets }

-- what was saved of the sheet that is shown
abbrev pub saved_here : Console → Option Saved
saved_here s = if s.picture.alternate then s.alternate_saved else s.main_saved

-- there is no last character any more
abbrev pub forgotten : Console → Console
forgotten s = record s { last = None }

-- Private: what the fields of the code's console stand for
abbrev pub console_of : Fields → Console
console_of fields = record {
  picture = fields.screen.picture;
  modes = fields.modes;
  rendition = fields.rendition;
  sets = fields.sets;
  last = fields.last;
  title = fields.title;
  main_saved = fields.main_saved;
  alternate_saved = fields.alternate_saved;
}

-- the lines and columns of a save are counted from 1
abbrev pub IsSavedWell : Option Saved → Type 0
IsSavedWell None = Unit {0}
IsSavedWell (Some saved) = (1 ≤ saved.line) × (1 ≤ saved.column)

-- What every terminal keeps: the screen is sound, the cursor is inside the margins while DECOM is set (EK-VT100-UG
-- chapter 3, DECOM), and saves are well.
pub record IsSafe (s : Console) : Type 0 where
  pub sound : Sound s.picture
  pub inside : s.modes.origin ≡ true → IsInRegion s.picture
  pub main_saved : IsSavedWell s.main_saved
  pub alternate_saved : IsSavedWell s.alternate_saved
