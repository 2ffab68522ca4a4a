-- What a terminal shows beside its parser: a plain value, on which effects are told.
use Rattle.std.specs.Prelude.{◌≡◌, ◌≤◌, Bool, true, false, List, [], ◌∷◌, length, Option, Some, None}
use Rattle.vt_parser.specs.declared.commands.Mode.TheVariants.{Ansi}
use Rattle.vt_screen.specs.Attributes.{Attributes, plain}
use Rattle.vt_screen.specs.Picture.{Picture, Sound, IsInRegion, reset}
use Rattle.vt_screen.specs.Limits.{line_count, wide_columns}
use Rattle.vt_term.specs.declared.profile.Profile.{Profile}
use Rattle.vt_term.specs.declared.modes.Modes.{Modes}
use Rattle.vt_term.specs.declared.sets.Sets.{Sets}
use Rattle.vt_term.specs.declared.saved.Saved.{Saved}
use Rattle.vt_term.specs.declared.console.Console.{Console as Fields}
use Rattle.vt_term.specs.Sets.{first_sets}

pub record Console : Type 0 where
  -- which terminal it is: nothing changes it
  pub profile : Profile
  -- columns, rows, cursor, pending wrap, margins and tabs
  pub picture : Picture
  -- the modes, and the keypad
  pub modes : Modes
  -- the rendition of the characters that come
  pub rendition : Attributes
  -- G0, G1, which of them is invoked, and VT52 graphics
  pub sets : Sets
  -- what DECSC saved, if it was ever sent
  pub saved : Option Saved
  -- L1 to L4
  pub leds : List Bool

-- ANSI mode and DECAWM set, every other mode reset, numeric keypad (ours)
abbrev pub first_modes : Modes
first_modes = record {
  mode = Ansi;
  cursor_keys = false;
  smooth_scroll = false;
  reverse_screen = false;
  origin = false;
  autowrap = true;
  auto_repeat = false;
  interlace = false;
  newline = false;
  insert = false;
  application_keypad = false;
}

-- all four LEDs off (EK-VT100-UG chapter 3, DECLL)
abbrev pub dark : List Bool
dark = false ∷ false ∷ false ∷ false ∷ []

-- the initial state of a profile (ours)
abbrev pub reset_console : Profile → Console
reset_console profile = record {
  profile = profile;
  picture = reset;
  modes = first_modes;
  rendition = plain;
  sets = first_sets;
  saved = None;
  leds = dark;
}

-- the picture alone changes
abbrev pub on_picture : (Picture → Picture) → Console → Console
on_picture change s = record s { picture = change s.picture }

-- the modes alone change
abbrev pub on_modes : (Modes → Modes) → Console → Console
on_modes change s = record s { modes = change s.modes }

-- the sets alone change
abbrev pub on_sets : (Sets → Sets) → Console → Console
on_sets change s = record s { sets = change s.sets }

-- What stands in no table has no effect (ours), nor has a byte that gives no command.
abbrev pub effect_of : {Name State : Type 0} → (Name → State → State) → Option Name → State → State
effect_of effect None s = s
effect_of effect (Some row) s = effect row s

-- Private: what the fields of the code's console stand for
abbrev pub console_of : Fields → Console
console_of fields = record {
  profile = fields.profile;
  picture = fields.screen.picture;
  modes = fields.modes;
  rendition = fields.rendition;
  sets = fields.sets;
  saved = fields.saved;
  leds = fields.leds;
}

-- a saved cursor stands on the screen (ours)
abbrev pub IsSavedWell : Option Saved → Type 0
IsSavedWell None = Unit {0}
IsSavedWell (Some saved) =
    (1 ≤ saved.line) × (saved.line ≤ line_count) × (1 ≤ saved.column) × (saved.column ≤ wide_columns)

-- What every terminal keeps: the screen is sound (the cursor is at most at its line's right margin, cells right of it
-- are blank, glyphs are at most 126), and the cursor is inside the margins while DECOM is set (EK-VT100-UG chapter 3,
-- DECOM; the cut at the right margin: ours).
pub record IsSafe (s : Console) : Type 0 where
  pub sound : Sound s.picture
  pub inside : s.modes.origin ≡ true → IsInRegion s.picture
  pub saved : IsSavedWell s.saved
  pub leds : length s.leds ≡ 4
