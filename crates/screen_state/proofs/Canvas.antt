-- What the text before the lines brings.
use Rattle.std.proofs.Common.{Bool, true, false, List, [], ◌∷◌, refl}
use Rattle.std.proofs.Math.Dec.{lit≤}
use Rattle.std.specs.Prelude.{codes, Option}
use Rattle.vt_parser.specs.Syntax.{escape}
use Rattle.vt_screen.specs.Attributes.{Attributes, plain}
use Rattle.vt_screen.specs.Cells.{blank_row, rows_by}
use Rattle.vt_screen.specs.Moves.{moved_home}
use Rattle.vt_screen.specs.Picture.{Picture, reset}
use Rattle.vt_term.specs.declared.profile.Profile.{Profile}
use Rattle.vt_term.specs.declared.saved.Saved.{Saved}
use Rattle.vt_term.specs.declared.sets.CharacterSet.{CharacterSet}
use Rattle.vt_term.specs.declared.sets.CharacterSet.TheVariants.{Ascii, SpecialGraphics}
use Rattle.vt_term.specs.declared.sets.Slot.{Slot}
use Rattle.vt_term.specs.declared.sets.Slot.TheVariants.{G0}
use Rattle.vt_term.specs.Console.{Console, first_modes, reset_console}
use Rattle.vt_term.specs.Printing.{Brings}
use Rattle.vt_term.proofs.Printed.{private_sequences_bring}
use Rattle.screen_print.specs.EscapedText.{first_pen}
use Rattle.screen_print.proofs.Redrawn.{digit_texts, one_param, brings_as, drawing}
use Rattle.screen_state.specs.StateText.{columns_text, canvas_text}
use Rattle.screen_state.proofs.Below.{joined}
use Rattle.screen_state.proofs.Kept.{saving, in_force_brings}

-- what is drawn on: the columns, the stops and what is saved, and else what is there at first
abbrev pub based : Profile → Bool → List Bool → Option Saved → Console
based profile wide tabs saved = record (reset_console profile) { picture = record reset { wide = wide; tabs = tabs }; saved = saved }

module _ (profile : Profile) (p : Picture) (rendition : Attributes) (g0 g1 : CharacterSet) (slot : Slot) (saved : Option Saved) where
  uncounts : (origin : Bool) → Brings (saving profile p origin rendition g0 g1 slot saved) (escape ∷ codes "[?6l") (saving profile (moved_home false p) false rendition g0 g1 slot saved)
  uncounts origin =
      let s = saving profile p origin rendition g0 g1 slot saved in
      brings_as s (private_sequences_bring s (6 ∷ []) 108 refl (one_param 6 (lit≤ tt)) refl) (simp digit_texts refl) refl

  clears : (wide : Bool)
      → Brings (saving profile (moved_home false p) false rendition g0 g1 slot saved) (columns_text wide)
      (saving profile (record reset { wide = wide; tabs = p.tabs }) false rendition g0 g1 slot saved)
  clears true =
      let s = saving profile (moved_home false p) false rendition g0 g1 slot saved in
      brings_as s (private_sequences_bring s (3 ∷ []) 104 refl (one_param 3 (lit≤ tt)) refl) (simp digit_texts refl) refl
  clears false =
      let s = saving profile (moved_home false p) false rendition g0 g1 slot saved in
      brings_as s (private_sequences_bring s (3 ∷ []) 108 refl (one_param 3 (lit≤ tt)) refl) (simp digit_texts refl) refl

  pub canvas_brings : (origin wide : Bool)
      → Brings (saving profile p origin rendition g0 g1 slot saved) (canvas_text wide)
      (drawing (based profile wide p.tabs saved) (rows_by (λ _. blank_row)) 1 1 first_pen)
  canvas_brings origin wide =
      let cleared = saving profile (record reset { wide = wide; tabs = p.tabs }) false rendition g0 g1 slot saved in
      let unwrapped : Console = record cleared { modes = record first_modes { autowrap = false } } in
      let unwraps : Brings cleared (escape ∷ codes "[?7l") unwrapped =
      brings_as cleared (private_sequences_bring cleared (7 ∷ []) 108 refl (one_param 7 (lit≤ tt)) refl) (simp digit_texts refl) refl in
      joined (joined (joined (uncounts origin) (clears wide)) unwraps) (in_force_brings unwrapped plain Ascii SpecialGraphics G0 refl)
