use Rattle.std.proofs.Common.{◌≡◌, ℕ, List, Bool, true, false, ◌++◌, ◌∷◌, refl, append_assoc}
use Rattle.std.specs.Prelude.{codes}
use Rattle.vt_parser.specs.Syntax.{escape}
use Rattle.vt_screen.specs.Attributes.{plain}
use Rattle.vt_term.specs.declared.sets.CharacterSet.TheVariants.{Ascii, SpecialGraphics}
use Rattle.vt_term.specs.declared.sets.Slot.TheVariants.{G0}
use Rattle.screen_state.specs.StateText.{canvas_text, columns_text, in_force_text}
use Rattle.screen_state.proofs.opening.push_canvas.Goals as goal

parts : (before : List ℕ) (wide : Bool)
    → before ++ escape ∷ codes "[?6l" ++ columns_text wide ++ escape ∷ codes "[?7l" ++ in_force_text plain Ascii SpecialGraphics G0
    ≡ before ++ canvas_text wide
parts before true = simp append_assoc refl
parts before false = simp append_assoc refl

pub returns : goal.returns
returns c =
    simp (c.push_in_force.ensures.text, c.push_bytes-2.ensures, c.push_columns.ensures.text, c.push_bytes.ensures, c.plain.ensures)
    (parts c.args.text.now.items c.args.wide)
