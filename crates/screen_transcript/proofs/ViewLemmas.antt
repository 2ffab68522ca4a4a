-- What a parser shows behind bytes that give a command with their last, or none.
use Rattle.std.proofs.Common.{◌≡◌, ℕ, ◌==◌, Bool, true, false, cond, List, [], ◌∷◌, refl, sym, ap, ◌∙◌, inl, inr}
use Rattle.std.specs.Prelude.{Option, Some, None}
use Rattle.std.proofs.lemmas.Bool.{cases_Bool}
use Rattle.vt_parser.specs.declared.commands.Mode.{Mode}
use Rattle.vt_parser.specs.declared.commands.Command.{Command}
use Rattle.vt_parser.specs.declared.commands.Command.TheVariants.{Show, Error, Control}
use Rattle.vt_parser.specs.declared.states.ParserState.{ParserState}
use Rattle.vt_parser.specs.Syntax.{escape}
use Rattle.vt_parser.specs.View.{parser_view}
use Rattle.vt_parser.specs.Step.{pending_after, mode_after}
use Rattle.vt_parser.specs.Fold.{Gives, mode_after_bytes, pending_after_bytes}
use Rattle.vt_parser.specs.Law.{is_sequence}
use Rattle.vt_parser.proofs.Agrees.{ground_is_empty}
use Rattle.vt_parser.proofs.LawLemmas.{finished_leaves_nothing}
use Rattle.vt_term.specs.Console.{Console, effect_of}
use Rattle.vt_term.specs.Effect.{effect}
use Rattle.vt_term.proofs.Rowless.{mode_goes_alone}

pub same : {X : Type 0} (b : Bool) (x : X) → cond b x x ≡ x
same true x = refl
same false x = refl

-- ---- the mode that is given with each byte stays

pub mode_same : (m : Mode) (byte : ℕ) → mode_after m m byte ≡ m
mode_same m byte = same (byte == escape) m

mode_same_bytes : (m : Mode) (bytes : List ℕ) → mode_after_bytes m m bytes ≡ m
mode_same_bytes m [] = refl
mode_same_bytes m (byte ∷ rest) = ap (λ (n : Mode). mode_after_bytes m n rest) (mode_same m byte) ∙ mode_same_bytes m rest

-- ---- the state then

leaves_nothing : (given mode : Mode) (pending bytes : List ℕ) (command : Command)
    → Gives given mode pending bytes (Some command) → is_sequence command ≡ true → pending_after_bytes given mode pending bytes ≡ []
leaves_nothing given mode pending [] command gives is = absurd cc
leaves_nothing given mode pending (byte ∷ []) command gives is = finished_leaves_nothing mode pending byte command gives is
leaves_nothing given mode pending (byte ∷ next ∷ rest) command gives is =
    leaves_nothing given (mode_after given mode byte) (pending_after mode pending byte) (next ∷ rest) command gives.1 is

mode_kept : (command : Command) (s : Console) → is_sequence command ≡ false → (effect command s).modes.mode ≡ s.modes.mode
mode_kept (Show byte) s is = mode_goes_alone (Show byte) s
mode_kept Error s is = mode_goes_alone Error s
mode_kept (Control byte) s is = mode_goes_alone (Control byte) s
mode_kept _ s is = absurd cc

view_after : (m : Mode) (s : Console) (pending bytes : List ℕ) (command : Option Command) (state : ParserState)
    → s.modes.mode ≡ m → Gives m m pending bytes command → parser_view m (pending_after_bytes m m pending bytes) ≡ Some state
    → parser_view (effect_of effect command s).modes.mode (pending_after_bytes m m pending bytes) ≡ Some state
view_after m s pending bytes None state same gives view =
    ap (λ (n : Mode). parser_view n (pending_after_bytes m m pending bytes)) same ∙ view
view_after m s pending bytes (Some command) state same gives view = elim (cases_Bool (is_sequence command)) [
  | inl whole ↦
      let none = leaves_nothing m m pending bytes command gives whole in
      ap (parser_view (effect command s).modes.mode) none ∙ ground_is_empty.0 (effect command s).modes.mode
      ∙ sym (ground_is_empty.0 m) ∙ ap (parser_view m) (sym none) ∙ view
  | inr other ↦ ap (λ (n : Mode). parser_view n (pending_after_bytes m m pending bytes)) (mode_kept command s other ∙ same) ∙ view
]

pub view_then : (m : Mode) (s : Console) (pending bytes : List ℕ) (command : Option Command) (state : ParserState)
    → s.modes.mode ≡ m → Gives m m pending bytes command → parser_view (mode_after_bytes m m bytes) (pending_after_bytes m m pending bytes) ≡ Some state
    → parser_view (effect_of effect command s).modes.mode (pending_after_bytes m m pending bytes) ≡ Some state
view_then m s pending bytes command state same gives view =
    view_after m s pending bytes command state same gives
    (ap (λ (n : Mode). parser_view n (pending_after_bytes m m pending bytes)) (sym (mode_same_bytes m bytes)) ∙ view)
