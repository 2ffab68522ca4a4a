-- Finished sequences without a command: what a state tells of them is what the raw bytes say.
use Rattle.std.proofs.Common.{◌≡◌, ℕ, List, [], ◌∷◌, ◌++◌, cond, drop, Option, Some, None, refl, ◌∙◌, arith}
use Rattle.std.proofs.lemmas.Bool.Decides.{nat_tests}
use Rattle.vt_parser.specs.declared.commands.Mode.{Mode}
use Rattle.vt_parser.specs.declared.commands.Mode.TheVariants.{Ansi, Vt52}
use Rattle.vt_parser.specs.declared.states.ParserState.{ParserState}
use Rattle.vt_parser.specs.declared.states.Formless.{Formless}
use Rattle.vt_parser.specs.Forms.{is_control_sequence_begun}
use Rattle.vt_parser.specs.View.{parser_view}
use Rattle.vt_parser.specs.Step.{pending_after, mode_after}
use Rattle.vt_parser.specs.Formless.{escape_formless, control_sequence_formless, formless, formless_of, NoneEndsBehind}
use Rattle.vt_parser.specs.Machine.{formless_at, stepped, Passes}
use Rattle.vt_parser.proofs.Shapes.{Form, nothing, escaped, controlled, stringed, lone, addressed, lined, form}
use Rattle.vt_parser.proofs.Joins.{front_push, final_push, whole_with, is_whole_push}
use Rattle.vt_parser.proofs.Agrees.{same_view}

-- the last byte apart
abbrev formless_with : Mode → List ℕ → ℕ → Option Formless
formless_with Ansi pending byte =
    cond (is_control_sequence_begun pending) (control_sequence_formless (drop 2 pending) byte) (escape_formless (drop 1 pending) byte)
formless_with Vt52 pending byte = None

formless_push : (mode : Mode) (pending : List ℕ) (byte : ℕ) → formless mode (pending ++ byte ∷ []) ≡ formless_with mode pending byte
unfolding formless
formless_push Ansi pending byte = simp (front_push pending byte, final_push pending byte)
formless_push Vt52 pending byte = refl

formless_of_push : (mode : Mode) (pending : List ℕ) (byte : ℕ)
    → formless_of mode pending byte ≡ cond (whole_with mode pending byte) (formless_with mode pending byte) None
unfolding formless_of
formless_of_push mode pending byte = simp (is_whole_push mode pending byte, formless_push mode pending byte)

-- form by form
formless_of_form : (mode : Mode) (pending : List ℕ) (state : ParserState) → Form mode pending state → (byte : ℕ)
    → cond (whole_with mode pending byte) (formless_with mode pending byte) None ≡ formless_at state byte
formless_of_form _ _ _ (nothing Ansi) byte = refl
formless_of_form _ _ _ (nothing Vt52) byte = refl
formless_of_form _ _ _ (escaped [] all) byte = grind (arith, nat_tests)
formless_of_form _ _ _ (escaped (inter ∷ []) all) byte = grind (arith, nat_tests)
formless_of_form _ _ _ (escaped (inter ∷ second ∷ rest) all) byte = grind (arith, nat_tests)
formless_of_form _ _ _ (controlled [] all) byte = grind (arith, nat_tests)
formless_of_form _ _ _ (controlled (first ∷ rest) all) byte = grind (arith, nat_tests)
formless_of_form _ _ _ (stringed opening is) byte = grind (arith, nat_tests)
formless_of_form _ _ _ lone byte = grind (arith, nat_tests)
formless_of_form _ _ _ addressed byte = grind (arith, nat_tests)
formless_of_form _ _ _ (lined line is) byte = grind (arith, nat_tests)

pub formless_is_seen : (mode : Mode) (pending : List ℕ) (state : ParserState) (byte : ℕ) → parser_view mode pending ≡ Some state
    → formless_of mode pending byte ≡ formless_at state byte
formless_is_seen mode pending state byte shown =
    formless_of_push mode pending byte ∙ formless_of_form mode pending state (form mode pending state shown) byte

-- no byte but the first ends one, on states and on raw bytes
pub none_behind : (given mode : Mode) (pending : List ℕ) (state : ParserState) (bytes : List ℕ)
    → parser_view mode pending ≡ Some state → Passes state given bytes → NoneEndsBehind given mode pending bytes
none_behind given mode pending state [] shown passes = tt
none_behind given mode pending state (byte ∷ []) shown passes = tt
none_behind given mode pending state (byte ∷ next ∷ rest) shown passes =
    let view = same_view given mode pending byte state shown in
    let after = (stepped state given byte).state in (
      formless_is_seen (mode_after given mode byte) (pending_after mode pending byte) after next view ∙ passes.0,
      none_behind given (mode_after given mode byte) (pending_after mode pending byte) after (next ∷ rest) view passes.1,
    )
