-- The machine does with every byte what the raw bytes of the pending sequence say.
use Rattle.std.proofs.Common.{◌≡◌, ℕ, true, List, [], ◌∷◌, ◌++◌, Some, refl, sym, ap, ◌∙◌, inl, inr, arith}
use Rattle.std.proofs.lemmas.Bool.{cases_Bool, and_parts}
use Rattle.std.proofs.lemmas.Bool.Decides.{nat_tests}
use Rattle.vt_parser.specs.declared.commands.Mode.{Mode}
use Rattle.vt_parser.specs.declared.commands.Mode.TheVariants.{Ansi, Vt52}
use Rattle.vt_parser.specs.declared.syntax.Action.{Action}
use Rattle.vt_parser.specs.declared.syntax.Action.TheVariants.{Begin, Join, End, Cancel}
use Rattle.vt_parser.specs.declared.states.ParserState.{ParserState}
use Rattle.vt_parser.specs.declared.states.ParserState.TheVariants.{Ground}
use Rattle.vt_parser.specs.Syntax.{escape, is_graphic, action_of}
use Rattle.vt_parser.specs.Forms.{is_whole}
use Rattle.vt_parser.specs.View.{parser_view}
use Rattle.vt_parser.specs.Step.{context_of, command_by, pending_by, command_of, pending_after, mode_after}
use Rattle.vt_parser.specs.Law.{StateDecides, StaysShown, GroundIsEmpty}
use Rattle.vt_parser.specs.Machine.{context_in, begun, stepped_by, stepped}
use Rattle.vt_parser.proofs.Table.{fits, fit}
use Rattle.vt_parser.proofs.Shapes.{shows_none, Form, nothing, escaped, controlled, stringed, form}
use Rattle.vt_parser.proofs.Joins.{is_whole_push, meaning_push, joins_alike}

-- ---- where bytes come

context_of_form : (mode : Mode) (pending : List ℕ) (state : ParserState) → Form mode pending state → context_of mode pending ≡ context_in state
unfolding context_of
context_of_form _ _ _ (nothing Ansi) = refl
context_of_form _ _ _ (escaped (inter ∷ []) all) = grind (arith, nat_tests)
context_of_form _ _ _ (controlled (first ∷ rest) all) = grind (arith, nat_tests)
context_of_form _ _ _ (stringed opening is) = grind (arith, nat_tests)
context_of_form _ _ _ _ = refl

pub same_context : (mode : Mode) (pending : List ℕ) (state : ParserState) → parser_view mode pending ≡ Some state
    → context_of mode pending ≡ context_in state
same_context mode pending state shown = context_of_form mode pending state (form mode pending state shown)

-- only nothing is on ground
pub ground_is_empty : GroundIsEmpty
unfolding context_of
ground_is_empty = (shows_none, none)
  where
    none : (mode : Mode) (pending : List ℕ) → parser_view mode pending ≡ Some Ground → pending ≡ []
    none mode [] shown = refl
    none Ansi (byte ∷ rest) shown = let at = same_context Ansi (byte ∷ rest) Ground shown in grind (arith, nat_tests)
    none Vt52 (byte ∷ rest) shown = let at = same_context Vt52 (byte ∷ rest) Ground shown in absurd cc

-- ---- the table

record Agrees (given mode : Mode) (pending : List ℕ) (byte : ℕ) (state : ParserState) (action : Action) : Type 0 where
  command : command_by action mode pending byte ≡ (stepped_by action state given byte).command
  view : parser_view (mode_after given mode byte) (pending_by action mode pending byte) ≡ Some (stepped_by action state given byte).state

shows_begun : (given : Mode) → parser_view given (escape ∷ []) ≡ Some (begun given)
unfolding parser_view
shows_begun Ansi = refl
shows_begun Vt52 = refl

module _ (given mode : Mode) (pending : List ℕ) (byte : ℕ) (state : ParserState) (shown : parser_view mode pending ≡ Some state) where
  by_action : (action : Action) → fits byte (context_in state) action ≡ true → Agrees given mode pending byte state action
  by_action Begin fits = record { command = refl; view = grind (arith, nat_tests, shows_begun given) }
  by_action Join fits =
      let parts = and_parts (is_graphic byte) _ fits in
      let graphic = parts.0 in
      let joins = joins_alike mode pending state (form mode pending state shown) byte graphic parts.1 in
      let whole = is_whole_push mode pending byte in
      let means = meaning_push mode pending byte in
      record {
        command = grind (arith, whole, means, joins.command);
        view = elim (cases_Bool (is_whole mode (pending ++ byte ∷ []))) [
          | inl is ↦ grind (arith, nat_tests, whole, joins.view, shows_none mode)
          | inr more ↦ grind (arith, nat_tests, whole, joins.view)
        ];
      }
  by_action End fits = record { command = refl; view = shows_none (mode_after given mode byte) }
  by_action Cancel fits = record { command = refl; view = shows_none (mode_after given mode byte) }
  by_action _ fits = record { command = refl; view = grind (arith, nat_tests, shown) }

  agree : Agrees given mode pending byte state (action_of (context_in state) byte)
  agree = by_action (action_of (context_in state) byte) (fit (context_in state) byte)

  -- the command of the raw bytes is that of the machine
  pub same_command : command_of mode pending byte ≡ (stepped state given byte).command
  unfolding command_of stepped
  same_command = ap (λ at. command_by (action_of at byte) mode pending byte) (same_context mode pending state shown) ∙ agree.command

  -- and the machine's new state shows what is pending then
  pub same_view : parser_view (mode_after given mode byte) (pending_after mode pending byte) ≡ Some (stepped state given byte).state
  unfolding pending_after stepped
  same_view =
      ap (λ at. parser_view (mode_after given mode byte) (pending_by (action_of at byte) mode pending byte))
      (same_context mode pending state shown) ∙ agree.view

-- ---- laws

pub state_decides : StateDecides
state_decides given m n p q state byte first second = (
  same_command given m p byte state first ∙ sym (same_command given n q byte state second),
  same_view given m p byte state first ∙ sym (same_view given n q byte state second),
)

pub stays_shown : StaysShown
stays_shown given m p state byte shown = ((stepped state given byte).state, same_view given m p byte state shown)
