-- From the machine's runs to what a token tells of every pending text.
use Rattle.std.proofs.Common.{◌≡◌, ℕ, ◌<◌, ◌≤◌, true, List, [], ◌∷◌, take, length, get_or, Option, Some, None, IfSome, refl, sym, ap, ◌∙◌, subst, arith}
use Rattle.std.specs.List.{list_all}
use Rattle.std.proofs.lemmas.Bool.{and_parts}
use Rattle.std.proofs.lemmas.Bool.Decides.{nat_tests}
use Rattle.vt_parser.specs.declared.commands.Mode.{Mode}
use Rattle.vt_parser.specs.declared.commands.Command.{Command}
use Rattle.vt_parser.specs.declared.commands.Command.TheVariants as commands
use Rattle.vt_parser.specs.declared.commands.Event.{Event}
use Rattle.vt_parser.specs.declared.commands.Event.TheVariants.{Error}
use Rattle.vt_parser.specs.declared.commands.Token.{Token}
use Rattle.vt_parser.specs.declared.commands.Token.TheVariants as tokens
use Rattle.vt_parser.specs.declared.states.ParserState.{ParserState}
use Rattle.vt_parser.specs.declared.states.ParserState.TheVariants.{Ground, Csi}
use Rattle.vt_parser.specs.Syntax.{is_graphic}
use Rattle.vt_parser.specs.View.{parser_view, IsShown}
use Rattle.vt_parser.specs.Step.{command_of, pending_after, mode_after}
use Rattle.vt_parser.specs.Fold.{mode_after_bytes, pending_after_bytes, Gives}
use Rattle.vt_parser.specs.Formless.{NoneEndsBehind}
use Rattle.vt_parser.specs.Law.{IsProper}
use Rattle.vt_parser.specs.Token.{command_of_token, TellsOf, Leads}
use Rattle.vt_parser.specs.Machine.{Transition, formless_at, joined, stepped, Runs, Passes}
use Rattle.vt_parser.proofs.Whole.{joins}
use Rattle.vt_parser.specs.Reading.{HasParams, event_command, command_told}
use Rattle.vt_parser.proofs.Shapes.{shows_none}
use Rattle.vt_parser.proofs.LawLemmas.{commands_are_proper, graphic_is_shown}
use Rattle.vt_parser.proofs.Agrees.{same_command, ground_is_empty}
use Rattle.vt_parser.proofs.Endings.{none_behind}
use Rattle.vt_parser.proofs.ManyBytes.{runs_agree}
use Rattle.vt_parser.proofs.Table.{graphic_on_ground}

-- ---- states

-- a state that shows a text has its parameters, as its command will
pub has_params : (state : ParserState) → IsShown state → HasParams state
unfolding joined
has_params (Csi private params over) shown =
    let told = same_command shown.0 shown.0 shown.1 64 (Csi private params over) shown.2
    ∙ ap (λ (s : Transition). s.command) (joins (Csi private params over) shown.0 64 refl refl) in
    let P : Option Command → Type 0 = λ command. IfSome command IsProper in
    (subst P told (commands_are_proper shown.0 shown.1 64)).0
has_params state shown = tt

pub shown_after : (state : ParserState) (given : Mode) (bytes : List ℕ) (step : Transition) → IsShown state
    → Runs state given bytes step → IsShown step.state
shown_after state given bytes step shown runs = (
  mode_after_bytes given shown.0 bytes,
  pending_after_bytes given shown.0 shown.1 bytes,
  (runs_agree given shown.0 shown.1 state bytes step shown.2 runs).1,
)

pub leads : (state : ParserState) (given : Mode) (bytes : List ℕ) (step : Transition) → Runs state given bytes step
    → Leads state given bytes step.state
leads state given bytes step runs = λ mode pending view. (runs_agree given mode pending state bytes step view runs).1

-- ---- runs on ground

ground_stays : (given : Mode) (byte : ℕ) → is_graphic byte ≡ true → (stepped Ground given byte).state ≡ Ground
unfolding stepped
ground_stays given byte is = let kind = graphic_on_ground byte is in simp kind

none_stays : (given mode : Mode) (bytes : List ℕ) → list_all is_graphic bytes ≡ true → pending_after_bytes given mode [] bytes ≡ []
none_stays given mode [] graphic = refl
none_stays given mode (byte ∷ rest) graphic =
    let parts = and_parts (is_graphic byte) (list_all is_graphic rest) graphic in
    ap (λ (p : List ℕ). pending_after_bytes given (mode_after given mode byte) p rest) (graphic_is_shown mode byte parts.0).1
    ∙ none_stays given (mode_after given mode byte) rest parts.1

pub run_leads : (given : Mode) (bytes : List ℕ) → list_all is_graphic bytes ≡ true → Leads Ground given bytes Ground
run_leads given bytes graphic = λ mode pending view.
    let there = mode_after_bytes given mode bytes in
    ap (λ (p : List ℕ). parser_view there (pending_after_bytes given mode p bytes)) (ground_is_empty.1 mode pending view)
    ∙ ap (parser_view there) (none_stays given mode bytes graphic) ∙ shows_none there

ground_passes : (given : Mode) (bytes : List ℕ) → list_all is_graphic bytes ≡ true → Passes Ground given bytes
ground_passes given [] graphic = tt
ground_passes given (byte ∷ []) graphic = tt
ground_passes given (byte ∷ next ∷ rest) graphic =
    let parts = and_parts (is_graphic byte) (list_all is_graphic (next ∷ rest)) graphic in
    subst (λ (state : ParserState). (formless_at state next ≡ None) × Passes state given (next ∷ rest))
    (sym (ground_stays given byte parts.0)) (refl, ground_passes given (next ∷ rest) parts.1)

pub run_passes : (given mode : Mode) (pending bytes : List ℕ) → list_all is_graphic bytes ≡ true → pending ≡ []
    → NoneEndsBehind given mode pending bytes
run_passes given mode pending bytes graphic none =
    subst (λ (p : List ℕ). NoneEndsBehind given mode p bytes) (sym none)
    (none_behind given mode [] Ground bytes (shows_none mode) (ground_passes given bytes graphic))

-- ---- tokens

gives_proper : (given mode : Mode) (pending bytes : List ℕ) (command : Option Command)
    → Gives given mode pending bytes command → IfSome command IsProper
gives_proper given mode pending [] command gives = let P : Option Command → Type 0 = λ c. IfSome c IsProper in subst P (sym gives) tt
gives_proper given mode pending (byte ∷ []) command gives =
    let P : Option Command → Type 0 = λ c. IfSome c IsProper in subst P gives (commands_are_proper mode pending byte)
gives_proper given mode pending (byte ∷ second ∷ rest) command gives =
    gives_proper given (mode_after given mode byte) (pending_after mode pending byte) (second ∷ rest) command gives.1

pub run_proper : (bytes : List ℕ) → 0 < length bytes → list_all is_graphic bytes ≡ true → IsProper (commands.Show (get_or bytes 0 0))
run_proper [] some graphic = absurd (omega arith)
run_proper (byte ∷ rest) some graphic = (grind (arith, nat_tests), grind (arith, nat_tests))

pub told_proper : (given mode : Mode) (pending bytes : List ℕ) (token : Option Token) → 0 < length bytes → TellsOf given mode pending bytes token
    → IfSome token (λ it. IsProper (command_of_token it))
told_proper given mode pending bytes None some tells = tt
told_proper given mode pending bytes (Some (tokens.Show run)) some tells =
    let P : List ℕ → Type 0 = λ shown. IsProper (commands.Show (get_or shown 0 0)) in
    subst P (sym tells.whole) (run_proper bytes some tells.graphic)
told_proper given mode pending bytes (Some token) some tells = gives_proper given mode pending bytes (Some (command_of_token token)) tells

-- no event is a run
no_run : (event : Event) (params : List ℕ) (byte : ℕ) → event_command (Some event) params ≡ Some (commands.Show byte) → ⊥
no_run Error params byte is = cc
no_run _ params byte is = cc

event_told : (given mode : Mode) (pending bytes : List ℕ) (event : Event) (params : List ℕ) (token : Token)
    → event_command (Some event) params ≡ Some (command_of_token token)
    → Gives given mode pending bytes (event_command (Some event) params) → TellsOf given mode pending bytes (Some token)
event_told given mode pending bytes event params (tokens.Show run) is gives = absurd (no_run event params _ is)
event_told given mode pending bytes event params token is gives = subst (Gives given mode pending bytes) is gives

no_command : (command : Command) → None ≡ Some command → ⊥
no_command command is = cc

-- the same where there may be neither
pub lent_told : (given mode : Mode) (pending bytes : List ℕ) (event : Option Event) (params : List ℕ) (token : Option Token)
    → event_command event params ≡ command_told token → Gives given mode pending bytes (event_command event params)
    → TellsOf given mode pending bytes token
lent_told given mode pending bytes event params None is gives = subst (Gives given mode pending bytes) is gives
lent_told given mode pending bytes (Some event) params (Some token) is gives =
    event_told given mode pending bytes event params token is gives
lent_told given mode pending bytes None params (Some token) is gives = absurd (no_command (command_of_token token) is)

-- ---- one byte

byte_told : (given mode : Mode) (pending : List ℕ) (byte : ℕ) (token : Option Token)
    → TellsOf given mode pending (byte ∷ []) token → command_of mode pending byte ≡ command_told token
byte_told given mode pending byte (Some (tokens.Show run)) told =
    ap (λ (p : List ℕ). command_of mode p byte) told.ground
    ∙ (graphic_is_shown mode byte (and_parts (is_graphic byte) true told.graphic).0).0
    ∙ ap (λ (bytes : List ℕ). Some (commands.Show (get_or bytes 0 0))) (sym told.whole)
byte_told given mode pending byte _ told = told

-- all of one byte is taken
pub step_told : (given mode : Mode) (pending : List ℕ) (byte n : ℕ) (token : Option Token) → 0 < n → n ≤ 1
    → TellsOf given mode pending (take n (byte ∷ [])) token → command_of mode pending byte ≡ command_told token
step_told given mode pending byte n token some within told =
    let one : n ≡ 1 = omega arith in
    byte_told given mode pending byte token (subst (λ (k : ℕ). TellsOf given mode pending (take k (byte ∷ [])) token) one told)
