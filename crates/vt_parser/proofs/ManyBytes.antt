-- The machine over many bytes, against the folds over raw bytes.
use Rattle.std.proofs.Common.{◌≡◌, ℕ, List, [], ◌∷◌, ◌++◌, Some, None, refl, sym, ap, ◌∙◌, subst}
use Rattle.vt_parser.specs.declared.commands.Mode.{Mode}
use Rattle.vt_parser.specs.declared.states.ParserState.{ParserState}
use Rattle.vt_parser.specs.View.{parser_view}
use Rattle.vt_parser.specs.Step.{pending_after, mode_after}
use Rattle.vt_parser.specs.Fold.{mode_after_bytes, pending_after_bytes, Gives}
use Rattle.vt_parser.specs.Machine.{Transition, moves_to, formless_at, stepped, Runs, Passes, Arrives}
use Rattle.vt_parser.proofs.Agrees.{same_command, same_view}

-- a byte that gives no command before others
pub runs_more : (state after : ParserState) (mode : Mode) (byte : ℕ) (rest : List ℕ) (step : Transition)
    → stepped state mode byte ≡ moves_to after → Runs after mode rest step → Runs state mode (byte ∷ rest) step
runs_more state after mode byte [] step taken runs = taken ∙ runs
runs_more state after mode byte (second ∷ rest) step taken runs =
    subst (λ (s : Transition). (s.command ≡ None) × Runs s.state mode (second ∷ rest) step) (sym taken) (refl, runs)

-- bytes that give no command, and one byte more
pub runs_push : (state : ParserState) (mode : Mode) (front : List ℕ) (after : ParserState) (byte : ℕ)
    → Runs state mode front (moves_to after) → Runs state mode (front ++ byte ∷ []) (stepped after mode byte)
runs_push state mode [] after byte runs = ap (λ (s : Transition). stepped s.state mode byte) runs
runs_push state mode (first ∷ []) after byte runs =
    (ap (λ (s : Transition). s.command) runs, ap (λ (s : Transition). stepped s.state mode byte) runs)
runs_push state mode (first ∷ second ∷ rest) after byte runs =
    (runs.0, runs_push (stepped state mode first).state mode (second ∷ rest) after byte runs.1)

-- ---- the same, where no byte but the first ends a sequence without a command

-- such a byte, before others that don't end one
pub arrives_more : (state after : ParserState) (mode : Mode) (byte : ℕ) (rest : List ℕ) (step : Transition)
    → ((next : ℕ) → formless_at after next ≡ None)
    → stepped state mode byte ≡ moves_to after → Arrives after mode rest step → Arrives state mode (byte ∷ rest) step
arrives_more state after mode byte [] step none taken arrives =
    record { runs = runs_more state after mode byte [] step taken arrives.runs; passes = tt }
arrives_more state after mode byte (second ∷ rest) step none taken arrives = record {
  runs = runs_more state after mode byte (second ∷ rest) step taken arrives.runs;
  passes = subst (λ (s : Transition). (formless_at s.state second ≡ None) × Passes s.state mode (second ∷ rest))
      (sym taken) (none second, arrives.passes);
}

passes_push : (state : ParserState) (mode : Mode) (front : List ℕ) (after : ParserState) (byte : ℕ)
    → formless_at after byte ≡ None → Runs state mode front (moves_to after) → Passes state mode front
    → Passes state mode (front ++ byte ∷ [])
passes_push state mode [] after byte none runs passes = tt
passes_push state mode (first ∷ []) after byte none runs passes =
    (ap (λ (s : Transition). formless_at s.state byte) runs ∙ none, tt)
passes_push state mode (first ∷ second ∷ rest) after byte none runs passes =
    (passes.0, passes_push (stepped state mode first).state mode (second ∷ rest) after byte none runs.1 passes.1)

pub arrives_push : (state : ParserState) (mode : Mode) (front : List ℕ) (after : ParserState) (byte : ℕ)
    → formless_at after byte ≡ None → Arrives state mode front (moves_to after)
    → Arrives state mode (front ++ byte ∷ []) (stepped after mode byte)
arrives_push state mode front after byte none arrives = record {
  runs = runs_push state mode front after byte arrives.runs;
  passes = passes_push state mode front after byte none arrives.runs arrives.passes;
}

-- ---- against the raw bytes

-- what the machine does is what the raw bytes of every sequence that its state stands for say
pub runs_agree : (given mode : Mode) (pending : List ℕ) (state : ParserState) (bytes : List ℕ) (step : Transition)
    → parser_view mode pending ≡ Some state → Runs state given bytes step
    → Gives given mode pending bytes step.command
    × (parser_view (mode_after_bytes given mode bytes) (pending_after_bytes given mode pending bytes) ≡ Some step.state)
runs_agree given mode pending state [] step view runs =
    (sym (ap (λ (s : Transition). s.command) runs), view ∙ ap (λ (s : Transition). Some s.state) runs)
runs_agree given mode pending state (byte ∷ []) step view runs = (
  same_command given mode pending byte state view ∙ ap (λ (s : Transition). s.command) runs,
  same_view given mode pending byte state view ∙ ap (λ (s : Transition). Some s.state) runs,
)
runs_agree given mode pending state (byte ∷ next ∷ rest) step view runs =
    let after = runs_agree given (mode_after given mode byte) (pending_after mode pending byte) (stepped state given byte).state (next ∷ rest) step
    (same_view given mode pending byte state view) runs.1 in
    ((same_command given mode pending byte state view ∙ runs.0, after.0), after.1)
