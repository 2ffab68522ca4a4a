-- What leaves a parser as it is seen.
use Rattle.std.proofs.Common.{◌≡◌, ℕ, List, [], append-nil, refl, ap, ◌∙◌}
use Rattle.std.specs.Prelude.{Some, None}
use Rattle.vt_parser.specs.declared.states.ParserState.{ParserState}
use Rattle.vt_parser.specs.Fold.{pending_after_bytes}
use Rattle.vt_parser.specs.View.{parser_view}
use Rattle.vt_term.specs.Console.{Console}
use Rattle.vt_term.specs.Printing.{on_ground}
use Rattle.vt_term.specs.Term.{Term, play, sent}
use Rattle.vt_term.proofs.Steps.{played}
use Rattle.parser_state.specs.PendingText.{pending_text}
use Rattle.parser_state.proofs.PendingLemmas.{leaves_state}

-- on ground, the text leaves something pending of which the state is seen, and does nothing else
pub record LeavesPending (s : Console) (state : ParserState) : Type 0 where
  pub pending : List ℕ
  pub played : (reports : List ℕ) → play (on_ground s reports) (pending_text state) ≡ record { console = s; pending = pending; reports = reports }
  pub silent : (reports : List ℕ) → sent (on_ground s reports) (pending_text state) ≡ []
  pub view : parser_view s.modes.mode pending ≡ Some state

pub leaves_pending : (s : Console) (state : ParserState) (before : List ℕ) → parser_view s.modes.mode before ≡ Some state → LeavesPending s state
leaves_pending s state before is =
    let mode = s.modes.mode in
    let bytes = pending_text state in
    let left = leaves_state mode state before is in
    let does = λ (reports : List ℕ). played mode mode s [] reports bytes None refl refl left.gives in
    let pending = pending_after_bytes mode mode [] bytes in
    record {
      pending = pending;
      played = λ reports. (does reports).0 ∙ ap (λ (l : List ℕ). let x : Term = record { console = s; pending = pending; reports = l } in x) (append-nil reports);
      silent = λ reports. (does reports).1;
      view = left.view;
    }
