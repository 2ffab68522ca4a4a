-- What is pending is left as it is seen.
use Rattle.std.proofs.Common.{◌≡◌, ◌≢◌, ℕ, ◌<◌, Bool, true, false, List, [], ◌∷◌, ◌++◌, length, refl, sym, ap, ap₂, ◌∙◌, arith}
use Rattle.std.specs.Prelude.{Option, Some, None, ◌==◌, ◌&&◌, ◌||◌, not}
use Rattle.std.specs.List.{list_all}
use Rattle.std.proofs.lemmas.Bool.{and_parts}
use Rattle.std.proofs.lemmas.Bool.Decides.{nat_tests}
use Rattle.std.proofs.lemmas.List.{append-nil}
use Rattle.characters.specs.declared.utf8.Reading.TheVariants.{More}
use Rattle.characters.specs.Utf8.{IsFront, begins, is_whole, may_follow, reading, row_of}
use Rattle.vt_parser.specs.declared.commands.Mode.{Mode}
use Rattle.vt_parser.specs.declared.commands.Mode.TheVariants.{Ansi}
use Rattle.vt_parser.specs.declared.commands.Command.{Command}
use Rattle.vt_parser.specs.declared.states.ParserState.{ParserState}
use Rattle.vt_parser.specs.Forms.{is_string_begun}
use Rattle.vt_parser.specs.Fold.{Waits, pending_after_bytes}
use Rattle.vt_parser.specs.Step.{command_of, pending_after}
use Rattle.vt_parser.specs.View.{parser_view}
use Rattle.parser_state.specs.PendingText.{pending_text}
use Rattle.parser_state.proofs.PendingLemmas.{is_mild, leaves_state, pending_mild, pending_waits}
use Rattle.xterm_term.specs.Console.{Console}
use Rattle.xterm_term.specs.Effect.{effect, reply}
use Rattle.xterm_term.specs.Replies.{reply_of}
use Rattle.xterm_term.specs.Rows.{effect_of}
use Rattle.xterm_term.specs.Term.{Term, Outcome, ends_last, forgotten_if, is_control, is_ground, play, step}
use Rattle.xterm_term.proofs.ByteKinds.{next}
use Rattle.xterm_term.proofs.Idle.{begun, halfway}
use Rattle.xterm_term.proofs.Runs.{on_ground, stepped}
use Rattle.xterm_term.proofs.Taken.{same_mode}
use Rattle.xterm_escaped.proofs.Led.{behind, low_byte, stepped_by}

-- ---- a sequence

off_ground : (sequence : List ℕ) → sequence ≢ [] → is_ground sequence ≡ false
off_ground [] off = absurd (off refl)
off_ground (byte ∷ rest) off = refl

mild_low : (byte : ℕ) → is_mild byte ≡ true → low_byte byte ≡ true
mild_low byte is = grind (arith, nat_tests)

mild_quiet : (byte : ℕ) → is_mild byte ≡ true → is_control byte ≡ false
mild_quiet byte is = grind (arith, nat_tests)

neither : (a b : Bool) → ((false && a) || (not b && false)) ≡ false
neither a true = refl
neither a false = refl

-- a byte behind which a sequence is pending
waits_step : (s : Console) (sequence reports : List ℕ) (byte : ℕ) → s.title ≡ false → is_mild byte ≡ true → command_of Ansi sequence byte ≡ None → pending_after Ansi sequence byte ≢ []
    → step (behind s sequence reports) byte ≡ behind s (pending_after Ansi sequence byte) reports
waits_step s sequence reports byte title mild none off =
    let after = pending_after Ansi sequence byte in
    let ends : ends_last sequence byte ≡ false =
    ap₂ (λ a b. (a && not (is_string_begun sequence)) || (not (is_ground sequence) && b)) (mild_quiet byte mild) (off_ground after off)
    ∙ neither (not (is_string_begun sequence)) (is_ground sequence) in
    stepped_by s sequence reports byte title (mild_low byte mild)
    ∙ ap₂ (λ (b : Bool) (c : Option Command). behind (forgotten_if b (effect_of effect c s)) after (reports ++ reply_of reply c s)) ends none
    ∙ ap (behind s after) (append-nil reports)

waits_play : (bytes : List ℕ) (s : Console) (sequence reports : List ℕ) → s.title ≡ false → Waits sequence bytes → list_all is_mild bytes ≡ true
    → play (behind s sequence reports) bytes ≡ behind s (pending_after_bytes Ansi Ansi sequence bytes) reports
unfolding play
waits_play [] s sequence reports title waits mild = refl
waits_play (byte ∷ bytes) s sequence reports title waits mild =
    let parts = and_parts (is_mild byte) (list_all is_mild bytes) mild in
    let after = pending_after Ansi sequence byte in
    ap (λ (x : Term). play x bytes) (waits_step s sequence reports byte title parts.0 waits.0 waits.1)
    ∙ waits_play bytes s after reports title waits.2 parts.1
    ∙ ap (λ (m : Mode). behind s (pending_after_bytes Ansi m after bytes) reports) (sym (same_mode byte))

pub record LeavesPending (s : Console) (state : ParserState) : Type 0 where
  pub pending : List ℕ
  pub played : (reports : List ℕ) → play (on_ground s reports) (pending_text state) ≡ behind s pending reports
  pub view : parser_view Ansi pending ≡ Some state

pub leaves_pending : (s : Console) (state : ParserState) (before : List ℕ) → s.title ≡ false → parser_view Ansi before ≡ Some state → LeavesPending s state
leaves_pending s state before title is = record {
  pending = pending_after_bytes Ansi Ansi [] (pending_text state);
  played = λ reports. waits_play (pending_text state) s [] reports title (pending_waits state before is) (pending_mild state before is);
  view = (leaves_state Ansi state before is).view;
}

-- ---- a character

goes_on : (pending : List ℕ) (byte : ℕ) → may_follow pending byte ≡ true → is_whole (pending ++ byte ∷ []) ≡ false → reading pending byte ≡ More
goes_on pending byte follows more = simp (follows, more)

one_more : (s : Console) (pending reports : List ℕ) (byte : ℕ) → 0 < length pending → reading pending byte ≡ More
    → step (halfway s pending reports) byte ≡ halfway s (pending ++ byte ∷ []) reports
one_more s pending reports byte some more =
    ap (λ (o : Outcome). stepped reports o) (sym (next s [] pending byte More some (sym more))) ∙ ap (halfway s (pending ++ byte ∷ [])) (append-nil reports)

apart : (m n : ℕ) → n < m → (m == n) ≡ false
apart m n less = grind (arith, nat_tests)

first_left : (s : Console) (byte : ℕ) (reports : List ℕ) → s.title ≡ false → begins byte ≡ true → step (on_ground s reports) byte ≡ halfway s (byte ∷ []) reports
first_left s byte reports title is = ap (λ (o : Outcome). stepped reports o) (begun s byte title is) ∙ ap (halfway s (byte ∷ [])) (append-nil reports)

pub front_left : (s : Console) (bytes reports : List ℕ) → s.title ≡ false → IsFront bytes → play (on_ground s reports) bytes ≡ halfway s bytes reports
unfolding play
front_left s [] reports title front = refl
front_left s (a ∷ []) reports title front = first_left s a reports title front
front_left s (a ∷ b ∷ []) reports title front =
    ap (λ (x : Term). step x b) (first_left s a reports title front.0)
    ∙ one_more s (a ∷ []) reports b (omega arith) (goes_on (a ∷ []) b front.1 (apart (row_of a).length 2 front.2))
front_left s (a ∷ b ∷ c ∷ []) reports title front =
    ap (λ (x : Term). step (step x b) c) (first_left s a reports title front.0)
    ∙ ap (λ (x : Term). step x c) (one_more s (a ∷ []) reports b (omega arith) (goes_on (a ∷ []) b front.1 (apart (row_of a).length 2 (omega (arith, front.3)))))
    ∙ one_more s (a ∷ b ∷ []) reports c (omega arith) (goes_on (a ∷ b ∷ []) c front.2 (apart (row_of a).length 3 front.3))
front_left s (a ∷ b ∷ c ∷ d ∷ rest) reports title front = absurd front
