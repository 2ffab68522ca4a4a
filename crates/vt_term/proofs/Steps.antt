-- What bytes leave of the terms that a terminal shows.
use Rattle.std.proofs.Common.{◌≡◌, ℕ, Bool, true, false, List, [], ◌∷◌, ◌++◌, refl, sym, ap, ap₂, subst, ◌∙◌, inl, inr, arith}
use Rattle.std.specs.Prelude.{Option, Some, None, IfSome}
use Rattle.std.proofs.lemmas.List.{append-nil, append_assoc}
use Rattle.std.proofs.lemmas.List.Sums.{fold-append}
use Rattle.std.proofs.lemmas.Bool.{cases_Bool}
use Rattle.std.proofs.lemmas.Bool.Decides.{nat_tests}
use Rattle.vt_parser.specs.declared.commands.Mode.{Mode}
use Rattle.vt_parser.specs.declared.commands.Mode.TheVariants.{Ansi, Vt52}
use Rattle.vt_parser.specs.declared.commands.Command.{Command}
use Rattle.vt_parser.specs.declared.commands.Command.TheVariants.{Show, Error, Control as ControlOf}
use Rattle.vt_parser.specs.declared.states.ParserState.{ParserState}
use Rattle.vt_parser.specs.View.{parser_view}
use Rattle.vt_parser.specs.Step.{command_of, pending_after, mode_after}
use Rattle.vt_parser.specs.Fold.{Gives, mode_after_bytes, pending_after_bytes}
use Rattle.vt_parser.specs.Law.{IsProper, is_sequence}
use Rattle.vt_term.specs.declared.sets.Slot.{Slot}
use Rattle.vt_term.specs.Rows.{named}
use Rattle.vt_term.specs.Console.{Console, IsSafe, effect_of}
use Rattle.vt_term.specs.Controls.{Control, So, Si, controls, control_effect, invoked}
use Rattle.vt_term.specs.Replies.{reply_of}
use Rattle.vt_term.specs.Effect.{effect, reply}
use Rattle.vt_term.specs.Term.{Term, mode_of, reply_to, step, play, sent}
use Rattle.vt_term.specs.Seen.{Seen, Shows}
use Rattle.vt_term.specs.Law.{PlaysInParts, SendsInParts, SeenDecides, StaysSafe}
use Rattle.vt_parser.proofs.Agrees.{ground_is_empty, state_decides, stays_shown}
use Rattle.vt_parser.proofs.LawLemmas.{commands_are_proper, finished_leaves_nothing}
use Rattle.vt_term.proofs.Safe.{safe_effect}

-- ---- the mode

-- characters and controls leave the mode
invoked_mode : (slot : Slot) (mode : Mode) (s : Console) → (invoked slot mode s).modes.mode ≡ s.modes.mode
invoked_mode slot Ansi s = refl
invoked_mode slot Vt52 s = refl

control_mode : (control : Option Control) (s : Console) → (effect_of control_effect control s).modes.mode ≡ s.modes.mode
control_mode (Some So) s = invoked_mode _ s.modes.mode s
control_mode (Some Si) s = invoked_mode _ s.modes.mode s
control_mode _ s = refl

pub effect_mode : (command : Command) (s : Console) → is_sequence command ≡ false → (effect command s).modes.mode ≡ s.modes.mode
unfolding effect
effect_mode (Show byte) s is = refl
effect_mode Error s is = refl
effect_mode (ControlOf byte) s is = control_mode (named controls byte) s
effect_mode _ s is = absurd cc

-- the mode that a terminal is in, given with each byte, stays
mode_after_same : (given mode : Mode) (byte : ℕ) → mode ≡ given → mode_after given mode byte ≡ given
mode_after_same given mode byte same = grind (arith, nat_tests)

pub mode_stays : (given mode : Mode) (bytes : List ℕ) → mode ≡ given → mode_after_bytes given mode bytes ≡ given
mode_stays given mode [] same = same
mode_stays given mode (byte ∷ rest) same = mode_stays given (mode_after given mode byte) rest (mode_after_same given mode byte same)

-- a terminal's mode is that of the terms that it shows
pub mode_shown : (seen : Seen) (x : Term) → Shows seen x → mode_of x ≡ seen.console.modes.mode
mode_shown seen x shows = ap (λ (s : Console). s.modes.mode) shows.console

-- ---- many bytes

pub plays_in_parts : PlaysInParts
unfolding play
plays_in_parts x first second = fold-append step x first second

pub sends_in_parts : SendsInParts
unfolding play sent
sends_in_parts x [] second = refl
sends_in_parts x (byte ∷ first) second =
    ap (λ (l : List ℕ). reply_to x byte ++ l) (sends_in_parts (step x byte) first second)
    ∙ sym (append_assoc (reply_to x byte) (sent (step x byte) first) (sent (play (step x byte) first) second))

-- what is sent is what playing appends to the reports
pub sent_is_appended : (x : Term) (bytes : List ℕ) → (play x bytes).reports ≡ x.reports ++ sent x bytes
unfolding play sent
sent_is_appended x [] = sym (append-nil x.reports)
sent_is_appended x (byte ∷ bytes) = sent_is_appended (step x byte) bytes ∙ append_assoc x.reports (reply_to x byte) (sent (step x byte) bytes)

-- a term by its parts
abbrev pub term : Console → List ℕ → List ℕ → Term
term s pending reports = record { console = s; pending = pending; reports = reports }

-- Bytes that give one command with their last, or none, play to its effect and to what is pending after them, and send its reply.
pub played : (given mode : Mode) (s : Console) (pending reports bytes : List ℕ) (command : Option Command)
    → s.modes.mode ≡ given → mode ≡ given → Gives given mode pending bytes command
    → (play (term s pending reports) bytes ≡ term (effect_of effect command s) (pending_after_bytes given mode pending bytes) (reports ++ reply_of reply command s))
    × (sent (term s pending reports) bytes ≡ reply_of reply command s)
unfolding play sent
played given mode s pending reports [] command shown same gives = (simp (gives, append-nil), simp gives)
played given mode s pending reports (byte ∷ []) command shown same gives =
    let now : s.modes.mode ≡ mode = shown ∙ sym same in
    (simp (now, gives), simp (now, gives, append-nil))
played given mode s pending reports (byte ∷ next ∷ rest) command shown same gives =
    let now : s.modes.mode ≡ mode = shown ∙ sym same in
    let none = gives.0 in
    let first : step (term s pending reports) byte ≡ term s (pending_after mode pending byte) reports = simp (now, none, append-nil) in
    let silent : reply_to (term s pending reports) byte ≡ [] = simp (now, none) in
    let others = played given (mode_after given mode byte) s (pending_after mode pending byte) reports (next ∷ rest) command shown (mode_after_same given mode byte same) gives.1 in
    (ap (λ (x : Term). play x (next ∷ rest)) first ∙ others.0, ap₂ (λ (l : List ℕ) (x : Term). l ++ sent x (next ∷ rest)) silent first ∙ others.1)

-- ---- what stands on the laws of the parser and of the screen

-- a finished sequence leaves nothing pending
leaves_nothing : (given mode : Mode) (pending bytes : List ℕ) (command : Command)
    → Gives given mode pending bytes (Some command) → is_sequence command ≡ true → pending_after_bytes given mode pending bytes ≡ []
leaves_nothing given mode pending [] command gives is = absurd cc
leaves_nothing given mode pending (byte ∷ []) command gives is = finished_leaves_nothing mode pending byte command gives is
leaves_nothing given mode pending (byte ∷ next ∷ rest) command gives is =
    leaves_nothing given (mode_after given mode byte) (pending_after mode pending byte) (next ∷ rest) command gives.1 is

-- after a command's effect what is pending shows what it showed before it
view_then : (given mode : Mode) (s : Console) (pending bytes : List ℕ) (command : Option Command) (state : ParserState)
    → s.modes.mode ≡ given → Gives given mode pending bytes command
    → parser_view given (pending_after_bytes given mode pending bytes) ≡ Some state
    → parser_view (effect_of effect command s).modes.mode (pending_after_bytes given mode pending bytes) ≡ Some state
view_then given mode s pending bytes None state same gives view =
    ap (λ (m : Mode). parser_view m (pending_after_bytes given mode pending bytes)) same ∙ view
view_then given mode s pending bytes (Some command) state same gives view = elim (cases_Bool (is_sequence command)) [
  | inl whole ↦
      let none = leaves_nothing given mode pending bytes command gives whole in
      let now = ground_is_empty.0 (effect command s).modes.mode in
      let before = ground_is_empty.0 given in
      simp (none, now) (sym before ∙ simp none at view)
  | inr other ↦ ap (λ (m : Mode). parser_view m (pending_after_bytes given mode pending bytes)) (effect_mode command s other ∙ same) ∙ view
]

-- bytes that come to one command, or to none
pub shows_given : (seen : Seen) (x : Term) (bytes : List ℕ) (command : Option Command) (state : ParserState) (touched : List Bool) → Shows seen x
    → Gives seen.console.modes.mode (mode_of x) x.pending bytes command
    → parser_view (mode_after_bytes seen.console.modes.mode (mode_of x) bytes)
    (pending_after_bytes seen.console.modes.mode (mode_of x) x.pending bytes)
    ≡ Some state
    → Shows (record { console = effect_of effect command seen.console; state = state; touched = touched }) (play x bytes) × (sent x bytes ≡ reply_of reply command seen.console)
shows_given seen x bytes command state touched shows gives view =
    let given = seen.console.modes.mode in
    let mode : mode_of x ≡ given = mode_shown seen x shows in
    let after = played given (mode_of x) x.console x.pending x.reports bytes command mode mode gives in
    let stays = mode_stays given (mode_of x) bytes mode in
    let pending = pending_after_bytes given (mode_of x) x.pending bytes in
    let there : Shows (record { console = effect_of effect command seen.console; state = state; touched = touched }) (term (effect_of effect command x.console) pending (x.reports ++ reply_of reply command x.console)) = record {
      console = ap (effect_of effect command) shows.console;
      state = view_then given (mode_of x) x.console x.pending bytes command state mode gives (ap (λ (m : Mode). parser_view m pending) (sym stays) ∙ view);
    } in
    (subst (Shows (record { console = effect_of effect command seen.console; state = state; touched = touched })) (sym after.0) there, after.1 ∙ ap (reply_of reply command) shows.console)

-- terms of which the same is seen
pub seen_decides : SeenDecides
unfolding play sent
seen_decides seen x y [] shows_x shows_y = ((seen, shows_x, shows_y), refl)
seen_decides seen x y (byte ∷ bytes) shows_x shows_y =
    let given = seen.console.modes.mode in
    let next = stays_shown given (mode_of x) x.pending seen.state byte shows_x.state in
    let same = state_decides given (mode_of y) (mode_of x) y.pending x.pending seen.state byte shows_y.state shows_x.state in
    let command = command_of (mode_of x) x.pending byte in
    let after_x = shows_given seen x (byte ∷ []) command next.0 seen.touched shows_x refl next.1 in
    let after_y = shows_given seen y (byte ∷ []) command next.0 seen.touched shows_y same.0 (same.1 ∙ next.1) in
    let rest = seen_decides (record { console = effect_of effect command seen.console; state = next.0; touched = seen.touched }) (step x byte) (step y byte) bytes after_x.0 after_y.0 in
    let answers : reply_to x byte ≡ reply_to y byte = sym (append-nil (reply_to x byte)) ∙ after_x.1 ∙ sym after_y.1 ∙ append-nil (reply_to y byte) in
    (rest.0, ap₂ (λ (l m : List ℕ). l ++ m) answers rest.1)

-- ---- every term from the reset term is safe

safe_if : (command : Option Command) (s : Console) → IfSome command IsProper → IsSafe s → IsSafe (effect_of effect command s)
safe_if None s proper safe = safe
safe_if (Some command) s proper safe = safe_effect command s proper safe

pub safe_step : (x : Term) (byte : ℕ) → IsSafe x.console → IsSafe (step x byte).console
safe_step x byte safe = safe_if (command_of (mode_of x) x.pending byte) x.console (commands_are_proper (mode_of x) x.pending byte) safe

pub safe_play : StaysSafe
unfolding play
safe_play x [] safe = safe
safe_play x (byte ∷ bytes) safe = safe_play (step x byte) bytes (safe_step x byte safe)
