-- What a terminal shows after bytes that the parser takes at once.
use Rattle.std.proofs.Common.{◌≡◌, ℕ, zero, suc, ◌+◌, ◌-◌, ◌≤◌, ◌<◌, take, drop, get_or, Bool, true, false, not, List, [], ◌∷◌, ◌++◌, length, refl, sym, ap, ap₂, subst, ◌∙◌, ◌==◌, ◌&&◌, nat_le, arith, inl, inr}
use Rattle.std.specs.Prelude.{Option, Some, None}
use Rattle.std.specs.List.{list_all, prefix_len}
use Rattle.std.proofs.Math.Seq.{take-length}
use Rattle.std.proofs.lemmas.Bool.{and_parts, cases_Bool, false≢true}
use Rattle.std.proofs.lemmas.Bool.Decides.{nat_tests}
use Rattle.std.proofs.lemmas.List.{append-nil, length-take, take-take}
use Rattle.vt_parser.specs.declared.commands.Mode.{Mode}
use Rattle.vt_parser.specs.declared.commands.Mode.TheVariants.{Ansi}
use Rattle.vt_parser.specs.declared.commands.Command.{Command}
use Rattle.vt_parser.specs.declared.commands.Command.TheVariants.{Show}
use Rattle.vt_parser.specs.declared.commands.Token.{Token}
use Rattle.vt_parser.specs.declared.commands.Token.TheVariants as lent
use Rattle.vt_parser.specs.declared.states.ParserState.{ParserState}
use Rattle.vt_parser.specs.Syntax.{escape, is_graphic, action_of}
use Rattle.vt_parser.specs.declared.syntax.Context.{Context}
use Rattle.vt_parser.specs.declared.syntax.Context.TheVariants.{Ground, Sequence, Text}
use Rattle.vt_parser.specs.declared.syntax.Action.{Action}
use Rattle.vt_parser.specs.declared.syntax.Action.TheVariants.{Begin}
use Rattle.vt_parser.specs.Step.{command_of, command_by, pending_after, pending_by, mode_after, context_of}
use Rattle.vt_parser.specs.Fold.{mode_after_bytes, pending_after_bytes, Gives}
use Rattle.vt_parser.specs.Token.{command_of_token, IsRun, TellsOf, Leads}
use Rattle.vt_parser.specs.View.{parser_view}
use Rattle.xterm_term.specs.Rows.{effect_of}
use Rattle.xterm_term.specs.Console.{Console, IsSafe}
use Rattle.xterm_term.specs.Replies.{reply_of}
use Rattle.xterm_term.specs.Effect.{effect, reply, token_effect, token_reply}
use Rattle.xterm_term.specs.Term.{Term, Outcome, outcome_of, syntax_read, is_ground, is_control, ends_last, forgotten_if, step, reply_to, play, sent}
use Rattle.xterm_term.specs.Seen.{Seen, Shows, IsTerminal}
use Rattle.xterm_term.specs.SameSize.{SameSize}
use Rattle.xterm_term.specs.Reading.{Stands, GoesOn, is_ground_state}
use Rattle.xterm_term.specs.Law.{LawsBelow}
use Rattle.xterm_term.proofs.ByteKinds.{first, other}
use Rattle.xterm_term.proofs.Parts.{ground_shown, either_mode}
use Rattle.xterm_term.proofs.Runs.{all_in_parts, stepped, run_graphic}
use Rattle.xterm_term.proofs.Stays.{safe_play, size_stays}
use Rattle.xterm_term.proofs.Told.{seen, shows_origins}

-- ---- bytes that go on

both_true : {a b : Bool} → a ≡ true → b ≡ true → (a && b) ≡ true
both_true first second = simp (first, second)

goes_by : (state : ParserState) (bytes : List ℕ) → 0 < length bytes → list_all is_graphic bytes ≡ true → is_ground_state state ≡ false → GoesOn state bytes
goes_by state [] some graphic inside = absurd (omega arith)
goes_by state (byte ∷ rest) some graphic inside =
    let parts = and_parts (is_graphic byte) (list_all is_graphic rest) graphic in (parts.1, inr (parts.0, inside))

pub goes_by_text : (state : ParserState) (bytes : List ℕ) (n : ℕ) → n ≡ prefix_len is_graphic bytes → n ≤ length bytes → is_ground_state state ≡ false
    → 0 < n → GoesOn state (take n bytes)
goes_by_text state bytes n same within inside some =
    let len = length-take n bytes in
    goes_by state (take n bytes) (omega arith) (run_graphic bytes n same) inside

pub goes_by_escape : (state : ParserState) (bytes : List ℕ) (n : ℕ) → 0 < length bytes → get_or bytes 0 0 ≡ escape
    → n ≡ prefix_len is_graphic (take (length bytes - 1) (drop 1 bytes)) → GoesOn state (take (1 + n) bytes)
goes_by_escape state [] n some is same = absurd (omega arith)
goes_by_escape state (byte ∷ rest) n some is same =
    let one_more : 1 + n ≡ suc n = omega arith in
    let one_less : length (byte ∷ rest) - 1 ≡ length rest = omega arith in
    let whole : take (length (byte ∷ rest) - 1) rest ≡ rest = ap (λ (k : ℕ). take k rest) one_less ∙ take-length rest in
    subst (λ (k : ℕ). GoesOn state (take k (byte ∷ rest))) (sym one_more)
    (run_graphic rest n (same ∙ ap (prefix_len is_graphic) whole), inl is)

-- a front of them goes on too
pub goes_front : (state : ParserState) (bytes : List ℕ) (n : ℕ) → 0 < n → GoesOn state bytes → GoesOn state (take n bytes)
goes_front state bytes zero some goes = absurd (omega arith)
goes_front state [] (suc n) some goes = goes
goes_front state (byte ∷ rest) (suc n) some goes = ((all_in_parts is_graphic rest n goes.0).0, goes.1)

-- ---- by a place

pub nothing_played : (x : Term) (bytes : List ℕ) (n : ℕ) → n ≡ 0 → play x (take n bytes) ≡ x
unfolding play
nothing_played x bytes n none = ap (λ (k : ℕ). play x (take k bytes)) none

pub front_within : (bytes : List ℕ) (n m : ℕ) → n ≤ length (take m bytes) → take n (take m bytes) ≡ take n bytes
front_within bytes n m within = let len = length-take m bytes in take-take n m bytes (omega arith)

-- a term with no character pending
abbrev pub behind : Console → List ℕ → List ℕ → Term
behind s sequence reports = record { console = s; sequence = sequence; character = []; reports = reports }

-- what a command leaves, where what was pending may have ended
abbrev left_by : Option Command → Console → List ℕ → Console
left_by command s sequence = forgotten_if (is_ground sequence) (effect_of effect command s)

-- ---- one byte

no_control : (byte : ℕ) → is_graphic byte ≡ true → is_control byte ≡ false
no_control byte is = grind (arith, nat_tests)

pub no_upper : (sequence : List ℕ) (byte : ℕ) → is_ground sequence ≡ false → (is_ground sequence && nat_le 128 byte) ≡ false
no_upper sequence byte pending = simp pending

pub read_here : (s : Console) (sequence : List ℕ) (byte : ℕ) → s.title ≡ false → (is_ground sequence && nat_le 128 byte) ≡ false
    → outcome_of s sequence [] byte ≡ syntax_read s sequence byte
read_here s sequence byte title low = sym (other s sequence byte title low ∙ first s sequence [] byte refl)

pub ends_here : (sequence : List ℕ) (byte : ℕ) → is_ground sequence ≡ false → is_graphic byte ≡ true
    → ends_last sequence byte ≡ is_ground (pending_after Ansi sequence byte)
ends_here sequence byte pending graphic = let control = no_control byte graphic in simp (control, pending)

-- a graphic character behind what is pending
record Stepped (s : Console) (sequence reports : List ℕ) (byte : ℕ) (t : Console) (after reply_bytes : List ℕ) : Type 0 where
  to : step (behind s sequence reports) byte ≡ behind t after (reports ++ reply_bytes)
  sends : reply_to (behind s sequence reports) byte ≡ reply_bytes

joined : (s : Console) (sequence reports : List ℕ) (byte : ℕ) → s.title ≡ false → is_ground sequence ≡ false → is_graphic byte ≡ true
    → Stepped s sequence reports byte (left_by (command_of Ansi sequence byte) s (pending_after Ansi sequence byte)) (pending_after Ansi sequence byte)
    (reply_of reply (command_of Ansi sequence byte) s)
joined s sequence reports byte title pending graphic =
    let read = read_here s sequence byte title (no_upper sequence byte pending) in
    let ends = ap (λ (b : Bool). behind (forgotten_if b (effect_of effect (command_of Ansi sequence byte) s)) (pending_after Ansi sequence byte)
    (reports ++ reply_of reply (command_of Ansi sequence byte) s)) (ends_here sequence byte pending graphic) in
    record {
      to = ap (λ (o : Outcome). stepped reports o) read ∙ ends;
      sends = ap (λ (o : Outcome). o.reply) read;
    }

-- ESC begins a sequence, wherever it comes
begins_in : (context : Context) → action_of context escape ≡ Begin
begins_in Ground = refl
begins_in Sequence = refl
begins_in Text = refl

pub begins_sequence : (sequence : List ℕ) → (command_of Ansi sequence escape ≡ None) × (pending_after Ansi sequence escape ≡ escape ∷ [])
unfolding command_of pending_after
begins_sequence sequence =
    let begin = begins_in (context_of Ansi sequence) in (
      ap (λ (a : Action). command_by a Ansi sequence escape) begin,
      ap (λ (a : Action). pending_by a Ansi sequence escape) begin,
    )

neither : (b : Bool) → (not b && false) ≡ false
neither true = refl
neither false = refl

low_escape : (b : Bool) → (b && nat_le 128 escape) ≡ false
low_escape true = refl
low_escape false = refl

pub begun : (s : Console) (sequence reports : List ℕ) → s.title ≡ false
    → (step (behind s sequence reports) escape ≡ behind s (escape ∷ []) reports) × (reply_to (behind s sequence reports) escape ≡ [])
begun s sequence reports title =
    let read = read_here s sequence escape title (low_escape (is_ground sequence)) in
    let gives = begins_sequence sequence in
    let ends : ends_last sequence escape ≡ false
    = ap (λ (l : List ℕ). not (is_ground sequence) && is_ground l) gives.1 ∙ neither (is_ground sequence) in (
      ap (λ (o : Outcome). stepped reports o) read
          ∙ ap (λ (b : Bool). behind (forgotten_if b (effect_of effect (command_of Ansi sequence escape) s)) (pending_after Ansi sequence escape)
          (reports ++ reply_of reply (command_of Ansi sequence escape) s)) ends
          ∙ ap₂ (λ (c : Option Command) (l : List ℕ). behind (effect_of effect c s) l (reports ++ reply_of reply c s)) gives.0 gives.1
          ∙ ap (behind s (escape ∷ [])) (append-nil reports),
      ap (λ (o : Outcome). o.reply) read ∙ ap (λ (c : Option Command). reply_of reply c s) gives.0,
    )

-- ---- many

-- it isn't a character's
abbrev pub IsNoShow : Option Command → Type 0
IsNoShow (Some (Show byte)) = ⊥
IsNoShow _ = Unit {0}

-- what the bytes play to and send
record Played (s : Console) (sequence reports bytes : List ℕ) (command : Option Command) : Type 0 where
  to : play (behind s sequence reports) bytes
      ≡ behind (left_by command s (pending_after_bytes Ansi Ansi sequence bytes)) (pending_after_bytes Ansi Ansi sequence bytes)
      (reports ++ reply_of reply command s)
  sends : sent (behind s sequence reports) bytes ≡ reply_of reply command s

pub same_mode : (byte : ℕ) → mode_after Ansi Ansi byte ≡ Ansi
same_mode byte = either_mode (byte == escape)

pub many_modes : (bytes : List ℕ) → mode_after_bytes Ansi Ansi bytes ≡ Ansi
many_modes [] = refl
many_modes (byte ∷ rest) = ap (λ (m : Mode). mode_after_bytes Ansi m rest) (same_mode byte) ∙ many_modes rest

pub pending_on : (sequence rest : List ℕ) (byte : ℕ)
    → pending_after_bytes Ansi Ansi sequence (byte ∷ rest) ≡ pending_after_bytes Ansi Ansi (pending_after Ansi sequence byte) rest
pending_on sequence rest byte = ap (λ (m : Mode). pending_after_bytes Ansi m (pending_after Ansi sequence byte) rest) (same_mode byte)

pub gives_on : (sequence rest : List ℕ) (byte : ℕ) (command : Option Command) → Gives Ansi (mode_after Ansi Ansi byte) (pending_after Ansi sequence byte) rest command
    → Gives Ansi Ansi (pending_after Ansi sequence byte) rest command
gives_on sequence rest byte command gives =
    subst (λ (m : Mode). Gives Ansi m (pending_after Ansi sequence byte) rest command) (same_mode byte) gives

module _ (laws : LawsBelow) where
  -- on ground a graphic character would be shown
  pub none_shown : (sequence rest : List ℕ) (byte : ℕ) (command : Option Command) → is_ground sequence ≡ true → is_graphic byte ≡ true
      → Gives Ansi Ansi sequence (byte ∷ rest) command → IsNoShow command → ⊥
  none_shown [] [] byte command ground graphic gives none =
      subst IsNoShow (sym gives ∙ (laws.graphic_is_shown Ansi byte graphic).0) none
  none_shown [] (next ∷ rest) byte command ground graphic gives none =
      let shown = (laws.graphic_is_shown Ansi byte graphic).0 in let silent = gives.0 in absurd cc
  none_shown (b ∷ sequence) rest byte command ground graphic gives none = absurd cc

  -- a byte that gives nothing, and bytes behind it
  follow : (more : List ℕ) (s : Console) (sequence reports : List ℕ) (byte : ℕ) (command : Option Command)
      → step (behind s sequence reports) byte ≡ behind s (pending_after Ansi sequence byte) reports
      → reply_to (behind s sequence reports) byte ≡ [] → Played s (pending_after Ansi sequence byte) reports more command
      → Played s sequence reports (byte ∷ more) command
  unfolding play sent
  follow more s sequence reports byte command moved silent later = record {
    to = ap (λ (y : Term). play y more) moved ∙ later.to
        ∙ ap (λ (l : List ℕ). behind (left_by command s l) l (reports ++ reply_of reply command s)) (sym (pending_on sequence more byte));
    sends = ap₂ (λ (l : List ℕ) (y : Term). l ++ sent y more) silent moved ∙ later.sends;
  }

  many : (bytes : List ℕ) (s : Console) (sequence reports : List ℕ) (command : Option Command) → s.title ≡ false → is_ground sequence ≡ false
      → list_all is_graphic bytes ≡ true → Gives Ansi Ansi sequence bytes command → IsNoShow command → Played s sequence reports bytes command
  unfolding play sent
  many [] s sequence reports command title pending graphic gives none =
      subst (λ (c : Option Command). Played s sequence reports [] c) (sym gives)
      (record {
        to = ap₂ (λ (b : Bool) (l : List ℕ). behind (forgotten_if b s) sequence l) (sym pending) (sym (append-nil reports));
        sends = refl;
      })
  many (byte ∷ []) s sequence reports command title pending graphic gives none =
      let parts = and_parts (is_graphic byte) true graphic in
      let here = joined s sequence reports byte title pending parts.0 in
      subst (λ (c : Option Command). Played s sequence reports (byte ∷ []) c) gives
      (record { to = here.to; sends = append-nil _ ∙ here.sends })
  many (byte ∷ next ∷ rest) s sequence reports command title pending graphic gives none =
      let parts = and_parts (is_graphic byte) (list_all is_graphic (next ∷ rest)) graphic in
      let after = pending_after Ansi sequence byte in
      let more = gives_on sequence (next ∷ rest) byte command gives.1 in
      let here = joined s sequence reports byte title pending parts.0 in
      elim (cases_Bool (is_ground after)) [
        | inl ended ↦ absurd (none_shown after rest next command ended (and_parts (is_graphic next) (list_all is_graphic rest) parts.1).0 more none)
        | inr goes ↦ follow (next ∷ rest) s sequence reports byte command
            (here.to
            ∙ ap₂ (λ (c : Option Command) (b : Bool). behind (forgotten_if b (effect_of effect c s)) after (reports ++ reply_of reply c s)) gives.0 goes
            ∙ ap (behind s after) (append-nil reports))
            (here.sends ∙ ap (λ (c : Option Command). reply_of reply c s) gives.0)
            (many (next ∷ rest) s after reports command title goes parts.1 more none)
      ]

  -- ESC first
  opened : (more : List ℕ) (s : Console) (sequence reports : List ℕ) (command : Option Command) → s.title ≡ false → list_all is_graphic more ≡ true
      → Gives Ansi Ansi sequence (escape ∷ more) command → IsNoShow command → Played s sequence reports (escape ∷ more) command
  unfolding play sent
  opened [] s sequence reports command title graphic gives none =
      let here = begun s sequence reports title in
      subst (λ (c : Option Command). Played s sequence reports (escape ∷ []) c) (sym (begins_sequence sequence).0 ∙ gives)
      (record {
        to = here.0 ∙ ap₂ (λ (p l : List ℕ). behind (left_by None s p) p l) (sym (begins_sequence sequence).1) (sym (append-nil reports));
        sends = append-nil _ ∙ here.1;
      })
  opened (next ∷ rest) s sequence reports command title graphic gives none =
      let here = begun s sequence reports title in
      let pending = (begins_sequence sequence).1 in
      follow (next ∷ rest) s sequence reports escape command (here.0 ∙ ap (λ (p : List ℕ). behind s p reports) (sym pending)) here.1
      (many (next ∷ rest) s (pending_after Ansi sequence escape) reports command title (ap is_ground pending) graphic
      (gives_on sequence (next ∷ rest) escape command gives.1) none)

  all_played : (bytes : List ℕ) (s : Console) (sequence reports : List ℕ) (command : Option Command) (state : ParserState) → s.title ≡ false
      → Stands sequence state → GoesOn state bytes → Gives Ansi Ansi sequence bytes command → IsNoShow command → Played s sequence reports bytes command
  all_played [] s sequence reports command state title stands goes gives none = absurd goes
  all_played (byte ∷ rest) s sequence reports command state title stands goes gives none =
      elim goes.1 [
        | inl same ↦ subst (λ (b : ℕ). Gives Ansi Ansi sequence (b ∷ rest) command → Played s sequence reports (b ∷ rest) command) (sym same)
            (λ given. opened rest s sequence reports command title goes.0 given none) gives
        | inr inside ↦ many (byte ∷ rest) s sequence reports command title (sym (ground_shown sequence state stands) ∙ inside.1)
            (both_true inside.0 goes.0) gives none
      ]

  -- ---- tokens

  -- ground can't go on by graphic characters
  pub no_run : (sequence bytes run : List ℕ) (state : ParserState) → Stands sequence state → GoesOn state bytes → IsRun sequence bytes run → ⊥
  no_run sequence [] run state stands goes is = goes
  no_run sequence (byte ∷ rest) run state stands goes is =
      let graphic = (and_parts (is_graphic byte) (list_all is_graphic rest) is.graphic).0 in
      elim goes.1 [
        | inl same ↦ false≢true (ap is_graphic (sym same) ∙ graphic)
        | inr inside ↦ false≢true (sym inside.1 ∙ ground_shown sequence state stands ∙ ap is_ground is.ground)
      ]

  -- what a terminal shows once the bytes of a token were played
  record Shown (s : Console) (x : Term) (bytes : List ℕ) (command : Option Command) (t : Console) (state : ParserState) : Type 0 where
    shows : Shows (seen [] t state []) (play x bytes)
    sends : sent x bytes ≡ reply_of reply command s

  shown : (s : Console) (x : Term) (bytes : List ℕ) (command : Option Command) (before state : ParserState) (t : Console)
      → Shows (seen [] s before []) x → s.title ≡ false → GoesOn before bytes → Gives Ansi Ansi x.sequence bytes command → IsNoShow command
      → Leads before Ansi bytes state → t ≡ forgotten_if (is_ground_state state) (effect_of effect command s)
      → Shown s x bytes command t state
  shown s x bytes command before state t shows title goes gives none leads told =
      let after = pending_after_bytes Ansi Ansi x.sequence bytes in
      let here : x ≡ behind s x.sequence x.reports
      = ap₂ (λ (u : Console) (c : List ℕ). record { console = u; sequence = x.sequence; character = c; reports = x.reports }) shows.console shows.character in
      let played = all_played bytes s x.sequence x.reports command before title shows.state goes gives none in
      let stands : Stands after state = ap (λ (m : Mode). parser_view m after) (sym (many_modes bytes)) ∙ leads Ansi x.sequence shows.state in
      let left : left_by command s after ≡ t
      = ap (λ (b : Bool). forgotten_if b (effect_of effect command s)) (sym (ground_shown after state stands)) ∙ sym told in
      record {
        shows = subst (Shows (seen [] t state [])) (sym (ap (λ (y : Term). play y bytes) here ∙ played.to)) (record { console = left; state = stands; character = refl });
        sends = ap (λ (y : Term). sent y bytes) here ∙ played.sends;
      }

  told : (s : Console) (x : Term) (bytes : List ℕ) (token : Option Token) (before state : ParserState) (t : Console)
      → Shows (seen [] s before []) x → s.title ≡ false → GoesOn before bytes → TellsOf Ansi Ansi x.sequence bytes token
      → Leads before Ansi bytes state → t ≡ forgotten_if (is_ground_state state) (effect_of token_effect token s)
      → Shows (seen [] t state []) (play x bytes) × (sent x bytes ≡ reply_of token_reply token s)
  told s x bytes None before state t shows title goes tells leads is =
      let done = shown s x bytes None before state t shows title goes tells tt leads is in (done.shows, done.sends)
  told s x bytes (Some (lent.Show run)) before state t shows title goes tells leads is =
      absurd (no_run x.sequence bytes run.now before shows.state goes tells)
  told s x bytes (Some token) before state t shows title goes tells leads is =
      let done = shown s x bytes (Some (command_of_token token)) before state t shows title goes tells tt leads is in (done.shows, done.sends)

  -- from what the parser says of any pending text
  pub shows_next : {origins : List ℕ} (before now_ : Seen) (x : Term) (bytes : List ℕ) (token : Option Token) (state : ParserState) (t : Console)
      → before ≡ now_ → Shows now_ x → now_.console.title ≡ false → now_.character ≡ [] → GoesOn now_.state bytes
      → ((mode : Mode) (pending : List ℕ) → parser_view mode pending ≡ Some before.state → TellsOf Ansi mode pending bytes token)
      → Leads before.state Ansi bytes state → t ≡ forgotten_if (is_ground_state state) (effect_of token_effect token before.console)
      → Shows (seen origins t state before.character) (play x bytes) × (sent x bytes ≡ reply_of token_reply token before.console)
  shows_next before now_ x bytes token state t same shows title character goes tells leads is =
      let none : before.character ≡ [] = ap (λ (it : Seen). it.character) same ∙ character in
      let inside : Shows before x = subst (λ (it : Seen). Shows it x) (sym same) shows in
      let done = told before.console x bytes token before.state state t
      (subst (λ (l : List ℕ). Shows (seen [] before.console before.state l) x) none (shows_origins [] before x inside))
      (ap (λ (it : Seen). it.console.title) same ∙ title)
      (subst (λ (it : Seen). GoesOn it.state bytes) (sym same) goes) (tells Ansi x.sequence inside.state) leads is in
      (shows_origins _ _ (play x bytes) (subst (λ (l : List ℕ). Shows (seen [] t state l) (play x bytes)) (sym none) done.0), done.1)

  -- the terminal stays one
  pub next_terminal : {origins : List ℕ} (before now_ : Seen) (bytes : List ℕ) (token : Option Token) (state : ParserState) (t : Console)
      → before ≡ now_ → IsTerminal before → now_.console.title ≡ false → now_.character ≡ [] → GoesOn now_.state bytes
      → ((mode : Mode) (pending : List ℕ) → parser_view mode pending ≡ Some before.state → TellsOf Ansi mode pending bytes token)
      → Leads before.state Ansi bytes state → t ≡ forgotten_if (is_ground_state state) (effect_of token_effect token before.console)
      → IsTerminal (seen origins t state before.character)
  next_terminal {origins} before now_ bytes token state t same is title character goes tells leads console =
      let x = is.term.0 in
      let after = (shows_next {origins = origins} before now_ x bytes token state t same (subst (λ (it : Seen). Shows it x) same is.term.1) title character goes tells leads console).0 in
      record {
        safe = subst IsSafe after.console (safe_play laws x bytes (subst IsSafe (sym is.term.1.console) is.safe));
        term = (play x bytes, after);
      }

  -- and keeps its size
  pub next_size : (before now_ : Seen) (bytes : List ℕ) (token : Option Token) (state : ParserState) (t : Console)
      → before ≡ now_ → IsTerminal before → now_.console.title ≡ false → now_.character ≡ [] → GoesOn now_.state bytes
      → ((mode : Mode) (pending : List ℕ) → parser_view mode pending ≡ Some before.state → TellsOf Ansi mode pending bytes token)
      → Leads before.state Ansi bytes state → t ≡ forgotten_if (is_ground_state state) (effect_of token_effect token before.console)
      → SameSize now_.console t
  next_size before now_ bytes token state t same is title character goes tells leads console =
      let x = is.term.0 in
      let shows : Shows now_ x = subst (λ (it : Seen). Shows it x) same is.term.1 in
      let after = (shows_next {origins = []} before now_ x bytes token state t same shows title character goes tells leads console).0 in
      subst (λ (s : Console). SameSize s t) shows.console (subst (SameSize x.console) after.console (size_stays x bytes))

  -- where memory was refused, the parser has gone on alone
  pub left_terminal : {origins : List ℕ} (before : Seen) (bytes : List ℕ) (state : ParserState) (t : Console) → IsTerminal before → t ≡ before.console
      → Leads before.state Ansi bytes state → IsTerminal (seen origins t state before.character)
  left_terminal before bytes state t is same leads =
      let x = is.term.0 in
      let shows = is.term.1 in
      let after = pending_after_bytes Ansi Ansi x.sequence bytes in
      record {
        safe = subst IsSafe (sym same) is.safe;
        term = (
          record { console = t; sequence = after; character = before.character; reports = [] },
          record {
            console = refl;
            state = ap (λ (m : Mode). parser_view m after) (sym (many_modes bytes)) ∙ leads Ansi x.sequence shows.state;
            character = refl;
          },
        );
      }
