-- What bytes play to where nothing is pending, whatever the last character is: nothing here asks for it.
use Rattle.std.proofs.Common.{◌≡◌, ℕ, Bool, true, false, List, [], ◌∷◌, ◌++◌, refl, sym, ap, ap₂, subst, ◌∙◌, nat_le, ◌&&◌, arith}
use Rattle.std.specs.Prelude.{Option, Some, None, if◌then◌else◌}
use Rattle.std.specs.List.{list_all}
use Rattle.std.proofs.lemmas.Bool.{and_parts}
use Rattle.std.proofs.lemmas.Bool.Decides.{nat_tests}
use Rattle.std.proofs.lemmas.List.{append-nil}
use Rattle.std.proofs.lemmas.List.Folds.{list_all-append}
use Rattle.characters.specs.Utf8.{Spells}
use Rattle.vt_parser.specs.declared.commands.Mode.{Mode}
use Rattle.vt_parser.specs.declared.commands.Mode.TheVariants.{Ansi}
use Rattle.vt_parser.specs.declared.commands.Command.{Command}
use Rattle.vt_parser.specs.declared.commands.Command.TheVariants.{Csi}
use Rattle.vt_parser.specs.Syntax.{escape, is_graphic}
use Rattle.vt_parser.specs.Forms.{held, is_control_sequence_final}
use Rattle.vt_parser.specs.Decimals.{params_text}
use Rattle.vt_parser.specs.Step.{pending_after, mode_after}
use Rattle.vt_parser.specs.Fold.{pending_after_bytes, Gives}
use Rattle.vt_parser.specs.Law.{AreParams, GraphicIsShown, WrittenSequencesFinish, WrittenPrivatesFinish}
use Rattle.xterm_term.specs.Rows.{effect_of}
use Rattle.xterm_term.specs.Console.{Console}
use Rattle.xterm_term.specs.Effect.{effect, reply, control_sequence_effect, control_sequence_reply}
use Rattle.xterm_term.specs.Puts.{put, character_for}
use Rattle.xterm_term.specs.Replies.{reply_of}
use Rattle.xterm_term.specs.Term.{Term, Outcome, syntax_read, is_ground, ends_last, forgotten_if, step, play}
use Rattle.xterm_term.proofs.ByteKinds.{first, other}
use Rattle.xterm_term.proofs.Idle.{character_brings}
use Rattle.xterm_term.proofs.Runs.{on_ground, run_played, stepped}
use Rattle.xterm_term.proofs.Steps.{plays_in_parts}

-- the same console with another last character
abbrev pub ended : Option ℕ → Console → Console
ended last s = record s { last = last }

-- the bytes lead from one console to another, but for the last character
abbrev pub Leads : Console → List ℕ → Console → Type 0
Leads s bytes t =
    (last : Option ℕ) (reports : List ℕ) → (after : Option ℕ) × (play (on_ground (ended last s) reports) bytes ≡ on_ground (ended after t) reports)

pub leads_none : (s : Console) → Leads s [] s
unfolding play
leads_none s = λ last reports. (last, refl)

pub leads_both : (s t u : Console) (one two : List ℕ) → Leads s one t → Leads t two u → Leads s (one ++ two) u
leads_both s t u one two before after = λ last reports.
    let here = before last reports in
    let later = after here.0 reports in (
      later.0,
      plays_in_parts (on_ground (ended last s) reports) one two ∙ ap (λ (x : Term). play x two) here.1 ∙ later.1,
    )

pub leads_as : (s t u : Console) (one two : List ℕ) → Leads s one t → one ≡ two → t ≡ u → Leads s two u
leads_as s t u one two leads same_text same = subst (λ (l : List ℕ). Leads s l u) same_text (subst (λ (v : Console). Leads s one v) same leads)

-- ---- a control sequence

abbrev pub low_byte : ℕ → Bool
low_byte byte = nat_le byte 127

-- a term with no character pending
abbrev pub behind : Console → List ℕ → List ℕ → Term
behind s sequence reports = record { console = s; sequence = sequence; character = []; reports = reports }

no_upper : (ground : Bool) (byte : ℕ) → low_byte byte ≡ true → (ground && nat_le 128 byte) ≡ false
no_upper true byte low = grind (arith, nat_tests)
no_upper false byte low = refl

pub stepped_by : (s : Console) (sequence reports : List ℕ) (byte : ℕ) → s.title ≡ false → low_byte byte ≡ true
    → step (behind s sequence reports) byte ≡ stepped reports (syntax_read s sequence byte)
stepped_by s sequence reports byte title low =
    ap (λ (o : Outcome). stepped reports o)
    (sym (other s sequence byte title (no_upper (is_ground sequence) byte low) ∙ first s sequence [] byte refl))

-- that a last character is forgotten once more or once is one thing
once : (b c : Bool) (s : Console) → forgotten_if b (forgotten_if c s) ≡ forgotten_if (if c then true else b) s
once true true s = refl
once true false s = refl
once false true s = refl
once false false s = refl

pub same_title : (b : Bool) (s : Console) → (forgotten_if b s).title ≡ s.title
same_title true s = refl
same_title false s = refl

either_mode : (b : Bool) → (if b then Ansi else Ansi) ≡ Ansi
either_mode true = refl
either_mode false = refl

-- the bytes give the command with the last of them
record Acts (s : Console) (sequence reports bytes : List ℕ) (command : Command) : Type 0 where
  before : Bool
  after : Bool
  to : play (behind s sequence reports) bytes
      ≡ behind (forgotten_if after (effect command (forgotten_if before s))) (pending_after_bytes Ansi Ansi sequence bytes)
      (reports ++ reply command (forgotten_if before s))

acts : (bytes : List ℕ) (s : Console) (sequence reports : List ℕ) (command : Command) → s.title ≡ false → list_all low_byte bytes ≡ true
    → Gives Ansi Ansi sequence bytes (Some command) → Acts s sequence reports bytes command
unfolding play
acts [] s sequence reports command title low gives = absurd (cc gives)
acts (byte ∷ []) s sequence reports command title low gives =
    let parts = and_parts (low_byte byte) true low in
    let ends = ends_last sequence byte in
    record {
      before = false;
      after = ends;
      to = stepped_by s sequence reports byte title parts.0
          ∙ ap (λ (c : Option Command). behind (forgotten_if ends (effect_of effect c s)) (pending_after Ansi sequence byte) (reports ++ reply_of reply c s)) gives;
    }
acts (byte ∷ next ∷ rest) s sequence reports command title low gives =
    let parts = and_parts (low_byte byte) (list_all low_byte (next ∷ rest)) low in
    let ends = ends_last sequence byte in
    let after = pending_after Ansi sequence byte in
    let t : Console = forgotten_if ends s in
    let moved : step (behind s sequence reports) byte ≡ behind t after reports
    = stepped_by s sequence reports byte title parts.0
    ∙ ap (λ (c : Option Command). behind (forgotten_if ends (effect_of effect c s)) after (reports ++ reply_of reply c s)) gives.0
    ∙ ap (behind t after) (append-nil reports) in
    let mode : mode_after Ansi Ansi byte ≡ Ansi = either_mode _ in
    let more = subst (λ (m : Mode). Gives Ansi m after (next ∷ rest) (Some command)) mode gives.1 in
    let later = acts (next ∷ rest) t after reports command (same_title ends s ∙ title) parts.1 more in
    let pending : pending_after_bytes Ansi Ansi after (next ∷ rest) ≡ pending_after_bytes Ansi (mode_after Ansi Ansi byte) after (next ∷ rest)
    = ap (λ (m : Mode). pending_after_bytes Ansi m after (next ∷ rest)) (sym mode) in
    record {
      before = if ends then true else later.before;
      after = later.after;
      to = ap (λ (x : Term). play x (next ∷ rest)) moved ∙ later.to
          ∙ ap₂ (λ (u : Console) (p : List ℕ). behind (forgotten_if later.after (effect command u)) p (reports ++ reply command u)) (once later.before ends s) pending;
    }

-- a last character is of no account
last_if : (b : Bool) (last : Option ℕ) (s : Console) → (l : Option ℕ) × (forgotten_if b (ended last s) ≡ ended l s)
last_if true last s = (None, refl)
last_if false last s = (last, refl)

-- a whole sequence has its effect, where that and its reply don't go by the last character
pub whole_leads : (s t : Console) (bytes : List ℕ) (command : Command) → s.title ≡ false → list_all low_byte bytes ≡ true
    → Gives Ansi Ansi [] bytes (Some command) × (pending_after_bytes Ansi Ansi [] bytes ≡ [])
    → ((l : Option ℕ) → effect command (ended l s) ≡ ended l t) → ((l : Option ℕ) → reply command (ended l s) ≡ []) → Leads s bytes t
whole_leads s t bytes command title low finishes effects silent = λ last reports.
    let done = acts bytes (ended last s) [] reports command title low finishes.0 in
    let first_last = last_if done.before last s in
    let second_last = last_if done.after first_last.0 t in (
      second_last.0,
      done.to
          ∙ ap (λ (u : Console). behind (forgotten_if done.after (effect command u)) (pending_after_bytes Ansi Ansi [] bytes) (reports ++ reply command u)) first_last.1
          ∙ ap₂ (λ (u : Console) (l : List ℕ). behind (forgotten_if done.after u) (pending_after_bytes Ansi Ansi [] bytes) (reports ++ l)) (effects first_last.0) (silent first_last.0)
          ∙ ap₂ (λ (u : Console) (l : List ℕ). behind u (pending_after_bytes Ansi Ansi [] bytes) l) second_last.1 (append-nil reports)
          ∙ ap (λ (p : List ℕ). behind (ended second_last.0 t) p reports) finishes.1,
    )

low_final : (last : ℕ) → is_control_sequence_final last ≡ true → low_byte last ≡ true
low_final last is = grind (arith, nat_tests)

low_joined : (text : List ℕ) (last : ℕ) → list_all low_byte text ≡ true → low_byte last ≡ true → list_all low_byte (text ++ last ∷ []) ≡ true
low_joined text last low high = list_all-append low_byte text (last ∷ []) ∙ simp (low, high)

-- numbers in decimal behind ESC [ ..
pub sequence_leads : WrittenSequencesFinish → (s t : Console) (numbers : List ℕ) (last : ℕ) → s.title ≡ false → AreParams numbers
    → list_all low_byte (params_text numbers) ≡ true → is_control_sequence_final last ≡ true
    → ((l : Option ℕ) → control_sequence_effect false last numbers (ended l s) ≡ ended l t)
    → ((l : Option ℕ) → control_sequence_reply false last numbers (ended l s) ≡ [])
    → Leads s (escape ∷ 91 ∷ (params_text numbers ++ last ∷ [])) t
unfolding effect reply
sequence_leads finish s t numbers last title are low is effects silent =
    whole_leads s t (escape ∷ 91 ∷ (params_text numbers ++ last ∷ [])) (Csi false (held numbers) last) title
    (low_joined (params_text numbers) last low (low_final last is)) (finish numbers last are is Ansi) effects silent

-- .. and behind ESC [ ?
pub private_leads : WrittenPrivatesFinish → (s t : Console) (numbers : List ℕ) (last : ℕ) → s.title ≡ false → AreParams numbers
    → list_all low_byte (params_text numbers) ≡ true → is_control_sequence_final last ≡ true
    → ((l : Option ℕ) → control_sequence_effect true last numbers (ended l s) ≡ ended l t)
    → Leads s (escape ∷ 91 ∷ 63 ∷ (params_text numbers ++ last ∷ [])) t
unfolding effect reply
private_leads finish s t numbers last title are low is effects =
    whole_leads s t (escape ∷ 91 ∷ 63 ∷ (params_text numbers ++ last ∷ [])) (Csi true (held numbers) last) title
    (low_joined (params_text numbers) last low (low_final last is)) (finish numbers last are is Ansi) effects (λ l. refl)

-- ---- characters

-- a character of ASCII, and one of more bytes
pub ascii_leads : GraphicIsShown → (s t : Console) (byte : ℕ) → s.title ≡ false → is_graphic byte ≡ true
    → ((l : Option ℕ) → (after : Option ℕ) × (put (character_for s byte) (ended l s) ≡ ended after t)) → Leads s (byte ∷ []) t
ascii_leads shown s t byte title graphic puts = λ last reports.
    let played = run_played shown (ended last s) reports (byte ∷ []) (simp graphic) title in
    let to = puts last in
    (to.0, played.0 ∙ ap (λ (u : Console). on_ground u reports) to.1)

pub spelled_leads : (s t : Console) (bytes : List ℕ) (c : ℕ) → s.title ≡ false → Spells bytes c
    → ((l : Option ℕ) → (after : Option ℕ) × (put c (ended l s) ≡ ended after t)) → Leads s bytes t
spelled_leads s t bytes c title spells puts = λ last reports.
    let to = puts last in
    (to.0, (character_brings (ended last s) bytes c title spells).played reports ∙ ap (λ (u : Console). on_ground u reports) to.1)
