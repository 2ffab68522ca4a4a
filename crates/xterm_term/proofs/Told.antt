-- What a byte leaves of the terms that a terminal shows.
use Rattle.std.proofs.Common.{◌≡◌, ℕ, ◌<◌, Bool, true, false, List, [], ◌∷◌, ◌++◌, length, refl, sym, ap, ap₂, subst, ◌∙◌, ◌&&◌, nat_le}
use Rattle.std.specs.Prelude.{if◌then◌else◌}
use Rattle.characters.specs.declared.utf8.Reading.{Reading}
use Rattle.characters.specs.declared.utf8.Reading.TheVariants.{Character, More, Broken}
use Rattle.characters.specs.Utf8.{begins, reading, left_by, replacement}
use Rattle.vt_parser.specs.declared.commands.Mode.TheVariants.{Ansi}
use Rattle.vt_parser.specs.declared.states.ParserState.{ParserState}
use Rattle.vt_parser.specs.declared.states.ParserState.TheVariants.{Ground}
use Rattle.xterm_term.specs.Size.{IsSize}
use Rattle.xterm_term.specs.Console.{Console, IsSafe, reset_console}
use Rattle.xterm_term.specs.Puts.{put}
use Rattle.xterm_term.specs.Term.{Term, Outcome, outcome, outcome_of, outcome_at, upper_read, read, is_ground, reset_term, reply_to, step}
use Rattle.xterm_term.specs.SameSize.{SameSize}
use Rattle.xterm_term.specs.Seen.{Seen, Shows, IsTerminal}
use Rattle.xterm_term.specs.Reading.{Stands, ComesTo, IsSound}
use Rattle.xterm_term.specs.Law.{LawsBelow}
use Rattle.xterm_term.proofs.Sizes.{put_keeps_size}
use Rattle.xterm_term.proofs.ByteKinds.{next, come}

-- parts that are what they are give one value
abbrev pub seen : List ℕ → Console → ParserState → List ℕ → Seen
seen origins console state character =
    record { console = console; state = state; character = character; origins = origins }

-- where rows came from says nothing of what a terminal shows
pub shows_origins : (origins : List ℕ) (before : Seen) (x : Term) → Shows before x → Shows (record before { origins = origins }) x
shows_origins origins before x shows = record { console = shows.console; state = shows.state; character = shows.character }

pub terminal_origins : (origins : List ℕ) (before : Seen) → IsTerminal before → IsTerminal (record before { origins = origins })
terminal_origins origins before is =
    record { safe = is.safe; term = (is.term.0, shows_origins origins before is.term.0 is.term.1) }

module _ (laws : LawsBelow) where
  pub reset_shows : {origins : List ℕ} (columns lines : ℕ) → Shows (seen origins (reset_console columns lines) Ground []) (reset_term columns lines)
  reset_shows columns lines = record { console = refl; state = laws.ground_is_empty.0 Ansi; character = refl }

  pub reset_proper : {origins : List ℕ} (columns lines : ℕ) → IsSize columns lines → IsTerminal (seen origins (reset_console columns lines) Ground [])
  reset_proper columns lines size =
      record { safe = laws.reset_is_safe columns lines size; term = (reset_term columns lines, reset_shows columns lines) }

-- two terms of which the same is seen, as far as the outcome goes
outcome_same : (shown : Seen) (x : Term) (byte : ℕ) → Shows shown x
    → outcome_at x byte ≡ outcome_of shown.console x.sequence shown.character byte
outcome_same shown x byte shows = ap₂ (λ (s : Console) (c : List ℕ). outcome_of s x.sequence c byte) shows.console shows.character

pub told_step : {origins : List ℕ} (shown : Seen) (x : Term) (byte : ℕ) (s : Console) (state : ParserState) (character : List ℕ) → Shows shown x
    → ComesTo (outcome_of shown.console x.sequence shown.character byte) s state character
    → Shows (seen origins s state character) (step x byte)
told_step shown x byte s state character shows comes =
    let same = outcome_same shown x byte shows in
    record {
      console = ap (λ (o : Outcome). o.console) same ∙ sym comes.console;
      state = subst (λ (o : Outcome). Stands o.sequence state) (sym same) comes.state;
      character = ap (λ (o : Outcome). o.character) same ∙ sym comes.character;
    }

pub told_reply : (shown : Seen) (x : Term) (byte : ℕ) → Shows shown x
    → (outcome_of shown.console x.sequence shown.character byte).reply ≡ reply_to x byte
told_reply shown x byte shows = ap (λ (o : Outcome). o.reply) (sym (outcome_same shown x byte shows))

-- what is sound shows some term
pub sound_terminal : {origins : List ℕ} (s : Console) (state : ParserState) (character : List ℕ) → IsSound s state
    → IsTerminal (seen origins s state character)
sound_terminal s state character sound = record {
  safe = sound.safe;
  term = (
    record { console = s; sequence = sound.sequence.0; character = character; reports = [] },
    record { console = refl; state = sound.sequence.1; character = refl },
  );
}

-- ---- a byte from 128 on, on ground

upper_sequence_if : (b : Bool) (s t : Console) (bytes : List ℕ) → (if b then outcome s [] bytes [] else outcome t [] [] []).sequence ≡ []
upper_sequence_if true s t bytes = refl
upper_sequence_if false s t bytes = refl

upper_reply_if : (b : Bool) (s t : Console) (bytes : List ℕ) → (if b then outcome s [] bytes [] else outcome t [] [] []).reply ≡ []
upper_reply_if true s t bytes = refl
upper_reply_if false s t bytes = refl

pub upper_silent : (s : Console) (byte : ℕ) → (upper_read s byte).reply ≡ []
upper_silent s byte = upper_reply_if (begins byte) s (put replacement s) (byte ∷ [])

size_if : (b : Bool) (s t : Console) (bytes : List ℕ) → SameSize s t → SameSize s (if b then outcome s [] bytes [] else outcome t [] [] []).console
size_if true s t bytes same = record { columns = refl; lines = refl }
size_if false s t bytes same = same

pub upper_size : (s : Console) (byte : ℕ) → SameSize s (upper_read s byte).console
upper_size s byte = size_if (begins byte) s (put replacement s) (byte ∷ []) (put_keeps_size replacement s)

pub upper_comes : (s : Console) (sequence : List ℕ) (byte : ℕ) (t : Console) (left : ParserState) (bytes : List ℕ) → Stands sequence left
    → (is_ground sequence && nat_le 128 byte) ≡ true → t ≡ (upper_read s byte).console → bytes ≡ (upper_read s byte).character
    → ComesTo (upper_read s byte) t left bytes
upper_comes s [] byte t left bytes stands is console character = record {
  console = console;
  state = subst (λ (l : List ℕ). Stands l left) (sym (upper_sequence_if (begins byte) s (put replacement s) (byte ∷ []))) stands;
  character = character;
}
upper_comes s (b ∷ rest) byte t left bytes stands is console character = absurd cc

-- ---- a byte behind those of a character

pub came_character : (s : Console) (sequence character : List ℕ) (byte whole : ℕ) (t : Console) (left : ParserState) (bytes : List ℕ)
    → 0 < length character → Character whole ≡ reading character byte → Stands sequence left → t ≡ put whole s
    → bytes ≡ left_by (reading character byte) character byte → ComesTo (outcome_of s sequence character byte) t left bytes
came_character s sequence character byte whole t left bytes some is stands console after =
    come (outcome (put whole s) sequence [] []) _ t left [] bytes
    (record { console = console; state = stands; character = refl }) (next s sequence character byte (Character whole) some is)
    (after ∙ ap (λ (r : Reading). left_by r character byte) (sym is))

pub came_more : (s : Console) (sequence character : List ℕ) (byte : ℕ) (t : Console) (left : ParserState) (bytes : List ℕ)
    → 0 < length character → More ≡ reading character byte → Stands sequence left → t ≡ s
    → bytes ≡ left_by (reading character byte) character byte → ComesTo (outcome_of s sequence character byte) t left bytes
came_more s sequence character byte t left bytes some is stands console after =
    come (outcome s sequence (character ++ byte ∷ []) []) _ t left (character ++ byte ∷ []) bytes
    (record { console = console; state = stands; character = refl }) (next s sequence character byte More some is)
    (after ∙ ap (λ (r : Reading). left_by r character byte) (sym is))

pub broken : (s t : Console) (sequence character : List ℕ) (byte : ℕ) → 0 < length character → Broken ≡ reading character byte
    → t ≡ put replacement s → read t sequence byte ≡ outcome_of s sequence character byte
broken s t sequence character byte some is console =
    ap (λ (u : Console). read u sequence byte) console ∙ next s sequence character byte Broken some is

-- ---- whole values

seen_same : {origins : List ℕ} (s t : Console) (left state : ParserState) (bytes character : List ℕ) → s ≡ t → left ≡ state → bytes ≡ character
    → seen origins s left bytes ≡ seen origins t state character
seen_same s t left state bytes character same_console same_state same_bytes = cc

module _ (laws : LawsBelow) where
  pub reset_at : {origins : List ℕ} (columns lines : ℕ) (s : Console) (left : ParserState) (bytes : List ℕ) → IsSize columns lines → s ≡ reset_console columns lines
      → left ≡ Ground → bytes ≡ [] → IsTerminal (seen origins s left bytes)
  reset_at columns lines s left bytes size console state character =
      subst IsTerminal (sym (seen_same _ _ _ _ _ _ console state character)) (reset_proper laws columns lines size)

  pub shows_reset : {origins : List ℕ} (columns lines : ℕ) (s : Console) (left : ParserState) (bytes : List ℕ) → s ≡ reset_console columns lines
      → left ≡ Ground → bytes ≡ [] → Shows (seen origins s left bytes) (reset_term columns lines)
  shows_reset columns lines s left bytes console state character =
      subst (λ (t : Seen). Shows t (reset_term columns lines)) (sym (seen_same _ _ _ _ _ _ console state character)) (reset_shows laws columns lines)

-- a safe terminal has a size within the limits
pub size_of : (s : Console) → IsSafe s → IsSize s.picture.columns s.picture.lines
size_of s safe = record {
  columns_low = safe.sound.columns_low;
  columns_high = safe.sound.columns_high;
  lines_low = safe.sound.lines_low;
  lines_high = safe.sound.lines_high;
}
