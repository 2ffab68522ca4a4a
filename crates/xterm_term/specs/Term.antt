-- A terminal as a plain value, and what bytes do to it.
use Rattle.std.specs.Prelude.{ℕ, Bool, true, false, not, ◌&&◌, ◌||◌, ◌==◌, nat_le, List, [], ◌∷◌, ◌++◌, fold, if◌then◌else◌}
use Rattle.characters.specs.declared.utf8.Reading.{Reading}
use Rattle.characters.specs.declared.utf8.Reading.TheVariants.{Character, More, Broken}
use Rattle.characters.specs.Utf8.{begins, reading, replacement}
use Rattle.vt_parser.specs.declared.commands.Mode.TheVariants.{Ansi}
use Rattle.vt_parser.specs.Syntax.{escape}
use Rattle.vt_parser.specs.Forms.{is_string_begun}
use Rattle.vt_parser.specs.Step.{command_of, pending_after}
use Rattle.xterm_term.specs.Rows.{effect_of}
use Rattle.xterm_term.specs.Console.{Console, reset_console, forgotten}
use Rattle.xterm_term.specs.Puts.{put}
use Rattle.xterm_term.specs.Replies.{reply_of}
use Rattle.xterm_term.specs.Effect.{effect, reply}

-- what it shows, the bytes of the sequence that isn't finished from its ESC on, those of the character that isn't, of
-- which one at most is pending, and all bytes sent so far
pub record Term : Type 0 where
  pub console : Console
  pub sequence : List ℕ
  pub character : List ℕ
  pub reports : List ℕ

-- the reset term of so many columns and lines: its initial state, nothing pending, nothing sent
abbrev pub reset_term : ℕ → ℕ → Term
reset_term columns lines =
    record { console = reset_console columns lines; sequence = []; character = []; reports = [] }

-- what a byte comes to: what is shown and pending then, and what is replied
pub record Outcome : Type 0 where
  pub console : Console
  pub sequence : List ℕ
  pub character : List ℕ
  pub reply : List ℕ

abbrev pub outcome : Console → List ℕ → List ℕ → List ℕ → Outcome
outcome s sequence character reply =
    record { console = s; sequence = sequence; character = character; reply = reply }

-- ---- a byte of the control syntax

-- nothing is pending
abbrev pub is_ground : List ℕ → Bool
is_ground [] = true
is_ground (byte ∷ rest) = false

-- a control character: a byte 0 to 31 but ESC
abbrev pub is_control : ℕ → Bool
is_control byte = nat_le byte 31 && not (byte == escape)

-- a byte after which there is no last character any more: a control outside a string, and the end of a sequence or a
-- string that ESC doesn't cut (xterm)
abbrev pub ends_last : List ℕ → ℕ → Bool
ends_last sequence byte =
    (is_control byte && not (is_string_begun sequence))
    || (not (is_ground sequence) && is_ground (pending_after Ansi sequence byte))

abbrev pub forgotten_if : Bool → Console → Console
forgotten_if ends s = if ends then forgotten s else s

abbrev pub syntax_read : Console → List ℕ → ℕ → Outcome
syntax_read s sequence byte =
    outcome (forgotten_if (ends_last sequence byte) (effect_of effect (command_of Ansi sequence byte) s))
    (pending_after Ansi sequence byte) []
    (reply_of reply (command_of Ansi sequence byte) s)

-- ---- a byte of a title

-- BEL, CAN and SUB end it (screen, tmux)
abbrev pub ends_title : ℕ → Bool
ends_title byte = byte == 7 || byte == 24 || byte == 26

abbrev pub title_set : Bool → Console → Console
title_set value s = record s { title = value }

-- ESC ends it and is read; all other bytes are nothing
abbrev pub title_read : Console → List ℕ → ℕ → Outcome
title_read s sequence byte =
    if byte == escape then outcome (title_set false s) (pending_after Ansi sequence byte) [] []
    else (if ends_title byte then outcome (title_set false s) sequence [] []
    else outcome s sequence [] [])

-- ---- a byte of a character (Unicode core specification 3.9)

-- a byte from 128 on ground begins a character, or is no part of one
abbrev pub upper_read : Console → ℕ → Outcome
upper_read s byte =
    if begins byte then outcome s [] (byte ∷ []) [] else outcome (put replacement s) [] [] []

-- a byte where no character is pending
unfoldable pub read : Console → List ℕ → ℕ → Outcome
read s sequence byte =
    if s.title then title_read s sequence byte
    else (if is_ground sequence && nat_le 128 byte then upper_read s byte
    else syntax_read s sequence byte)

-- a byte behind those of a character: where it can't go on they give one U+FFFD, and the byte is read anew
abbrev pub gone_on : Reading → Console → List ℕ → List ℕ → ℕ → Outcome
gone_on (Character c) s sequence character byte = outcome (put c s) sequence [] []
gone_on More s sequence character byte = outcome s sequence (character ++ byte ∷ []) []
gone_on Broken s sequence character byte = read (put replacement s) sequence byte

-- ---- any byte

unfoldable pub outcome_of : Console → List ℕ → List ℕ → ℕ → Outcome
outcome_of s sequence character byte =
    if is_ground character then read s sequence byte
    else gone_on (reading character byte) s sequence character byte

-- what the byte comes to after a term
abbrev pub outcome_at : Term → ℕ → Outcome
outcome_at x byte = outcome_of x.console x.sequence x.character byte

-- the reply to one byte
abbrev pub reply_to : Term → ℕ → List ℕ
reply_to x byte = (outcome_at x byte).reply

-- the step of a byte
abbrev pub step : Term → ℕ → Term
step x byte =
    let o = outcome_at x byte in
    record {
      console = o.console;
      sequence = o.sequence;
      character = o.character;
      reports = x.reports ++ o.reply;
    }

-- bytes are played: a fold of the step of one byte
unfoldable pub play : Term → List ℕ → Term
play x bytes = fold step x bytes

-- what they send: the replies to them, which playing them appends to the reports
unfoldable pub sent : Term → List ℕ → List ℕ
sent x [] = []
sent x (byte ∷ bytes) = reply_to x byte ++ sent (step x byte) bytes
