-- A terminal of today of which the rows that leave are told.
use Rattle.std.specs.Prelude.{ℕ, Bool, false, ◌&&◌, nat_le, List, [], ◌∷◌, ◌++◌, Option, None, Some, fold, if◌then◌else◌}
use Rattle.characters.specs.declared.utf8.Reading.{Reading}
use Rattle.characters.specs.declared.utf8.Reading.TheVariants.{Character, More, Broken}
use Rattle.characters.specs.Utf8.{begins, reading, replacement}
use Rattle.vt_parser.specs.declared.commands.Command.{Command}
use Rattle.vt_parser.specs.declared.commands.Mode.TheVariants.{Ansi}
use Rattle.vt_parser.specs.Step.{command_of, context_of, pending_after}
use Rattle.vt_parser.specs.Syntax.{action_of}
use Rattle.xterm_term.specs.declared.measure.Size.{Size}
use Rattle.xterm_term.specs.Console.{Console}
use Rattle.xterm_term.specs.Puts.{is_c1, put}
use Rattle.xterm_term.specs.Term.{Term, is_ground, reset_term, step, syntax_read}
use Rattle.xterm_transcript.specs.Home.{acts, went_home}
use Rattle.xterm_transcript.specs.Leaving.{leaving, put_rows, rows_of}
use Rattle.xterm_transcript.specs.Rows.{all_rows}

-- a term, and whether what comes next comes directly behind home
pub record Transcribed : Type 0 where
  pub term : Term
  pub home : Bool

-- the reset term of a size, which nothing has brought home
abbrev pub reset_of : Size → Transcribed
reset_of size = record { term = reset_term size.columns size.lines; home = false }

-- what a byte comes to beside what the term does: the rows that leave, and whether what comes next comes directly behind
-- home
pub record Coming : Type 0 where
  pub rows : List (List ℕ)
  pub home : Bool

-- nothing
abbrev pub nothing : Bool → Coming
nothing home = record { rows = []; home = home }

-- a character that is put; U+0080 to U+009F put nothing (ours)
abbrev pub put_coming : Bool → Console → ℕ → Coming
put_coming home s character = record { rows = put_rows character s; home = is_c1 character && home }

-- ---- a byte of the control syntax

-- the rows that leave at the command that it gives, if it gives one
abbrev pub rows_by : Option Command → Bool → Console → List (List ℕ)
rows_by None home s = []
rows_by (Some command) home s = rows_of (leaving command home s) s

-- it acts
abbrev pub acts_at : List ℕ → ℕ → Bool
acts_at sequence byte = acts (action_of (context_of Ansi sequence) byte) (pending_after Ansi sequence byte)

abbrev pub syntax_coming : Bool → Console → List ℕ → ℕ → Coming
syntax_coming home s sequence byte =
    let command = command_of Ansi sequence byte in
    record {
      rows = rows_by command home s;
      home = (if acts_at sequence byte then went_home command (syntax_read s sequence byte).console.picture else home);
    }

-- ---- any byte, as a term reads it

-- a byte from 128 on ground begins a character, or is no part of one
abbrev pub upper_coming : Bool → Console → ℕ → Coming
upper_coming home s byte = if begins byte then nothing home else put_coming home s replacement

-- a byte where no character is pending; those of a title come to nothing
unfoldable pub read_coming : Bool → Console → List ℕ → ℕ → Coming
read_coming home s sequence byte =
    if s.title then nothing home
    else (if is_ground sequence && nat_le 128 byte then upper_coming home s byte
    else syntax_coming home s sequence byte)

-- rows before others
abbrev pub behind_rows : List (List ℕ) → Coming → Coming
behind_rows rows coming = record { rows = rows ++ coming.rows; home = coming.home }

-- a byte behind those of a character: where it can't go on they give one U+FFFD, and the byte is read anew
abbrev pub gone_on : Reading → Bool → Console → List ℕ → ℕ → Coming
gone_on (Character c) home s sequence byte = put_coming home s c
gone_on More home s sequence byte = nothing home
gone_on Broken home s sequence byte = behind_rows (put_rows replacement s) (read_coming false (put replacement s) sequence byte)

unfoldable pub coming_of : Bool → Console → List ℕ → List ℕ → ℕ → Coming
coming_of home s sequence character byte =
    if is_ground character then read_coming home s sequence byte
    else gone_on (reading character byte) home s sequence byte

-- ---- bytes

abbrev pub coming_at : Transcribed → ℕ → Coming
coming_at x byte = coming_of x.home x.term.console x.term.sequence x.term.character byte

-- the step of a byte
abbrev pub step_on : Transcribed → ℕ → Transcribed
step_on x byte = record { term = step x.term byte; home = (coming_at x byte).home }

-- bytes are played: a fold of the step of one byte
unfoldable pub play_on : Transcribed → List ℕ → Transcribed
play_on x bytes = fold step_on x bytes

-- the rows that leave at bytes, one after another
unfoldable pub left : Transcribed → List ℕ → List (List ℕ)
left x [] = []
left x (byte ∷ bytes) = (coming_at x byte).rows ++ left (step_on x byte) bytes

-- those that leave at the latter bytes, where the former were played before
abbrev pub leaving_rows : Size → List ℕ → List ℕ → List (List ℕ)
leaving_rows size before bytes = left (play_on (reset_of size) before) bytes

-- those that stand behind bytes
unfoldable pub standing_rows : Size → List ℕ → List (List ℕ)
standing_rows size bytes = all_rows (play_on (reset_of size) bytes).term.console.picture
