-- Private: how the code's terminal, and the parser beside it, follow a terminal of which the rows that leave are told.
use Rattle.std.specs.Prelude.{◌≡◌, ℕ, ◌+◌, ◌≤◌, Bool, true, false, ◌&&◌, List, [], ◌∷◌, Some, if◌then◌else◌}
use Rattle.characters.specs.declared.utf8.Reading.{Reading}
use Rattle.characters.specs.declared.utf8.Reading.TheVariants.{Broken}
use Rattle.characters.specs.Utf8.{reading, replacement}
use Rattle.vt_parser.specs.declared.commands.Command.{Command}
use Rattle.vt_parser.specs.declared.commands.Command.TheVariants.{Error}
use Rattle.vt_parser.specs.declared.commands.Mode.TheVariants.{Ansi}
use Rattle.vt_parser.specs.declared.states.ParserState.{ParserState}
use Rattle.vt_parser.specs.Law.{is_sequence}
use Rattle.vt_parser.specs.View.{parser_view}
use Rattle.xterm_screen.specs.Picture.{Picture}
use Rattle.xterm_term.specs.declared.sets.CharacterSet.TheVariants.{Ascii}
use Rattle.xterm_term.specs.Ahead.{WritesOn}
use Rattle.xterm_term.specs.Between.{broken_off, obeyed}
use Rattle.xterm_term.specs.Console.{forgotten}
use Rattle.xterm_term.specs.Puts.{is_c1, last_repeated, put_times}
use Rattle.xterm_term.specs.Seen.{Seen, Shows}
use Rattle.xterm_term.specs.Sets.{set_in_use}
use Rattle.xterm_term.specs.Term.{Term, play}
use Rattle.transcripts.specs.declared.home.After.{After}
use Rattle.transcripts.specs.declared.home.After.TheVariants.{Kept, Elsewhere, Placed}
use Rattle.xterm_transcript.specs.declared.leaving.Leaving.{Leaving}
use Rattle.xterm_transcript.specs.declared.leaving.Leaving.TheVariants.{Repeated}
use Rattle.xterm_transcript.specs.declared.transcriber.Piece.{Piece}
use Rattle.xterm_transcript.specs.declared.transcriber.Transcriber.{Transcriber}
use Rattle.xterm_transcript.specs.Home.{is_home, places}
use Rattle.xterm_transcript.specs.Leaving.{put_rows, rows_of}
use Rattle.xterm_transcript.specs.Transcribed.{Transcribed, left, play_on}

-- it shows the term, the parser beside it shows what is pending, and it knows whether what comes next comes directly
-- behind home
pub record IsPlayed (now : Transcriber) (x : Transcribed) : Type 0 where
  pub shows : Shows now.terminal x.term
  pub state : parser_view Ansi x.term.sequence ≡ Some now.parser
  pub home : now.home ≡ x.home

-- whether what comes next comes directly behind home, by what bytes did, and the picture after them
abbrev pub home_by : After → Bool → Picture → Bool
home_by Kept home p = home
home_by Elsewhere home p = false
home_by Placed home p = is_home p

-- what a command does; one that is cut does nothing
abbrev pub after_placing : Bool → After
after_placing true = Placed
after_placing false = Elsewhere

abbrev pub after_command : Command → After
after_command Error = Kept
after_command command = after_placing (places command)

-- what a byte without a command does
abbrev pub after_acting : Bool → After
after_acting true = Elsewhere
after_acting false = Kept

-- what a character that is put does
abbrev pub after_put : ℕ → After
after_put character = if is_c1 character then Kept else Elsewhere

-- ---- what is put while rows are told

-- a character n times
abbrev pub character_put_times : ℕ → ℕ → Term → Term
character_put_times n character x = record x { console = put_times n character x.console }

-- the last character n times, and there is none any more
abbrev pub repeated_off : ℕ → Term → Term
repeated_off n x = record x { console = forgotten (last_repeated n x.console) }

abbrev pub told_by : Leaving → Term → Term
told_by (Repeated n) x = repeated_off n x
told_by _ x = x

-- what shows one behind these bytes shows the other
abbrev pub PlaysAlike : Term → Term → List ℕ → Type 0
PlaysAlike t u bytes = (seen : Seen) → Shows seen (play t bytes) → Shows seen (play u bytes)

-- a command was obeyed, or else its bytes were played
abbrev pub PlaysEither : Bool → Command → Term → List ℕ → Seen → Type 0
PlaysEither true command t bytes seen = Shows seen (obeyed command t)
PlaysEither false command t bytes seen = Shows seen (play t bytes)

-- the command of a sequence is obeyed where nothing was pending before it
abbrev pub PlaysToken : Bool → Command → Term → List ℕ → Seen → Type 0
PlaysToken idle command = PlaysEither (idle && is_sequence command) command

-- ---- a character that is broken off

abbrev pub breaks : Reading → Bool
breaks Broken = true
breaks _ = false

-- the byte breaks off the bytes of a character
abbrev pub is_broken : List ℕ → ℕ → Bool
is_broken [] byte = false
is_broken (first ∷ rest) byte = breaks (reading (first ∷ rest) byte)

-- it is broken off, which leads away from home
abbrev pub cut_off : Transcribed → Transcribed
cut_off x = record { term = broken_off x.term; home = false }

-- the same if the byte does so, and the rows that leave then
abbrev pub mended : Transcribed → ℕ → Transcribed
mended x byte = if is_broken x.term.character byte then cut_off x else x

abbrev pub broken_rows : Transcribed → ℕ → List (List ℕ)
broken_rows x byte = if is_broken x.term.character byte then put_rows replacement x.term.console else []

-- ---- pieces

-- what these bytes come to
pub record Comes (x : Transcribed) (bytes : List ℕ) (piece : Piece) (state : ParserState) : Type 0 where
  pub rows : left x bytes ≡ rows_of piece.leaving x.term.console
  pub shown : parser_view Ansi (play_on x bytes).term.sequence ≡ Some state
  pub home : (play_on x bytes).home ≡ home_by piece.after x.home (play_on x bytes).term.console.picture
  pub alike : PlaysAlike (told_by piece.leaving x.term) x.term bytes

-- at so many characters of ASCII no wrap is taken but at the first
pub record HasRoom (seen : Seen) (count : ℕ) : Type 0 where
  pub writes : (x : Term) → Shows seen x → WritesOn x
  pub ascii : set_in_use seen.console.sets ≡ Ascii
  pub wrap : seen.console.picture.wrap ≡ false
  pub room : seen.console.picture.column + count ≤ seen.console.picture.columns + 1
