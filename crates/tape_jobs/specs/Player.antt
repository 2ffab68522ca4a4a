-- Which terminal plays a recording, and of which size.
use Rattle.std.specs.Prelude.{◌≡◌, ℕ, List, [], true, unwrap_or, Option, Some, None}
use Rattle.std.specs.Option.{option_map, option_or}
use Rattle.screen_print.specs.ChangeLines.{change_lines}
use Rattle.screen_print.specs.EachByte.{StandsNowhere, find_lines, has_ink}
use Rattle.standings.specs.Rows.{Row}
use Rattle.tape_check.specs.Header.{told_profile, told_size}
use Rattle.tape_check.specs.declared.played.PlayedAs.{PlayedAs}
use Rattle.tape_check.specs.declared.played.PlayedAs.TheVariants as played
use Rattle.tape_core.specs.Due.{due}
use Rattle.tape_core.specs.Tape.{Tape}
use Rattle.xterm_term.specs.declared.measure.Size.{Size}
use Rattle.xterm_term.specs.Term.{Term, reset_term, play}
use Rattle.text_find.specs.FindLines.{NowhereOn, lines_found}
use Rattle.xterm_print.specs.ChangeLines.{changed_lines}
use Rattle.xterm_print.specs.FindRows.{rows_read}
use Rattle.sheet.specs.Cells.{Cell}
use Rattle.chunk_walk.specs.ChangeLine.{change_line}
use Rattle.chunk_walk.specs.Walk.{asked_texts}
use Rattle.std.specs.Fmt.{decimal}
use Rattle.command_line.specs.Measures.{within_of}
use Rattle.command_line.specs.declared.player.Measure.{Measure}
use Rattle.command_line.specs.declared.player.Player.{Player}
use Rattle.command_line.specs.declared.player.Player.TheVariants.{Vt, Today, Auto}
use Rattle.vt_term.specs.declared.profile.Profile.{Profile}

-- a measure, if there is one that is within the limits (ours)
abbrev pub within : Option Measure → Option Measure
within None = None
within (Some m) = within_of m

-- the measure that a recording's header tells: COLUMNS and LINES (script(1))
abbrev pub told_measure : Tape → Option Measure
told_measure tape = option_map (λ told. record { columns = told.0; lines = told.1 }) (told_size tape)

-- that of a VT100 (ours)
abbrev pub usual_measure : Measure
usual_measure = record { columns = 80; lines = 24 }

-- The size of a terminal of today that plays a recording: the one that is asked for, else the one that the header tells,
-- each where it is within the limits, else 80 columns and 24 lines (ours).
abbrev pub played_size : Option Measure → Tape → Measure
played_size asked tape = unwrap_or (option_or (within asked) (within (told_measure tape))) usual_measure

abbrev pub measure_of : Size → Measure
measure_of size = record { columns = size.columns; lines = size.lines }

-- as what a terminal of today of this size plays
abbrev pub today_of : Measure → PlayedAs
today_of size = played.Today size.columns size.lines

-- where the header is to say which terminal plays: the VT100 that its TERM tells, and else a terminal of today (ours)
abbrev pub told_player : Option Profile → Measure → PlayedAs
told_player (Some profile) size = played.Vt profile
told_player None size = today_of size

-- As what a recording is played: which terminal plays it, and of which size. All that is told of the recording goes by that
-- (ours).
abbrev pub played_of : Player → Tape → PlayedAs
played_of (Vt profile) tape = played.Vt profile
played_of (Today asked) tape = today_of (played_size asked tape)
played_of (Auto asked) tape = told_player (told_profile tape) (played_size asked tape)

-- a terminal of today of a size that plays a recording, at a moment
abbrev pub today_at : Measure → Tape → ℕ → Term
today_at size tape at = play (reset_term size.columns size.lines) (due tape.chunks at)

-- columns and lines as a measure
abbrev pub sized : ℕ → ℕ → Measure
sized columns lines = record { columns = columns; lines = lines }

-- the rows of a terminal of today of a size once these bytes were played
abbrev pub today_rows : Measure → List ℕ → List (List Cell)
today_rows size bytes = (play (reset_term size.columns size.lines) bytes).console.picture.rows

-- what is written of a chunk that it plays, by the bytes before it and by its end
abbrev pub today_change : Measure → ℕ → ℕ → List ℕ → List ℕ → List ℕ
today_change size index due before after =
    change_line decimal index due (changed_lines size.lines (today_rows size before) (today_rows size after))

-- and of the chunks that are asked for
unfoldable pub today_lines : Measure → Tape → Option ℕ → ℕ → List ℕ
today_lines size tape from to = asked_texts today_change size tape from to

-- the lines of the screen that each chunk changes, of those that are asked for (ours)
unfoldable pub changes_of : PlayedAs → Tape → Option ℕ → ℕ → List ℕ
changes_of (played.Vt profile) tape from to = change_lines profile tape from to
changes_of (played.Today columns lines) tape from to = today_lines (sized columns lines) tape from to

-- the rows of such a terminal, as a text is looked for in them
abbrev pub today_shown : Measure → List ℕ → List Row
today_shown size bytes = rows_read size.lines (today_rows size bytes)

-- where a text stands on the screen, and at which chunks it comes, goes, or does both (ours)
unfoldable pub found_of : PlayedAs → Tape → Option ℕ → ℕ → List ℕ → List ℕ
found_of (played.Vt profile) tape from to text = find_lines profile tape from to text
found_of (played.Today columns lines) tape from to text =
    lines_found today_shown (sized columns lines) tape from to text

-- a text stands nowhere: not at the moment `from`, and not after any byte of a chunk that is asked for (ours)
abbrev pub NowhereFor : PlayedAs → Tape → Option ℕ → ℕ → List ℕ → Type 0
NowhereFor (played.Vt profile) tape from to text = StandsNowhere profile tape from to text
NowhereFor (played.Today columns lines) tape from to text =
    NowhereOn today_shown (sized columns lines) tape from to text

-- Private: where no line is written, it stands nowhere, whichever recording has said which terminal plays (ours)
abbrev pub NowhereMeansNowhere : Type 0
NowhereMeansNowhere =
    (player : Player) (told tape : Tape) (from : Option ℕ) (to : ℕ) (text : List ℕ) → has_ink text ≡ true
    → found_of (played_of player told) tape from to text ≡ []
    → NowhereFor (played_of player told) tape from to text
