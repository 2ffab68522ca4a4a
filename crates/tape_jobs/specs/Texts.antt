-- The text that a job writes.
use Rattle.std.specs.Prelude.{ℕ, Bool, true, false, List, [], Option}
use Rattle.output_cast.specs.Cast.{cast_text as output_text}
use Rattle.screen_cast.specs.Cast.{cast_text}
use Rattle.screen_page.specs.Page.{page_text}
use Rattle.screen_transcript.specs.Transcribed.{leaving_rows, standing_rows}
use Rattle.transcripts.specs.Transcript.{transcript}
use Rattle.tape_core.specs.Due.{due}
use Rattle.tape_core.specs.Tape.{Tape}
use Rattle.xterm_page.specs.Page.{page_text as today_page}
use Rattle.xterm_term.specs.Term.{reset_term}
use Rattle.xterm_transcript.specs.Rows.{all_rows}
use Rattle.xterm_transcript.specs.Transcribed.{Transcribed, left, play_on}
use Rattle.command_line.specs.declared.job.Job.{Job}
use Rattle.command_line.specs.declared.job.Job.TheVariants.{Due, Info, Check, Screen, Picture, Transcript, Changes, Find, Reports, Page, Cast, Save, Cut, Excerpt, Mend, Import, Redact, Session}
use Rattle.command_line.specs.declared.player.Measure.{Measure}
use Rattle.tape_check.specs.declared.played.PlayedAs.{PlayedAs}
use Rattle.tape_check.specs.declared.played.PlayedAs.TheVariants.{Vt, Today}
use Rattle.tape_jobs.specs.Info.{info_text}
use Rattle.tape_jobs.specs.Moment.{drawn_at, printed_at, sent_at}
use Rattle.tape_jobs.specs.Player.{changes_of, played_of, sized}

-- a recording as an asciicast: what a VT shows, or for a terminal of today the output itself, of its size (ours)
unfoldable pub cast_of : PlayedAs → Tape → List ℕ
cast_of (Vt profile) tape = cast_text profile tape
cast_of (Today columns lines) tape = output_text columns lines tape

-- a terminal of today at its start, of which the rows that leave are told
abbrev pub today_reset : Measure → Transcribed
today_reset size = record { term = reset_term size.columns size.lines; home = false }

-- the rows that leave it at the latter bytes, and those that stand behind bytes
abbrev pub today_leaving : Measure → List ℕ → List ℕ → List (List ℕ)
today_leaving size before bytes = left (play_on (today_reset size) before) bytes

abbrev pub today_standing : Measure → List ℕ → List (List ℕ)
today_standing size bytes = all_rows (play_on (today_reset size) bytes).term.console.picture

-- the session as text: the rows that left the screen after the one moment and by the other, and those that stand (ours)
unfoldable pub transcript_of : PlayedAs → Tape → Option ℕ → Option ℕ → List ℕ
transcript_of (Vt profile) tape from to = transcript leaving_rows standing_rows profile tape from to
transcript_of (Today columns lines) tape from to =
    transcript today_leaving today_standing (sized columns lines) tape from to

-- a recording as a page with a title: what a VT or a terminal of today shows (ours)
unfoldable pub page_of : List ℕ → PlayedAs → Tape → List ℕ
page_of title (Vt profile) tape = page_text title profile tape
page_of title (Today columns lines) tape = today_page title columns lines tape

-- the text of a job that is done once that is written: the bytes that are due, what the recording holds, what the terminal
-- shows, as text or as a picture, the session as text, which lines of the screen each chunk changes, what the terminal has
-- sent by then, the page of which the text beside the job is the title, or the asciicast; the others aren't asked (ours)
abbrev pub text_of : Job → Tape → List ℕ → List ℕ
text_of (Due at) tape text = due tape.chunks at
text_of Info tape text = info_text tape
text_of (Screen at print) tape text = printed_at print tape at
text_of (Picture at player) tape text = drawn_at (played_of player tape) tape at
text_of (Transcript from to player) tape text = transcript_of (played_of player tape) tape from to
text_of (Changes from to player) tape text = changes_of (played_of player tape) tape from to
text_of (Reports at player) tape text = sent_at (played_of player tape) tape at
text_of (Page player) tape text = page_of text (played_of player tape) tape
text_of (Cast player) tape text = cast_of (played_of player tape) tape
text_of _ tape text = []

-- Private: the jobs that are done once that text is written (ours)
abbrev pub only_writes : Job → Bool
only_writes (Check player) = false
only_writes (Find from to player) = false
only_writes Save = false
only_writes (Cut from to player) = false
only_writes (Excerpt from to player) = false
only_writes (Mend how) = false
only_writes Import = false
only_writes (Redact player) = false
only_writes (Session every player) = false
only_writes _ = true

-- the jobs that take all their memory before they write anything: the others write as they go (ours)
abbrev pub writes_last : Job → Bool
writes_last (Transcript from to player) = false
writes_last (Changes from to player) = false
writes_last (Find from to player) = false
writes_last (Page player) = false
writes_last (Cast player) = false
writes_last (Session every player) = false
writes_last _ = true
