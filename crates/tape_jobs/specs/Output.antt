-- What a job comes to: a function of its files, with no device and no want of memory in it.
use Rattle.std.specs.Prelude.{◌≡◌, ℕ, ◌⊎◌, ◌==◌, ◌&&◌, ◌||◌, Bool, true, false, not, List, [], length, nat_lt, encode_utf8_all, Option, Some, None, MatchOption, Result, Ok, Err, if◌then◌else◌}
use Rattle.tape_check.specs.Header.{told_profile, told_size}
use Rattle.tape_check.specs.Lines.{check_text, is_noted}
use Rattle.tape_check.specs.Trailer.{is_usual}
use Rattle.tape_core.specs.Faults.{is_stop}
use Rattle.tape_core.specs.Reading.{fault_of, has_header, reads}
use Rattle.tape_core.specs.Seconds.{last_moment}
use Rattle.tape_core.specs.Tape.{Tape}
use Rattle.tape_core.specs.Text.{lines_of}
use Rattle.tape_core.specs.Written.{script_text, timing_text}
use Rattle.tape_core.specs.declared.fault.Fault.TheVariants.{NoHeader, OutOfMemory}
use Rattle.tape_import.specs.Imported.{Import as Read, Imports}
use Rattle.tape_import.specs.ImportedFile.{import_of}
use Rattle.tape_import.specs.Told.{is_damaged as is_lossy, losses_text}
use Rattle.tape_import.specs.declared.fault.ImportFault.{ImportFault}
use Rattle.tape_import.specs.declared.fault.ImportFault.TheVariants as of_import
use Rattle.tape_import.specs.declared.losses.Losses.{Losses}
use Rattle.tape_mend.specs.Mended.{Remains, mended, seen}
use Rattle.tape_mend.specs.Told.{is_damaged}
use Rattle.tape_mend.specs.declared.opening.Header.{Header}
use Rattle.tape_redact.specs.Recording.{taken_out, without}
use Rattle.tape_check.specs.declared.played.PlayedAs.TheVariants as played
use Rattle.vt_term.specs.declared.profile.Profile.{Profile}
use Rattle.vt_term.specs.declared.profile.Profile.TheVariants.{Vt100, Vt102}
use Rattle.tape_seek.specs.declared.edits.Edit.{Edit}
use Rattle.tape_seek.specs.declared.edits.EditFault.{EditFault}
use Rattle.tape_seek.specs.declared.edits.EditFault.TheVariants as of_edit
use Rattle.tape_cut.specs.CutEdits.{cut_edits, excerpt_edits}
use Rattle.tape_jobs.specs.Moment.{state_at}
use Rattle.tape_jobs.specs.Player.{found_of, played_of}
use Rattle.command_line.specs.declared.player.Source.{Source}
use Rattle.command_line.specs.declared.player.Source.TheVariants.{Pair}
use Rattle.command_line.specs.declared.player.Source.TheVariants as stands
use Rattle.tape_import.specs.Refusal.{IsWhole, refusal_of}
use Rattle.tape_import.specs.declared.refusal.Refusal.{Refusal}
use Rattle.tape_import.specs.declared.refusal.Refusal.TheVariants as refusal
use Rattle.std.specs.Option.{option_map}
use Rattle.command_line.specs.declared.player.Player.{Player}
use Rattle.command_line.specs.declared.player.Player.TheVariants.{Vt, Today, Auto}
use Rattle.tape_jobs.specs.Requests.{made_by, saved, started}
use Rattle.tape_jobs.specs.Session.{answered, any_refused}
use Rattle.tape_jobs.specs.Texts.{text_of}
use Rattle.command_line.specs.declared.job.Job.{Job}
use Rattle.command_line.specs.declared.job.Job.TheVariants.{Due, Info, Check, Find, Save, Cut, Excerpt, Mend, Import, Redact, Session}
use Rattle.tape_jobs.specs.declared.job.Ending.{Ending}
use Rattle.tape_jobs.specs.declared.job.Ending.TheVariants.{Clean, WithRefusals, WithNotes, WithLosses, WithNothing, WithTraces}
use Rattle.tape_jobs.specs.declared.job.JobFault.{JobFault}
use Rattle.tape_jobs.specs.declared.job.JobFault.TheVariants.{File, Compressed, NoKnownForm, Refused, Line, Memory}
use Rattle.tape_jobs.specs.declared.job.JobFault.TheVariants as of_job
use Rattle.tape_jobs.specs.declared.job.Outcome.{Outcome}

-- what a job is given: where the recording stands, the texts of its files, of which a recording of another form stands as
-- the script, and the characters of the text that stands beside it (ours)
pub record Files : Type 0 where
  pub source : Source
  pub script : List ℕ
  pub timing : List ℕ
  pub requests : List ℕ
  pub text : List ℕ

-- what a job comes to: the text that it writes, the text of a new timing, and how it ends (ours)
pub record Done : Type 0 where
  pub text : List ℕ
  pub timing : List ℕ
  pub outcome : Outcome

-- whether a job reads request lines (ours)
abbrev pub takes_requests : Job → Bool
takes_requests Save = true
takes_requests (Session every player) = true
takes_requests _ = false

-- whether a job writes a new timing (ours)
abbrev pub writes_timing : Job → Bool
writes_timing Save = true
writes_timing (Cut from to player) = true
writes_timing (Excerpt from to player) = true
writes_timing (Mend how) = true
writes_timing Import = true
writes_timing (Redact player) = true
writes_timing _ = false

-- what a job makes a pair of, where it reads no recording: of what can be read of a pair of files, with the line that it
-- takes as the header, or of a recording of another form (ours)
pub data Remade : Type 0 where
  Remnants : Header → Remade
  Foreign : Remade

abbrev pub remakes : Job → Option Remade
remakes (Mend how) = Some (Remnants how)
remakes Import = Some Foreign
remakes _ = None

-- what a job comes to that is done with these texts (ours)
abbrev pub done_with : List ℕ → List ℕ → Done
done_with text timing =
    record { text = text; timing = timing; outcome = record { status = 0; fault = None } }

-- what a job comes to at a fault of its own: nothing is written (ours)
abbrev pub refused_with : JobFault → Done
refused_with f =
    record { text = []; timing = []; outcome = record { status = 1; fault = Some f } }

-- whether the status of a job is an answer: then 1 says that nothing was found, and each fault has status 3 (as of
-- grep(1), which has 2)
abbrev pub answers_by_status : Job → Bool
answers_by_status (Find from to player) = true
answers_by_status (Redact player) = true
answers_by_status _ = false

-- what this job comes to at such a fault (ours)
abbrev pub refused_in : Job → JobFault → Done
refused_in job f = record {
  text = [];
  timing = [];
  outcome = record { status = if answers_by_status job then 3 else 1; fault = Some f };
}

-- what `save` comes to: both files anew, or the fault of the first line that is refused, with nothing written (ours)
abbrev pub done_saving : Result Tape (ℕ × EditFault) → Done
done_saving (Ok tape) = done_with (script_text tape) (timing_text tape)
done_saving (Err refused) = refused_with (Line refused.0 refused.1)

-- what `save` comes to on a recording and request lines (ours)
abbrev pub saved_by : Tape → List ℕ → Done
saved_by tape requests = done_saving (saved 1 (started (played.Vt Vt100) tape) (lines_of requests))

-- why an edit is refused, as a fault of a job (ours)
abbrev pub fault_of_edit : EditFault → JobFault
fault_of_edit of_edit.OutOfMemory = Memory
fault_of_edit f = of_job.Edit f

-- what a job comes to that makes edits of its own: both files anew, or the fault of the first that is refused, with
-- nothing written (ours)
abbrev pub done_editing : Result Tape EditFault → Done
done_editing (Ok tape) = done_with (script_text tape) (timing_text tape)
done_editing (Err f) = refused_with (of_job.Edit f)

-- by these edits of a recording, one after another (ours)
abbrev pub done_by : List Edit → Tape → Done
done_by edits tape = done_editing (made_by edits tape)

-- the edits of `cut`: what is due after one moment and by another goes, and in its place stands the state of the terminal
-- at the latter (ours)
abbrev pub edits_of_cut : ℕ → ℕ → Player → Tape → List Edit
edits_of_cut from to player tape = cut_edits from to (state_at (played_of player tape) tape to) tape

-- those of `excerpt`: what is due after one moment, and by another if it is given, stays, behind the state of the terminal
-- at the former (ours)
abbrev pub edits_of_excerpt : ℕ → Option ℕ → Player → Tape → List Edit
edits_of_excerpt from to player tape = excerpt_edits from to (state_at (played_of player tape) tape from) tape

-- what both come to (ours)
abbrev pub cut_by : ℕ → ℕ → Player → Tape → Done
cut_by from to player tape = done_by (edits_of_cut from to player tape) tape

abbrev pub excerpt_by : ℕ → Option ℕ → Player → Tape → Done
excerpt_by from to player tape = done_by (edits_of_excerpt from to player tape) tape

-- Private: how a job ends that only writes, where it is done (ours)
abbrev pub clean_by : {A : Type 0} → Result A JobFault → Result Ending JobFault
clean_by (Ok done) = Ok Clean
clean_by (Err f) = Err f

-- how a session ends, by whether any line was refused (ours)
abbrev pub ending_by : Bool → Ending
ending_by refused = if refused then WithRefusals else Clean

-- how a check ends, by whether it noted anything, or found what isn't played (ours)
abbrev pub ending_of_check : Bool → Ending
ending_of_check noted = if noted then WithNotes else Clean

-- how mending ends, and importing, by whether something is lacking (ours)
abbrev pub ending_of_mend : Bool → Ending
ending_of_mend lacking = if lacking then WithLosses else Clean

-- how a search ends, by whether a line was written (ours)
abbrev pub ending_of_find : Bool → Ending
ending_of_find found = if found then Clean else WithNothing

-- whether a text has a byte (ours)
abbrev pub is_some_text : List ℕ → Bool
is_some_text text = nat_lt 0 (length text)

-- how redacting ends, by whether all that is seen of it without playing is well, and whether the text still comes to
-- stand on the screen (ours)
abbrev pub ending_of_redact : Bool → Bool → Ending
ending_of_redact fit found = if fit && not found then Clean else WithTraces

-- the status of the program after a job that is done (ours)
abbrev pub status_after : Ending → ℕ
status_after Clean = 0
status_after WithRefusals = 1
status_after WithNotes = 1
status_after WithLosses = 1
status_after WithNothing = 1
status_after WithTraces = 1

-- what a job comes to that is done with this text and ends so (ours)
abbrev pub done_ending : List ℕ → Ending → Done
done_ending text ending = record {
  text = text;
  timing = [];
  outcome = record { status = status_after ending; fault = None };
}

-- the recording without a text, in UTF-8 (ours)
abbrev pub without_text : List ℕ → Tape → Tape
without_text text tape = without (encode_utf8_all text) tape

-- how often the text is taken out (ours)
abbrev pub count_of_text : List ℕ → Tape → ℕ
count_of_text text tape = taken_out (encode_utf8_all text) tape

-- where the text stands on the screen of the new recording all the same, typed with corrections, or drawn in parts: by
-- the terminal that plays the old one, at its size (ours)
abbrev pub lines_left : Player → List ℕ → Tape → List ℕ
lines_left player text tape = found_of (played_of player tape) (without_text text tape) None last_moment text

-- whether two headers tell the same size, or neither does (ours)
abbrev pub is_same_size : Option (ℕ × ℕ) → Option (ℕ × ℕ) → Bool
is_same_size None None = true
is_same_size None (Some new) = false
is_same_size (Some old) None = false
is_same_size (Some old) (Some new) = (old.0 == new.0) && (old.1 == new.1)

-- whether two headers tell the same profile, or neither does (ours)
abbrev pub is_same_profile : Option Profile → Option Profile → Bool
is_same_profile None None = true
is_same_profile (Some Vt100) (Some Vt100) = true
is_same_profile (Some Vt102) (Some Vt102) = true
is_same_profile _ _ = false

-- whether a recording with the other header is played by the same terminal, where the headers say which one (ours)
abbrev pub keeps_profile : Player → Tape → Tape → Bool
keeps_profile (Vt profile) old new = true
keeps_profile (Today asked) old new = true
keeps_profile (Auto asked) old new = is_same_profile (told_profile old) (told_profile new)

-- what is seen of a redaction without playing it: the text stood somewhere, the header tells the size of before and, where
-- it says which terminal plays, the same one, and behind the last chunk stands nothing but script's closing line, since
-- all else there isn't played (ours)
abbrev pub is_fit : Player → List ℕ → Tape → Bool
is_fit player text tape =
    let made = without_text text tape in
    nat_lt 0 (count_of_text text tape) && (keeps_profile player tape made
    && (is_same_size (told_size tape) (told_size made) && is_usual made.trailer))

-- what `redact` comes to: both files anew without the text, and whether that is all there was of it (ours)
abbrev pub done_redacting : Player → List ℕ → Tape → Done
done_redacting player text tape = record {
  text = script_text (without_text text tape);
  timing = timing_text (without_text text tape);
  outcome = record {
    status = status_after (ending_of_redact (is_fit player text tape) (is_some_text (lines_left player text tape)));
    fault = None;
  };
}

-- what a job comes to on a recording, of which so many changes of size were left out, request lines and a text: what the
-- recording says of itself and isn't played of it, where the text came to stand and where it went, both files anew, with
-- the edits, of a stretch or without the text, the answers to the lines, or else a text alone (ours)
abbrev pub done_on : Job → Tape → ℕ → List ℕ → List ℕ → Done
done_on (Check player) tape resizes requests text =
    let played = played_of player tape in
    done_ending (check_text played resizes tape) (ending_of_check (is_noted played resizes tape))
done_on (Find from to player) tape resizes requests text =
    let lines = found_of (played_of player tape) tape from to text in
    done_ending lines (ending_of_find (is_some_text lines))
done_on Save tape resizes requests text = saved_by tape requests
done_on (Cut from to player) tape resizes requests text = cut_by from to player tape
done_on (Excerpt from to player) tape resizes requests text = excerpt_by from to player tape
done_on (Mend how) tape resizes requests text = done_with (script_text tape) (timing_text tape)
done_on Import tape resizes requests text = done_with (script_text tape) (timing_text tape)
done_on (Redact player) tape resizes requests text = done_redacting player text tape
done_on (Session every player) tape resizes requests text =
    let start = started (played_of player tape) tape in
    done_ending (answered start (lines_of requests)) (ending_by (any_refused start (lines_of requests)))
done_on job tape resizes requests text = done_with (text_of job tape text) []

-- of what is left of a pair of files something is lacking: a line or a chunk, or a part of one, or the timing of bytes
-- behind the last chunk, which are more than script's closing line (ours)
abbrev pub is_lacking : Remains → Bool
is_lacking remains = is_damaged remains.losses || not (is_usual remains.tape.trailer)

-- what `mend` comes to on a pair of files: both anew of all that can be read of them; and where no line of the
-- typescript can be its header, the fault of that, with nothing written (ours)
abbrev pub done_mending : Remains → Done
done_mending remains = record {
  text = script_text remains.tape;
  timing = timing_text remains.tape;
  outcome = record { status = status_after (ending_of_mend (is_lacking remains)); fault = None };
}

abbrev pub mended_by : Header → List ℕ → List ℕ → Done
mended_by how script timing =
    if has_header (seen how script) then done_mending (mended how script timing) else refused_with (File NoHeader)

-- what `import` comes to on a recording of another form that was read so: both files, of all that can be read of it (ours)
abbrev pub done_importing : Tape → Losses → Done
done_importing tape losses = record {
  text = script_text tape;
  timing = timing_text tape;
  outcome = record { status = status_after (ending_of_mend (is_lossy losses)); fault = None };
}

-- why nothing is imported, as a fault of a job (ours)
abbrev pub fault_of_import : ImportFault → JobFault
fault_of_import of_import.Compressed = Compressed
fault_of_import of_import.NoKnownForm = NoKnownForm
fault_of_import of_import.OutOfMemory = File OutOfMemory

-- what importing comes to, with what is told of it, by what is read of the file; where that is nothing, the fault of it,
-- with nothing written or told (ours)
abbrev pub ComesOf : Result Read ImportFault → Done → List ℕ → Type 0
ComesOf (Ok what) done told = (tape : Tape) × (losses : Losses) × Imports what tape losses
    × (done ≡ done_importing tape losses) × (told ≡ losses_text losses)
ComesOf (Err f) done told = (done ≡ refused_with (fault_of_import f)) × (told ≡ [])

abbrev pub ComesImported : List ℕ → Done → List ℕ → Type 0
ComesImported file done told = ComesOf (import_of file) done told

-- Private: nothing is read of a file, for this fault (ours)
abbrev pub HasNoForm : List ℕ → JobFault → Type 0
HasNoForm file f = (why : ImportFault) × (import_of file ≡ Err why) × (f ≡ fault_of_import why)

-- why a recording of another form isn't read as a whole, as a fault of a job (ours)
abbrev pub fault_of_refusal : Refusal → JobFault
fault_of_refusal (refusal.Form f) = fault_of_import f
fault_of_refusal (refusal.Event at f) = Refused (refusal.Event at f)
fault_of_refusal (refusal.Ends chunk) = Refused (refusal.Ends chunk)

-- why files aren't read: the fault of the pair where it has one, or the first of the recording, which stands as the script
-- (ours)
abbrev pub fault_from : Source → List ℕ → List ℕ → Option JobFault
fault_from Pair script timing = option_map (λ f. File f) (fault_of script timing)
fault_from stands.Recording script timing = option_map fault_of_refusal (refusal_of (import_of script))

-- files are read as this recording, of which so many changes of size were left out: a pair, of which none were, or a
-- recording of another form as a whole, as the one that `import` makes of it (ours)
abbrev pub ReadsFrom : Source → List ℕ → List ℕ → Tape → ℕ → Type 0
ReadsFrom Pair script timing tape resizes = reads script timing tape × (resizes ≡ 0)
ReadsFrom stands.Recording script timing tape resizes = IsWhole (import_of script) tape resizes

abbrev pub ReadsAs : Files → Tape → ℕ → Type 0
ReadsAs files tape resizes = ReadsFrom files.source files.script files.timing tape resizes

-- the jobs that may take memory once the recording is read: those that open a session, and the one that counts
-- sequences (ours)
abbrev pub TakesMemory : Job → Type 0
TakesMemory (Due at) = ⊥
TakesMemory Info = ⊥
TakesMemory (Mend how) = ⊥
TakesMemory Import = ⊥
TakesMemory _ = Unit {0}

-- a job comes to this on these files: what mending them comes to, or importing the one that is read as the script, where
-- it does that; else the fault of the files where they have one, and else what it comes to on the recording (ours)
abbrev pub ComesBy : Option Remade → Job → Files → Done → Type 0
ComesBy (Some (Remnants how)) job files done = done ≡ mended_by how files.script files.timing
ComesBy (Some Foreign) job files done = (told : List ℕ) × ComesImported files.script done told
ComesBy None job files done = MatchOption (fault_from files.source files.script files.timing)
    ((tape : Tape) × (resizes : ℕ) × ReadsAs files tape resizes
    × (done ≡ done_on job tape resizes files.requests files.text))
    (λ f. done ≡ refused_in job f)

abbrev pub Comes : Job → Files → Done → Type 0
Comes job files done = ComesBy (remakes job) job files done

-- a device or want of memory stopped the job (ours)
abbrev pub is_stopped : Option JobFault → Bool
is_stopped None = false
is_stopped (Some (File f)) = is_stop f
is_stopped (Some Compressed) = false
is_stopped (Some NoKnownForm) = false
is_stopped (Some (Refused r)) = false
is_stopped (Some Memory) = true
is_stopped (Some (Line line f)) = false
is_stopped (Some (of_job.Edit f)) = false

-- the status of the program where a job is done (ours)
abbrev pub IsDoneStatus : Job → ℕ → Type 0
IsDoneStatus (Session every player) status = (status ≡ 0) ⊎ (status ≡ 1)
IsDoneStatus (Check player) status = (status ≡ 0) ⊎ (status ≡ 1)
IsDoneStatus (Mend how) status = (status ≡ 0) ⊎ (status ≡ 1)
IsDoneStatus Import status = (status ≡ 0) ⊎ (status ≡ 1)
IsDoneStatus (Find from to player) status = (status ≡ 0) ⊎ (status ≡ 1)
IsDoneStatus (Redact player) status = (status ≡ 0) ⊎ (status ≡ 1)
IsDoneStatus _ status = status ≡ 0

-- the status of the program where a job isn't done: 3 where a device or want of memory stopped it, and else 1 (ours)
abbrev pub status_of : JobFault → ℕ
status_of (File f) = if is_stop f then 3 else 1
status_of Compressed = 1
status_of NoKnownForm = 1
status_of (Refused r) = 1
status_of Memory = 3
status_of (Line line f) = 1
status_of (of_job.Edit f) = 1

-- the same of this job (ours)
abbrev pub status_in : Job → JobFault → ℕ
status_in job f = if answers_by_status job then 3 else status_of f

-- how a job ends that is done, or is stopped by a fault (ours)
abbrev pub outcome_by : Result Ending JobFault → Outcome
outcome_by (Ok ending) = record { status = status_after ending; fault = None }
outcome_by (Err f) = record { status = status_of f; fault = Some f }

-- the same of this job (ours)
abbrev pub outcome_in : Job → Result Ending JobFault → Outcome
outcome_in job (Ok ending) = record { status = status_after ending; fault = None }
outcome_in job (Err f) = record { status = status_in job f; fault = Some f }
