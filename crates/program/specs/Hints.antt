-- What follows a fault on standard error: what to do about it, or more about it.
use Rattle.std.specs.Prelude.{◌==◌, ℕ, Bool, true, false, Option, Some, None, cond, ◌&&◌, ◌||◌}
use Rattle.std.specs.Option.{option_map}
use Rattle.tape_core.specs.declared.fault.Fault.{Fault}
use Rattle.tape_core.specs.declared.fault.Fault.TheVariants as fault
use Rattle.command_line.specs.declared.job.Job.{Job}
use Rattle.command_line.specs.declared.job.Job.TheVariants as jobs
use Rattle.tape_jobs.specs.declared.job.JobFault.{JobFault}
use Rattle.tape_jobs.specs.declared.job.JobFault.TheVariants as of_job
use Rattle.job_files.specs.Beginning.{is_compressed, is_empty, is_started, is_streams, is_typescript}
use Rattle.job_files.specs.declared.beginning.Beginning.{Beginning}
use Rattle.job_files.specs.declared.beginning.Beginnings.{Beginnings}
use Rattle.program.specs.declared.hints.Device.{Device}
use Rattle.program.specs.declared.hints.Hint.{Hint}
use Rattle.program.specs.declared.run.Stop.{Stop}
use Rattle.program.specs.declared.run.Stop.TheVariants as stop
use Rattle.command_line.specs.declared.words.WordsFault.TheVariants as words
use Rattle.program.specs.declared.hints.Hint.TheVariants as hint

-- the fault is one of the timing's first line (ours)
abbrev pub is_of_line_one : Fault → Bool
is_of_line_one (fault.BadDelay line) = line == 1
is_of_line_one (fault.BadCount line) = line == 1
is_of_line_one (fault.MultiStream line) = line == 1
is_of_line_one (fault.DelayTooLarge line) = line == 1
is_of_line_one (fault.ChunkTooLong line) = line == 1
is_of_line_one (fault.TooManyChunks line) = line == 1
is_of_line_one (fault.TooManyBytes line) = line == 1
is_of_line_one _ = false

-- the line begins with a letter: it is the first one that isn't blank, where the first field of all is a stream's (ours)
abbrev pub is_multi_stream : Fault → Bool
is_multi_stream (fault.MultiStream line) = true
is_multi_stream _ = false

-- after a fault of the pair: the typescript may be empty or without its header, the timing compressed, the two files
-- swapped, the timing in the multi-stream format; else mending keeps what can be read (ours)
abbrev pub hint_of_pair : Fault → Beginnings → Hint
hint_of_pair fault.NoHeader files = cond (is_empty files.script) hint.EmptyScript hint.Headless
hint_of_pair f files =
    cond (is_compressed files.timing) hint.Compressed
    (cond (is_of_line_one f && is_typescript files.timing) hint.Swapped
    (cond (is_multi_stream f && is_streams files.timing) hint.Streams hint.Mendable))

-- where a recording has no form that is known: it is a typescript, of which the timing is missing, or else which forms
-- are read; the one path of a search may be the timing of a pair, behind a typescript that was taken for the text (ours)
abbrev pub forms_in : Job → Hint
forms_in (jobs.Find from to player) = hint.FormsOrText
forms_in job = hint.Forms

abbrev pub hint_of_form : Job → Beginning → Hint
hint_of_form job recording = cond (is_started recording) hint.Untimed (forms_in job)

-- after the fault of this job: what wasn't read or written, what to do with the file that has no form that is read, that the
-- new files stay where an edit is refused; nothing, where memory is wanted (ours)
abbrev pub hint_after : Job → JobFault → Beginnings → Option Device → Option Hint
hint_after job (of_job.File fault.ReadFault) files failed = option_map (λ device. hint.Reading device) failed
hint_after job (of_job.File fault.WriteFault) files failed = option_map (λ device. hint.Writing device) failed
hint_after job (of_job.File fault.OutOfMemory) files failed = None
hint_after job (of_job.File f) files failed = Some (hint_of_pair f files)
hint_after job of_job.Compressed files failed = Some hint.Compressed
hint_after job of_job.NoKnownForm files failed = Some (hint_of_form job files.script)
hint_after job (of_job.Refused r) files failed = Some hint.Importable
hint_after job (of_job.Line line f) files failed = Some hint.Stay
hint_after job (of_job.Edit f) files failed = Some hint.Stay
hint_after job of_job.Memory files failed = None

-- where a pair was mended: where a file may be another one than it is taken for, it may be compressed; and a timing that
-- begins as a typescript does is no stream (ours)
abbrev pub hint_of_mend : Beginnings → Bool → Option Hint
hint_of_mend files doubtful =
    cond (doubtful && (is_compressed files.timing || is_compressed files.script)) (Some hint.Compressed)
    (cond (is_typescript files.timing) (Some hint.Swapped) None)

-- what wasn't read or written, where the hint tells it (ours)
abbrev pub device_of : Hint → Option Device
device_of (hint.Reading device) = Some device
device_of (hint.Writing device) = Some device
device_of _ = None

-- behind a job: a pair that was mended is no fault (ours)
abbrev pub hint_at_end : Job → Option JobFault → Beginnings → Option Device → Bool → Option Hint
hint_at_end job (Some f) files failed doubtful = hint_after job f files failed
hint_at_end (jobs.Mend header) None files failed doubtful = hint_of_mend files doubtful
hint_at_end job None files failed doubtful = None

-- where the program stops before a job (ours)
abbrev pub hint_of_stop : Stop → Option Hint
hint_of_stop (stop.Words words.BadSeconds) = Some hint.Seconds
hint_of_stop (stop.CannotOpen path error) = Some (hint.Reason error)
hint_of_stop (stop.CannotCreate path error) = Some (hint.Reason error)
hint_of_stop _ = None
