-- The note that a job tells beside its output, where it plays a recording that wasn't made for this terminal (ours).
use Rattle.std.specs.Prelude.{◌≡◌, ℕ, ◌⊎◌, Bool, true, false, List, Option, Some, None}
use Rattle.tape_check.specs.Lines.{note_line}
use Rattle.tape_core.specs.Devices.{Took, TookPart, is_flushed}
use Rattle.tape_core.specs.Tape.{Tape}
use Rattle.tape_core.specs.declared.devices.Watched.{Watched}
use Rattle.tape_core.specs.declared.fault.Fault.{Fault}
use Rattle.tape_core.specs.declared.fault.Fault.TheVariants as fault
use Rattle.tape_jobs.specs.Endings.{AsksNothing, Device, HoldFiles, Readers}
use Rattle.tape_jobs.specs.Output.{Files, ReadsAs}
use Rattle.tape_jobs.specs.Player.{played_of}
use Rattle.command_line.specs.CommandLine.{played_by}
use Rattle.command_line.specs.declared.job.Job.{Job}
use Rattle.tape_jobs.specs.declared.job.JobFault.{JobFault}
use Rattle.tape_jobs.specs.declared.job.JobFault.TheVariants.{Compressed, File, NoKnownForm, Refused}
use Rattle.command_line.specs.declared.player.Player.{Player}

-- whether a recording was read: of the faults of files, only a write fault comes behind that, and none of those of a
-- recording of another form (ours)
abbrev pub is_write_fault : Fault → Bool
is_write_fault fault.WriteFault = true
is_write_fault _ = false

abbrev pub was_read : Option JobFault → Bool
was_read (Some (File f)) = is_write_fault f
was_read (Some Compressed) = false
was_read (Some NoKnownForm) = false
was_read (Some (Refused r)) = false
was_read _ = true

-- the writer has taken the note whole and was flushed, or has failed in it (ours)
abbrev pub IsTold : {N : Type 0} → (N → Option (List ℕ)) → Watched N → Watched N → List ℕ → Type 0
IsTold contents old new note =
    (Took contents old new note × (is_flushed new ≡ true)) ⊎ TookPart contents old new note true

-- what became of the note of a run: it was told where the job plays the recording that was read, and else the writer
-- was asked for nothing. How the run ends says nothing of it, so a note changes neither outcome nor output (ours)
pub record NoteEnds {S T R N : Type 0} (readers : Readers S T R) (notes : Device N) (job : Job)
    (f : Option JobFault) : Type 0 where
  pub told : was_read f ≡ true → (player : Player) → played_by job ≡ Some player
      → (files : Files) → HoldFiles readers job files
      → (tape : Tape) × (resizes : ℕ) × ReadsAs files tape resizes
      × IsTold notes.bytes notes.old notes.new (note_line (played_of player tape) resizes tape)
  pub silent : played_by job ≡ None → AsksNothing notes
  pub unread : was_read f ≡ false → AsksNothing notes
