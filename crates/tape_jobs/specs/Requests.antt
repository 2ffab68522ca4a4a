-- What edits come to over a recording, from request lines or of a job's own, and why one is refused.
use Rattle.std.specs.Prelude.{◌≡◌, ℕ, ◌+◌, ◌++◌, List, [], ◌∷◌, Option, Some, None, Result, Ok, Err, codes}
use Rattle.tape_core.specs.Tape.{Tape}
use Rattle.tape_cut.specs.CutEdits.{first_fault}
use Rattle.tape_seek.specs.Edits.{edit_fault, edited, edited_all}
use Rattle.tape_seek.specs.Requests.{request}
use Rattle.tape_seek.specs.State.{StateOf}
use Rattle.tape_seek.specs.declared.edits.Edit.{Edit}
use Rattle.tape_seek.specs.declared.edits.EditFault.{EditFault}
use Rattle.tape_seek.specs.declared.edits.EditFault.TheVariants as fault
use Rattle.tape_seek.specs.declared.requests.Request.{Request}
use Rattle.tape_seek.specs.declared.requests.Request.TheVariants as asks
use Rattle.tape_jobs.specs.declared.job.JobFault.{JobFault}
use Rattle.tape_jobs.specs.declared.job.JobFault.TheVariants.{File, Compressed, NoKnownForm, Refused, Line, Memory}
use Rattle.tape_jobs.specs.declared.job.JobFault.TheVariants as of_job
use Rattle.tape_check.specs.declared.played.PlayedAs.{PlayedAs}

-- where request lines have led: which terminal plays, the recording as edited, and the accepted edits in order. It is a
-- session's state without what no answer depends on: the marks, and where terminals are stored (ours)
pub record Course : Type 0 where
  pub played : PlayedAs
  pub tape : Tape
  pub log : List Edit

-- before the first line (ours)
abbrev pub started : PlayedAs → Tape → Course
started played tape = record { played = played; tape = tape; log = [] }

-- Private: where a session stands, whose terminal plays so by its profile (ours)
abbrev pub course_of : {P : Type 0} → (P → PlayedAs) → StateOf P → Course
course_of played session =
    record { played = played session.profile; tape = session.recording; log = session.log }

-- an edit without a fault changes the recording and stands in the log; any other leaves both (ours)
abbrev pub after_judging : Course → Edit → Option EditFault → Course
after_judging course edit None =
    record course { tape = edited course.tape edit; log = course.log ++ edit ∷ [] }
after_judging course edit (Some f) = course

-- after what a line asks for; none is a line of no known form (ours)
abbrev pub course_after : Course → Option Request → Course
course_after course (Some (asks.Edit edit)) = after_judging course edit (edit_fault course.tape edit)
course_after course _ = course

-- the edit that `save` is asked for, if any: a line that asks for something else counts as one of no known form (ours)
abbrev pub edit_asked : Option Request → Result (Option Edit) EditFault
edit_asked (Some asks.Nothing) = Ok None
edit_asked (Some (asks.Edit edit)) = Ok (Some edit)
edit_asked _ = Err fault.BadLine

-- why it is refused, if it is (ours)
abbrev pub refusal_of : Tape → Result (Option Edit) EditFault → Option EditFault
refusal_of tape (Err f) = Some f
refusal_of tape (Ok None) = None
refusal_of tape (Ok (Some edit)) = edit_fault tape edit

-- what is left to do after a line, or that it is refused: its number, counted from 1 with the blank ones, and why
-- (ours)
abbrev pub unless_refused : ℕ → Option EditFault → Result Tape (ℕ × EditFault) → Result Tape (ℕ × EditFault)
unless_refused line None rest = rest
unless_refused line (Some f) rest = Err (line, f)

-- the recording that `save` saves, from a line of this number on, or which line is refused first and why (ours)
unfoldable pub saved : ℕ → Course → List (List ℕ) → Result Tape (ℕ × EditFault)
saved line course [] = Ok course.tape
saved line course (text ∷ rest) =
    unless_refused line (refusal_of course.tape (edit_asked (request text)))
    (saved (line + 1) (course_after course (request text)) rest)

-- Private: the fault of a job whose request lines aren't all done: the first that is refused, or want of memory (ours)
abbrev pub StopsEditing : Result Tape (ℕ × EditFault) → JobFault → Type 0
StopsEditing saving (File f) = ⊥
StopsEditing saving Compressed = ⊥
StopsEditing saving NoKnownForm = ⊥
StopsEditing saving (Refused r) = ⊥
StopsEditing saving (Line line f) = saving ≡ Err (line, f)
StopsEditing saving (of_job.Edit f) = ⊥
StopsEditing saving Memory = Unit {0}

-- the recording that edits make, where none of them has a fault, or the first fault (ours)
abbrev pub unless_faulty : Option EditFault → Tape → Result Tape EditFault
unless_faulty None tape = Ok tape
unless_faulty (Some f) tape = Err f

-- what edits make of a recording that are made one after another, or why the first is refused that has a fault (ours)
abbrev pub made_by : List Edit → Tape → Result Tape EditFault
made_by edits tape = unless_faulty (first_fault tape edits) (edited_all tape edits)

-- Private: the fault of a job whose own edits aren't all made: that of the first that is refused, or want of memory (ours)
abbrev pub StopsMaking : Result Tape EditFault → JobFault → Type 0
StopsMaking making (File f) = ⊥
StopsMaking making Compressed = ⊥
StopsMaking making NoKnownForm = ⊥
StopsMaking making (Refused r) = ⊥
StopsMaking making (Line line f) = ⊥
StopsMaking making (of_job.Edit f) = making ≡ Err f
StopsMaking making Memory = Unit {0}

-- the code and the name of a fault (ours)
unfoldable pub fault_name : EditFault → List ℕ
fault_name fault.NoSuchChunk = codes "E1 NoSuchChunk"
fault_name fault.DelayTooLarge = codes "E2 DelayTooLarge"
fault_name fault.ChunkTooLong = codes "E3 ChunkTooLong"
fault_name fault.TooManyChunks = codes "E4 TooManyChunks"
fault_name fault.TooManyBytes = codes "E5 TooManyBytes"
fault_name fault.BadRange = codes "E6 BadRange"
fault_name fault.OutOfMemory = codes "E7 OutOfMemory"
fault_name fault.BadLine = codes "E8 BadLine"
