-- What a session answers to request lines.
use Rattle.std.specs.Prelude.{ℕ, ◌++◌, ◌||◌, Bool, true, false, List, [], ◌∷◌, Option, Some, None, is_some, codes}
use Rattle.tape_seek.specs.Edits.{edit_fault}
use Rattle.tape_seek.specs.Requests.{request}
use Rattle.tape_seek.specs.WrittenLog.{log_text}
use Rattle.tape_seek.specs.declared.edits.EditFault.{EditFault}
use Rattle.tape_seek.specs.declared.edits.EditFault.TheVariants as fault
use Rattle.tape_seek.specs.declared.requests.Request.{Request}
use Rattle.tape_seek.specs.declared.requests.Request.TheVariants as asks
use Rattle.tape_jobs.specs.Info.{info_line, info_text}
use Rattle.tape_jobs.specs.Moment.{plain_at, sent_at}
use Rattle.tape_jobs.specs.Player.{changes_of}
use Rattle.tape_jobs.specs.Requests.{Course, course_after, fault_name}

-- lines, and the one behind them that says that there are no more (ours)
abbrev pub ended : List ℕ → List ℕ
ended lines = lines ++ (codes "end" ++ 10 ∷ [])

-- the answer to a line that is refused (ours)
abbrev pub refusal : EditFault → List ℕ
refusal f = info_line (codes "refused ") (fault_name f)

-- the answer to an edit with this fault, or with none (ours)
abbrev pub edit_answer : Option EditFault → List ℕ
edit_answer None = codes "ok" ++ 10 ∷ []
edit_answer (Some f) = refusal f

-- the answer to a line, by what it asks for; none is a line of no known form (ours)
abbrev pub answer : Course → Option Request → List ℕ
answer course None = refusal fault.BadLine
answer course (Some asks.Nothing) = []
answer course (Some (asks.Edit edit)) = edit_answer (edit_fault course.tape edit)
answer course (Some (asks.Screen at)) = plain_at course.played course.tape at
answer course (Some (asks.Reports at)) = sent_at course.played course.tape at
answer course (Some (asks.Changes from to)) = ended (changes_of course.played course.tape from to)
answer course (Some asks.Info) = info_text course.tape
answer course (Some asks.Log) = ended (log_text course.log)

-- whether a line is refused: it is of no known form, or an edit with a fault (ours)
abbrev pub is_refused : Course → Option Request → Bool
is_refused course None = true
is_refused course (Some (asks.Edit edit)) = is_some (edit_fault course.tape edit)
is_refused course _ = false

-- the answers to lines, one after another (ours)
unfoldable pub answered : Course → List (List ℕ) → List ℕ
answered course [] = []
answered course (line ∷ rest) =
    answer course (request line) ++ answered (course_after course (request line)) rest

-- whether any of them is refused (ours)
unfoldable pub any_refused : Course → List (List ℕ) → Bool
any_refused course [] = false
any_refused course (line ∷ rest) =
    is_refused course (request line) || any_refused (course_after course (request line)) rest
