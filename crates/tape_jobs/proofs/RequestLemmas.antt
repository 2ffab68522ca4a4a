-- Edits from request lines, one line after another.
use Rattle.std.proofs.Common.{◌≡◌, ℕ, ◌+◌, List, [], ◌∷◌, Some, None, Ok, Err, ◌∙◌, ap}
use Rattle.tape_seek.specs.Requests.{request}
use Rattle.tape_seek.specs.declared.edits.EditFault.{EditFault}
use Rattle.tape_jobs.specs.Requests.{Course, course_after, edit_asked, refusal_of, saved, unless_refused}

-- after the last line
pub saved_all : (line : ℕ) (course : Course) (lines : List (List ℕ)) → lines ≡ []
    → saved line course lines ≡ Ok course.tape
unfolding saved
saved_all line course lines e = ap (saved line course) e

-- a line that isn't refused
pub saved_next : (line : ℕ) (course : Course) (lines rest : List (List ℕ)) (text : List ℕ) → lines ≡ text ∷ rest
    → refusal_of course.tape (edit_asked (request text)) ≡ None
    → saved line course lines ≡ saved (line + 1) (course_after course (request text)) rest
unfolding saved
saved_next line course lines rest text e none =
    ap (saved line course) e
    ∙ ap (λ o. unless_refused line o (saved (line + 1) (course_after course (request text)) rest)) none

-- the first line that is
pub saved_refused : (line : ℕ) (course : Course) (lines rest : List (List ℕ)) (text : List ℕ) (f : EditFault)
    → lines ≡ text ∷ rest → refusal_of course.tape (edit_asked (request text)) ≡ Some f
    → saved line course lines ≡ Err (line, f)
unfolding saved
saved_refused line course lines rest text f e some =
    ap (saved line course) e
    ∙ ap (λ o. unless_refused line o (saved (line + 1) (course_after course (request text)) rest)) some
