-- The answers to request lines, one line after another.
use Rattle.std.proofs.Common.{◌≡◌, ℕ, ◌++◌, ◌||◌, Bool, false, List, [], ◌∷◌, Option, ap, append_assoc, append-nil, refl, sym, ◌∙◌, subst}
use Rattle.std.proofs.Math.Bool.{or-false, or_assoc}
use Rattle.tape_core.specs.declared.devices.Watched.{Watched}
use Rattle.tape_core.proofs.GaveLemmas.{gave_none, gave_took}
use Rattle.tape_core.specs.Devices.{Took, has_failed}
use Rattle.tape_seek.specs.Requests.{request}
use Rattle.tape_jobs.specs.Requests.{Course, course_after}
use Rattle.tape_jobs.specs.Session.{answer, answered, any_refused, is_refused}

-- lines were answered: the text that went out, whether any was refused, and the rest decides the rest
pub record AnsweredBefore {T : Type 0} (contents : T → Option (List ℕ)) (old new : Watched T)
    (first : Course) (lines : List (List ℕ)) (course : Course) (rest : List (List ℕ)) (refused : Bool) : Type 0 where
  pub text : List ℕ
  pub took : Took contents old new text
  pub cut : answered first lines ≡ text ++ answered course rest
  pub refusals : any_refused first lines ≡ (refused || any_refused course rest)

-- none was answered yet
pub nothing_answered : {T : Type 0} (contents : T → Option (List ℕ)) (a : Watched T) (course : Course) (lines : List (List ℕ))
    → has_failed a ≡ false → AnsweredBefore contents a a course lines course lines false
nothing_answered contents a course lines sound = record {
  text = [];
  took = gave_took contents a a [] sound (gave_none contents a);
  cut = refl;
  refusals = refl;
}

-- the answers to a line and those behind it
pub answered_next : (course : Course) (lines rest : List (List ℕ)) (line : List ℕ) → lines ≡ line ∷ rest
    → answered course lines ≡ answer course (request line) ++ answered (course_after course (request line)) rest
unfolding answered
answered_next course lines rest line e = ap (answered course) e

refused_next : (course : Course) (lines rest : List (List ℕ)) (line : List ℕ) → lines ≡ line ∷ rest
    → any_refused course lines ≡ (is_refused course (request line) || any_refused (course_after course (request line)) rest)
unfolding any_refused
refused_next course lines rest line e = ap (any_refused course) e

answered_none : (course : Course) (lines : List (List ℕ)) → lines ≡ [] → answered course lines ≡ []
unfolding answered
answered_none course lines e = ap (answered course) e

refused_none : (course : Course) (lines : List (List ℕ)) → lines ≡ [] → any_refused course lines ≡ false
unfolding any_refused
refused_none course lines e = ap (any_refused course) e

module _ {T : Type 0} {contents : T → Option (List ℕ)} {old now : Watched T} {first course : Course}
    {lines rest : List (List ℕ)} {refused : Bool} where
  -- what went out by the last line
  pub answered_all : AnsweredBefore contents old now first lines course rest refused → rest ≡ []
      → Took contents old now (answered first lines)
  answered_all before none =
      subst (λ t. Took contents old now t)
      (sym (before.cut ∙ ap (λ t. before.text ++ t) (answered_none course rest none) ∙ append-nil before.text)) before.took

  pub refused_all : AnsweredBefore contents old now first lines course rest refused → rest ≡ []
      → refused ≡ any_refused first lines
  refused_all before none =
      sym (before.refusals ∙ ap (λ r. refused || r) (refused_none course rest none) ∙ or-false refused)

  -- one line more
  pub answered_more : (new : Watched T) (left : List (List ℕ)) (line : List ℕ) (after : Course) (is : Bool)
      → AnsweredBefore contents old now first lines course rest refused → rest ≡ line ∷ left
      → after ≡ course_after course (request line) → is ≡ is_refused course (request line)
      → ((x : List ℕ) → Took contents old now x → Took contents old new (x ++ answer course (request line)))
      → AnsweredBefore contents old new first lines after left (refused || is)
  answered_more new left line after is before e course_is refused_is took = record {
    text = before.text ++ answer course (request line);
    took = took before.text before.took;
    cut = before.cut ∙ ap (λ t. before.text ++ t) (answered_next course rest left line e)
        ∙ sym (append_assoc before.text (answer course (request line)) (answered (course_after course (request line)) left))
        ∙ ap (λ c. (before.text ++ answer course (request line)) ++ answered c left) (sym course_is);
    refusals = before.refusals ∙ ap (λ r. refused || r) (refused_next course rest left line e)
        ∙ sym (or_assoc refused (is_refused course (request line)) (any_refused (course_after course (request line)) left))
        ∙ ap (λ r. (refused || r) || any_refused (course_after course (request line)) left) (sym refused_is)
        ∙ ap (λ c. (refused || is) || any_refused c left) (sym course_is);
  }

  -- the answers, where the next one is the first of those that are left
  pub answers_left : (left : List (List ℕ)) (line : List ℕ) (before : AnsweredBefore contents old now first lines course rest refused)
      → rest ≡ line ∷ left
      → answered first lines ≡ before.text ++ (answer course (request line) ++ answered (course_after course (request line)) left)
  answers_left left line before e = before.cut ∙ ap (λ t. before.text ++ t) (answered_next course rest left line e)
