-- Which faults of a job come once its recording was read.
use Rattle.std.proofs.Common.{◌≡◌, ℕ, Bool, true, false, true≢false, List, refl, ap, sym, ◌∙◌, inl, inr, Option, Some, None, Result, Ok, Err}
use Rattle.tape_core.specs.Tape.{Tape}
use Rattle.tape_core.specs.Text.{lines_of}
use Rattle.tape_seek.specs.declared.edits.EditFault.{EditFault}
use Rattle.tape_jobs.specs.Endings.{JobEnds, Writers}
use Rattle.tape_jobs.specs.Notes.{was_read}
use Rattle.tape_jobs.specs.Output.{Done, done_editing, done_on, done_saving, edits_of_cut, edits_of_excerpt, outcome_in, refused_in, refused_with}
use Rattle.tape_jobs.specs.Requests.{made_by, saved, started}
use Rattle.tape_jobs.specs.declared.job.Ending.{Ending}
use Rattle.command_line.specs.declared.job.Job.{Job}
use Rattle.command_line.specs.declared.job.Job.TheVariants as jobs
use Rattle.tape_jobs.specs.declared.job.JobFault.{JobFault}
use Rattle.tape_jobs.specs.declared.job.JobFault.TheVariants.{Edit, Line}
use Rattle.tape_check.specs.declared.played.PlayedAs.TheVariants.{Vt}
use Rattle.vt_term.specs.declared.profile.Profile.TheVariants.{Vt100}

none_some : {X : Type 0} (x : X) (o : Option X) → o ≡ None → o ≡ Some x → ⊥
none_some x o e f = absurd (cc)

unfaulted_done : (job : Job) (done : Done) (g : JobFault) → done.outcome.fault ≡ None → done ≡ refused_in job g → ⊥
unfaulted_done job done g none e = none_some g done.outcome.fault none (ap (λ (d : Done). d.outcome.fault) e)

unread_line : (line : ℕ) (f : EditFault) (g : JobFault) → Some (Line line f) ≡ Some g → was_read (Some g) ≡ false → ⊥
unread_line line f g same unread = true≢false (ap was_read same ∙ unread)

unread_edit : (f : EditFault) (g : JobFault) → Some (Edit f) ≡ Some g → was_read (Some g) ≡ false → ⊥
unread_edit f g same unread = true≢false (ap was_read same ∙ unread)

unfaulted_edits : (making : Result Tape EditFault) (g : JobFault) → was_read (Some g) ≡ false
    → done_editing making ≡ refused_with g → ⊥
unfaulted_edits (Ok tape) g unread e = unfaulted_done jobs.Save (done_editing (Ok tape)) g refl e
unfaulted_edits (Err f) g unread e = unread_edit f g (ap (λ (d : Done). d.outcome.fault) e) unread

unfaulted_save : (saving : Result Tape (ℕ × EditFault)) (g : JobFault) → was_read (Some g) ≡ false
    → done_saving saving ≡ refused_with g → ⊥
unfaulted_save (Ok tape) g unread e = unfaulted_done jobs.Save (done_saving (Ok tape)) g refl e
unfaulted_save (Err refused) g unread e = unread_line refused.0 refused.1 g (ap (λ (d : Done). d.outcome.fault) e) unread

-- on a recording that was read no job has a fault of the files
unfaulted : (job : Job) (tape : Tape) (resizes : ℕ) (lines text : List ℕ) (g : JobFault) → was_read (Some g) ≡ false
    → done_on job tape resizes lines text ≡ refused_in job g → ⊥
unfaulted jobs.Save tape resizes lines text g unread e =
    unfaulted_save (saved 1 (started (Vt Vt100) tape) (lines_of lines)) g unread e
unfaulted (jobs.Cut from to player) tape resizes lines text g unread e =
    unfaulted_edits (made_by (edits_of_cut from to player tape) tape) g unread e
unfaulted (jobs.Excerpt from to player) tape resizes lines text g unread e =
    unfaulted_edits (made_by (edits_of_excerpt from to player tape) tape) g unread e
unfaulted job tape resizes lines text g unread e = unfaulted_done job (done_on job tape resizes lines text) g refl e

true_unless : (b : Bool) → (b ≡ false → ⊥) → b ≡ true
true_unless true h = refl
true_unless false h = absurd (h refl)

module _ (job : Job) (tape : Tape) (resizes : ℕ) (lines text : List ℕ) where
  refused_after : (f : JobFault) → done_on job tape resizes lines text ≡ refused_in job f → was_read (Some f) ≡ true
  refused_after f same = true_unless (was_read (Some f)) (λ unread. unfaulted job tape resizes lines text f unread same)

  -- so however a job on it ends, it was read
  pub ended_after : {O P : Type 0} (writers : Writers O P) (r : Result Ending JobFault)
      → JobEnds writers job (done_on job tape resizes lines text) r → was_read (outcome_in job r).fault ≡ true
  ended_after writers (Ok ending) done = refl
  ended_after writers (Err f) ends = elim ends [
    | inl (e, wants) ↦ ap (λ x. was_read (Some x)) e
    | inr later ↦ elim later [
      | inl (e, stopped) ↦ ap (λ x. was_read (Some x)) e
      | inr (unstopped, same, unwritten) ↦ refused_after f same
    ]
  ]
