-- A search that finds nothing.
use Rattle.std.proofs.Common.{◌≡◌, ℕ, Bool, true, false, List, [], length, Option, None, Some, MatchOption, refl, ap, sym, ◌∙◌, subst, arith}
use Rattle.std.proofs.lemmas.Bool.{ltb-false}
use Rattle.std.proofs.lemmas.List.{nil_from_length}
use Rattle.screen_print.specs.EachByte.{has_ink}
use Rattle.tape_core.specs.Tape.{Tape}
use Rattle.tape_jobs.specs.Endings.{NothingIsNowhere, Readers, RunEnds, Writers}
use Rattle.tape_jobs.specs.Player.{NowhereFor, NowhereMeansNowhere, found_of, played_of}
use Rattle.tape_jobs.specs.Output.{Comes, Done, Files, ReadsAs, done_on, ending_of_find, fault_from, is_some_text, refused_in, status_after}
use Rattle.command_line.specs.declared.job.Job.{Job}
use Rattle.command_line.specs.declared.job.Job.TheVariants.{Find}
use Rattle.command_line.specs.declared.player.Player.{Player}
use Rattle.tape_jobs.specs.declared.job.JobFault.{JobFault}
use Rattle.tape_jobs.specs.declared.job.Outcome.{Outcome}

found_nothing : (found : Bool) → status_after (ending_of_find found) ≡ 1 → found ≡ false
found_nothing true e = absurd (cc)
found_nothing false e = refl

-- a text without a byte
pub no_text : (text : List ℕ) → is_some_text text ≡ false → text ≡ []
no_text text e = let few = ltb-false 0 (length text) e in nil_from_length text (omega (arith, few))

module _ (law : NowhereMeansNowhere) (player : Player) (from : Option ℕ) (to : ℕ) where
  -- what it comes to, by whether the pair of files has a fault
  nowhere_in : (files : Files) (done : Done) (fault : Option JobFault) → has_ink files.text ≡ true
      → MatchOption fault
      ((tape : Tape) × (resizes : ℕ) × ReadsAs files tape resizes
      × (done ≡ done_on (Find from to player) tape resizes files.requests files.text))
      (λ f. done ≡ refused_in (Find from to player) f)
      → done.outcome.fault ≡ None → done.outcome.status ≡ 1
      → (tape : Tape) × (resizes : ℕ) × ReadsAs files tape resizes
      × NowhereFor (played_of player tape) tape from to files.text
  nowhere_in files done (Some f) ink comes none status =
      let is : done.outcome.fault ≡ Some f = ap (λ (d : Done). d.outcome.fault) comes in
      absurd (cc)
  nowhere_in files done None ink comes none status =
      let tape = comes.0 in
      let lines = found_of (played_of player tape) tape from to files.text in
      let is : status_after (ending_of_find (is_some_text lines)) ≡ 1 = sym (ap (λ (d : Done). d.outcome.status) comes.3) ∙ status in
      (tape, comes.1, comes.2, law player tape tape from to files.text ink (no_text lines (found_nothing (is_some_text lines) is)))

pub nothing_is_nowhere : NowhereMeansNowhere → {S T R O P : Type 0} (readers : Readers S T R) (writers : Writers O P) (job : Job)
    (outcome : Outcome) → RunEnds readers writers job outcome → NothingIsNowhere readers job outcome
nothing_is_nowhere law readers writers job outcome ends = λ player from to is ink none status files held.
    let come = (ends.done none).0.comes files held in
    let done = come.0 in
    let comes = subst (λ (j : Job). Comes j files done) is come.1 in
    let same : outcome ≡ done.outcome = come.2.0 in
    let stands = nowhere_in law player from to files done (fault_from files.source files.script files.timing) (ap has_ink held.text ∙ ink) comes
    (sym (ap (λ (o : Outcome). o.fault) same) ∙ none) (sym (ap (λ (o : Outcome). o.status) same) ∙ status) in
    (stands.0, stands.1, stands.2, subst (NowhereFor (played_of player stands.0) stands.0 from to) held.text stands.3)
