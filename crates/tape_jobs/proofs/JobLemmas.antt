-- What a job comes to, and how a run of it ends.
use Rattle.std.proofs.Common.{◌≡◌, ◌≢◌, ◌⊎◌, ℕ, Bool, true, false, List, [], ◌++◌, refl, sym, ap, ◌∙◌, subst, inl, inr, not, Option, Some, None, MatchOption, Result, Ok, Err, true≢false, if◌then◌else◌}
use Rattle.tape_core.proofs.DeviceLemmas.{stopped-append, stopped_before}
use Rattle.tape_core.proofs.GaveLemmas.{gave_early, gave_none, gave_took}
use Rattle.tape_core.specs.Devices.{Took, TookPart, has_failed, is_flushed}
use Rattle.tape_core.specs.declared.devices.Watched.{Watched}
use Rattle.tape_core.specs.Faults.{is_stop}
use Rattle.std.specs.Option.{option_map}
use Rattle.tape_import.specs.Imported.{Import}
use Rattle.tape_import.specs.ImportedFile.{import_of}
use Rattle.tape_import.specs.Refusal.{IsWhole, refusal_of}
use Rattle.tape_import.specs.declared.fault.ImportFault.{ImportFault}
use Rattle.command_line.specs.declared.player.Source.{Source}
use Rattle.command_line.specs.declared.player.Source.TheVariants.{Pair}
use Rattle.command_line.specs.declared.player.Source.TheVariants as stands
use Rattle.tape_core.specs.Tape.{Tape}
use Rattle.tape_core.specs.declared.fault.Fault.{Fault}
use Rattle.tape_core.specs.declared.fault.Fault.TheVariants.{OutOfMemory, ReadFault, WriteFault}
use Rattle.tape_jobs.specs.Endings.{AreRead, AreSound, AsksNothing, HasFailed, HoldFiles, IsDone, IsUndone, IsUnwritten, JobEnds, OnFiles, Readers, RunEnds, StopsIn, TookBoth, TookPartOfBoth, WantsMemory, Writers}
use Rattle.tape_jobs.specs.Output.{Comes, ComesBy, Done, Files, IsDoneStatus, ReadsAs, ReadsFrom, answers_by_status, done_on, done_with, fault_from, fault_of_refusal, is_stopped, outcome_in, refused_in, remakes, takes_requests, writes_timing}
use Rattle.tape_jobs.specs.Output.{Remade}
use Rattle.tape_jobs.specs.declared.job.Ending.{Ending}
use Rattle.tape_jobs.specs.declared.job.Ending.TheVariants.{Clean}
use Rattle.command_line.specs.declared.job.Job.{Job}
use Rattle.command_line.specs.declared.job.Job.TheVariants as jobs
use Rattle.tape_jobs.specs.declared.job.JobFault.{JobFault}
use Rattle.tape_jobs.specs.declared.job.JobFault.TheVariants.{File, Compressed, NoKnownForm, Refused, Line, Edit, Memory}

-- nothing of a text has gone out yet
pub part_none : {T : Type 0} (contents : T → Option (List ℕ)) (a : Watched T) (text : List ℕ) → has_failed a ≡ false
    → TookPart contents a a text false
part_none contents a text sound = gave_early contents a a text [] text false refl sound (gave_none contents a)

-- a job that stops in the first of two texts, and one that stops in the second
pub stops_first : {T : Type 0} (contents : T → Option (List ℕ)) (a b : Watched T) (x y : List ℕ) (f : JobFault)
    → StopsIn contents a b x f → StopsIn contents a b (x ++ y) f
stops_first contents a b x y f (inl (m, began)) = inl (m, stopped_before y began)
stops_first contents a b x y f (inr (w, stopped)) = inr (w, stopped_before y stopped)

pub stops_second : {T : Type 0} (contents : T → Option (List ℕ)) (a b c : Watched T) (x y : List ℕ) (f : JobFault)
    → StopsIn contents b c y f → Took contents a b x → StopsIn contents a c (x ++ y) f
stops_second contents a b c x y f (inl (m, began)) took = inl (m, stopped-append took began)
stops_second contents a b c x y f (inr (w, stopped)) took = inr (w, stopped-append took stopped)

-- a writer that wasn't asked for anything has taken all of a text of nothing
pub whole_none : {T : Type 0} (contents : T → Option (List ℕ)) (a : Watched T) (text : List ℕ) → has_failed a ≡ false
    → text ≡ [] → Took contents a a text
whole_none contents a text sound none = subst (Took contents a a) (sym none) (gave_took contents a a [] sound (gave_none contents a))

-- a job that writes one text alone is done where that is whole and flushed
pub clean_done : {O P : Type 0} (writers : Writers O P) (job : Job) (done : Done) (text : List ℕ) (new : Watched O)
    → Took writers.out.bytes writers.out.old new text → is_flushed new ≡ true → writers.out.new ≡ new
    → done ≡ done_with text [] → IsDoneStatus job 0 → writes_timing job ≡ false
    → has_failed writers.out_timing.old ≡ false → writers.out_timing.new ≡ writers.out_timing.old
    → IsDone writers job done Clean
clean_done {O} {P} writers job done text new took flushed same is status alone sound stays = record {
  outcome = ap (λ (d : Done). d.outcome) is;
  status = status;
  wrote = record {
    text = subst (λ (t : List ℕ). Took writers.out.bytes writers.out.old writers.out.new t) (sym (ap (λ (d : Done). d.text) is))
        (subst (λ (w : Watched O). Took writers.out.bytes writers.out.old w text) (sym same) took);
    timing = subst (λ (w : Watched P). Took writers.out_timing.bytes writers.out_timing.old w done.timing) (sym stays)
        (whole_none writers.out_timing.bytes writers.out_timing.old done.timing sound (ap (λ (d : Done). d.timing) is));
  };
  flushed = ap is_flushed same ∙ flushed;
  flushed_timing = λ wrote. absurd (true≢false (sym wrote ∙ alone));
}

-- what a job comes to that reads a recording, and what one comes to that doesn't
pub comes_by : (job : Job) (files : Files) (done : Done) (o : Option Remade) → remakes job ≡ o → ComesBy o job files done
    → Comes job files done
comes_by job files done o e comes = subst (λ x. ComesBy x job files done) (sym e) comes

-- files with a fault
pub comes_refused : (job : Job) (files : Files) (f : JobFault) → remakes job ≡ None
    → fault_from files.source files.script files.timing ≡ Some f → Comes job files (refused_in job f)
comes_refused job files f reading e =
    comes_by job files (refused_in job f) None reading (subst (λ o. MatchOption o
    ((tape : Tape) × (resizes : ℕ) × ReadsAs files tape resizes
    × (refused_in job f ≡ done_on job tape resizes files.requests files.text))
    (λ g. refused_in job f ≡ refused_in job g)) (sym e) refl)

-- what is read has no fault
whole_unrefused : (read : Result Import ImportFault) (tape : Tape) (resizes : ℕ) → IsWhole read tape resizes
    → refusal_of read ≡ None
whole_unrefused (Ok what) tape resizes h = h.whole
whole_unrefused (Err f) tape resizes h = absurd h

unfaulted_from : (source : Source) (script timing : List ℕ) (tape : Tape) (resizes : ℕ)
    → ReadsFrom source script timing tape resizes → fault_from source script timing ≡ None
unfaulted_from Pair script timing tape resizes h = ap (option_map (λ f. File f)) h.0.faultless
unfaulted_from stands.Recording script timing tape resizes h =
    ap (option_map fault_of_refusal) (whole_unrefused (import_of script) tape resizes h)

-- files that are read
comes_done : (job : Job) (files : Files) (tape : Tape) (resizes : ℕ) → remakes job ≡ None → ReadsAs files tape resizes
    → Comes job files (done_on job tape resizes files.requests files.text)
comes_done job files tape resizes reading h =
    let done = done_on job tape resizes files.requests files.text in
    comes_by job files done None reading (subst (λ o. MatchOption o
    ((other : Tape) × (count : ℕ) × ReadsAs files other count × (done ≡ done_on job other count files.requests files.text))
    (λ g. done ≡ refused_in job g))
    (sym (unfaulted_from files.source files.script files.timing tape resizes h)) (tape, resizes, h, refl))

-- where a job takes no request lines, it comes to the same whatever they are
same_lines : (job : Job) (tape : Tape) (resizes : ℕ) (one other text : List ℕ) → (takes_requests job ≡ true → one ≡ other)
    → done_on job tape resizes one text ≡ done_on job tape resizes other text
same_lines jobs.Save tape resizes one other text same = ap (λ r. done_on jobs.Save tape resizes r text) (same refl)
same_lines (jobs.Session every player) tape resizes one other text same =
    ap (λ r. done_on (jobs.Session every player) tape resizes r text) (same refl)
same_lines job tape resizes one other text same = refl

-- and beside the same text
same_done : (job : Job) (tape : Tape) (resizes : ℕ) (one other text same_text : List ℕ)
    → (takes_requests job ≡ true → one ≡ other) → same_text ≡ text
    → done_on job tape resizes one text ≡ done_on job tape resizes other same_text
same_done job tape resizes one other text same_text same e =
    same_lines job tape resizes one other text same ∙ ap (done_on job tape resizes other) (sym e)

-- what a job comes to on the recording that was read
pub comes_read : {S T R : Type 0} {readers : Readers S T R} {job : Job} (tape : Tape) (resizes : ℕ) (lines : List ℕ)
    → remakes job ≡ None → (files : Files) → HoldFiles readers job files
    → ReadsAs files tape resizes × (takes_requests job ≡ true → lines ≡ files.requests)
    → Comes job files (done_on job tape resizes lines readers.text)
comes_read {readers = readers} {job = job} tape resizes lines reading files held known =
    subst (Comes job files)
    (sym (same_done job tape resizes lines files.requests readers.text files.text known.1 held.text))
    (comes_done job files tape resizes reading known.0)

-- files that stand so, by what the readers have to tell
pub read_so : (files : Files) (source : Source) (tape : Tape) (resizes : ℕ) → files.source ≡ source
    → ReadsFrom source files.script files.timing tape resizes → ReadsAs files tape resizes
read_so files source tape resizes e h = subst (λ s. ReadsFrom s files.script files.timing tape resizes) (sym e) h

pub fault_so : (files : Files) (source : Source) (f : JobFault) → files.source ≡ source
    → fault_from source files.script files.timing ≡ Some f → fault_from files.source files.script files.timing ≡ Some f
fault_so files source f e h = ap (λ s. fault_from s files.script files.timing) e ∙ h

pub is_not : (b : Bool) → not b ≡ true → b ≡ false
is_not true e = absurd (cc)
is_not false e = refl

-- a fault that stops a job refuses nothing
pub stops : (f g : JobFault) → is_stopped (Some g) ≡ true → f ≡ g → is_stopped (Some f) ≡ false → ⊥
stops f g stop same unstopped = true≢false (sym stop ∙ ap (λ x. is_stopped (Some x)) (sym same) ∙ unstopped)

-- the status of a fault that doesn't
refused_outcome : (job : Job) (f : JobFault) → is_stopped (Some f) ≡ false → outcome_in job (Err f) ≡ (refused_in job f).outcome
refused_outcome job (File f) e =
    ap (λ b. record { status = if answers_by_status job then 3 else (if b then 3 else 1); fault = Some (File f) }) e
refused_outcome job Compressed e = refl
refused_outcome job NoKnownForm e = refl
refused_outcome job (Refused r) e = refl
refused_outcome job (Line line f) e = refl
refused_outcome job (Edit f) e = refl
refused_outcome job Memory e = absurd (cc)

-- the writers of a job, before it writes
pub record IsBefore {O P : Type 0} (writers : Writers O P) : Type 0 where
  pub nothing : Took writers.out.bytes writers.out.old writers.out.old []
  pub nothing_timing : Took writers.out_timing.bytes writers.out_timing.old writers.out_timing.old []

module _ {O P : Type 0} {writers : Writers O P} (before : IsBefore writers) where
  -- where nothing was written
  took_none : IsUnwritten writers → (job : Job) (f : JobFault) → TookBoth writers (refused_in job f)
  took_none unwritten job f = record {
    text = subst (λ x. Took writers.out.bytes writers.out.old x []) (sym unwritten.0) before.nothing;
    timing = subst (λ x. Took writers.out_timing.bytes writers.out_timing.old x []) (sym unwritten.1) before.nothing_timing;
  }

  both_sound : IsUnwritten writers → AreSound writers
  both_sound unwritten = ((took_none unwritten jobs.Info Memory).text.sound, (took_none unwritten jobs.Info Memory).timing.sound)

module _ {S T R O P : Type 0} {readers : Readers S T R} {writers : Writers O P} {job : Job} (before : IsBefore writers) where
  -- a job that is given nothing to work on
  pub ends_ungiven : (f : JobFault)
      → (is_stopped (Some f) ≡ false → (files : Files) → HoldFiles readers job files → Comes job files (refused_in job f))
      → (f ≢ File ReadFault → AreRead readers)
      → (f ≡ File ReadFault → HasFailed readers.script ⊎ (HasFailed readers.timing ⊎ HasFailed readers.requests))
      → f ≢ File WriteFault → f ≢ Memory
      → (takes_requests job ≡ false → AsksNothing readers.requests) → IsUnwritten writers
      → RunEnds readers writers job (outcome_in job (Err f))
  ends_ungiven f comes read failed other begun alone unwritten = record {
    done = λ e. absurd (cc);
    refused = λ e.
        let unstopped = is_not _ e in (
          record {
            read = read (λ r. stops f (File ReadFault) refl r unstopped);
            written = both_sound before unwritten;
            comes = λ files held. (
              refused_in job f,
              comes unstopped files held,
              (refused_outcome job f unstopped, took_none before unwritten job f),
            );
          },
          unwritten,
        );
    memory = λ m. record {
      read = read (λ r. elim m [
        | inl e ↦ cc
        | inr e ↦ cc
      ]);
      written = both_sound before unwritten;
      reading = λ _. unwritten;
      takes = λ e. absurd (begun (cc));
      begun = λ e. absurd (begun (cc));
      unwritten = λ e. absurd (begun (cc));
    };
    device = λ d. record {
      reader = λ e. failed (cc);
      unwritten = λ _. unwritten;
      writer = λ e. absurd (other (cc));
      stopped = λ e. absurd (other (cc));
    };
    status = refl;
    requests = alone;
    out_timing = λ _. unwritten.1;
  }

  -- a job whose files aren't read
  pub ends_unread : (f : Fault)
      → (is_stop f ≡ false → (files : Files) → HoldFiles readers job files → Comes job files (refused_in job (File f)))
      → (f ≢ ReadFault → AreRead readers)
      → (f ≡ ReadFault → HasFailed readers.script ⊎ (HasFailed readers.timing ⊎ HasFailed readers.requests))
      → f ≢ WriteFault
      → (takes_requests job ≡ false → AsksNothing readers.requests) → IsUnwritten writers
      → RunEnds readers writers job (outcome_in job (Err (File f)))
  ends_unread f comes read failed other =
      ends_ungiven (File f) comes (λ unlike. read (λ e. unlike (ap (λ g. File g) e))) (λ e. failed (cc)) (λ e. other (cc))
      (λ e. absurd (cc))

  -- a job whose files were read, which comes to this on them
  module _ (done : Done) (comes : (files : Files) → HoldFiles readers job files → Comes job files done)
      (read : AreRead readers) (alone : takes_requests job ≡ false → AsksNothing readers.requests)
      (alone_timing : writes_timing job ≡ false → AsksNothing writers.out_timing) where
    on_files : {Is : Done → Type 0} → Is done → OnFiles readers job Is
    on_files {Is} is = λ files held. (done, comes files held, is)

    ends_done : (ending : Ending) → IsDone writers job done ending
        → RunEnds readers writers job (outcome_in job (Ok ending))
    ends_done ending is = record {
      done = λ _. (
        record { read = read; written = (is.wrote.text.sound, is.wrote.timing.sound); comes = on_files (sym is.outcome, is.wrote) },
        (is.flushed, is.flushed_timing),
      );
      refused = λ e. absurd (cc);
      memory = λ m. elim m [
        | inl e ↦ absurd (cc)
        | inr e ↦ absurd (cc)
      ];
      device = λ d. elim d [
        | inl e ↦ absurd (cc)
        | inr e ↦ absurd (cc)
      ];
      status = is.status;
      requests = alone;
      out_timing = alone_timing;
    }

    begun_sound : TookPartOfBoth writers done false → AreSound writers
    begun_sound begun = elim begun [
      | inl (first, stays) ↦ (first.failing, subst (λ x. has_failed x ≡ false) (sym stays) before.nothing_timing.sound)
      | inr (whole, second) ↦ (whole.sound, second.failing)
    ]

    ends_for_memory : WantsMemory writers job done
        → RunEnds readers writers job (outcome_in job (Err Memory))
    ends_for_memory wants = record {
      done = λ e. absurd (cc);
      refused = λ e. absurd (cc);
      memory = λ m. record {
        read = read;
        written = begun_sound wants.begun;
        reading = λ e. absurd (cc);
        takes = λ _. wants.takes;
        begun = λ _. on_files wants.begun;
        unwritten = λ _. wants.unwritten;
      };
      device = λ d. elim d [
        | inl e ↦ absurd (cc)
        | inr e ↦ absurd (cc)
      ];
      status = refl;
      requests = alone;
      out_timing = alone_timing;
    }

    stopped_failed : TookPartOfBoth writers done true
        → HasFailed writers.out ⊎ HasFailed writers.out_timing
    stopped_failed stopped = elim stopped [
      | inl (first, stays) ↦ inl (first.failing)
      | inr (whole, second) ↦ inr (second.failing)
    ]

    ends_at_a_writer : TookPartOfBoth writers done true
        → RunEnds readers writers job (outcome_in job (Err (File WriteFault)))
    ends_at_a_writer stopped = record {
      done = λ e. absurd (cc);
      refused = λ e. absurd (cc);
      memory = λ m. elim m [
        | inl e ↦ absurd (cc)
        | inr e ↦ absurd (cc)
      ];
      device = λ d. record {
        reader = λ e. absurd (cc);
        unwritten = λ e. absurd (cc);
        writer = λ _. stopped_failed stopped;
        stopped = λ _. on_files stopped;
      };
      status = refl;
      requests = alone;
      out_timing = alone_timing;
    }

    ends_refused : (f : JobFault) → is_stopped (Some f) ≡ false → done ≡ refused_in job f
        → IsUnwritten writers → RunEnds readers writers job (outcome_in job (Err f))
    ends_refused f unstopped same unwritten = record {
      done = λ e. absurd (cc);
      refused = λ _. (
        record {
          read = read;
          written = both_sound before unwritten;
          comes = on_files (
            refused_outcome job f unstopped ∙ ap (λ (d : Done). d.outcome) (sym same),
            subst (TookBoth writers) (sym same) (took_none before unwritten job f),
          );
        },
        unwritten,
      );
      memory = λ m. elim m [
        | inl e ↦ absurd (stops f Memory refl (cc) unstopped)
        | inr e ↦ absurd (stops f (File OutOfMemory) refl (cc) unstopped)
      ];
      device = λ d. elim d [
        | inl e ↦ absurd (stops f (File ReadFault) refl (cc) unstopped)
        | inr e ↦ absurd (stops f (File WriteFault) refl (cc) unstopped)
      ];
      status = refl;
      requests = alone;
      out_timing = λ _. unwritten.1;
    }

    ends_at : (f : JobFault) → IsUndone writers job done f
        → RunEnds readers writers job (outcome_in job (Err f))
    ends_at f ends = elim ends [
      | inl (e, wants) ↦ subst (λ g. RunEnds readers writers job (outcome_in job (Err g))) (sym e) (ends_for_memory wants)
      | inr later ↦ elim later [
        | inl (e, stopped) ↦ subst (λ g. RunEnds readers writers job (outcome_in job (Err g))) (sym e) (ends_at_a_writer stopped)
        | inr (unstopped, same, unwritten) ↦ ends_refused f unstopped same unwritten
      ]
    ]

    pub ends_performed : (r : Result Ending JobFault) → JobEnds writers job done r
        → RunEnds readers writers job (outcome_in job r)
    ends_performed (Ok ending) is = ends_done ending is
    ends_performed (Err f) fault = ends_at f fault
