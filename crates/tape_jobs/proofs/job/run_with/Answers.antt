use Rattle.std.proofs.Common.{◌≡◌, ap, sym, inl, inr, ◌∙◌, refl, rules, subst, true≢false, Some, None, Err}
use Rattle.std.specs.Option.{option_map}
use Rattle.command_line.specs.declared.player.Source.TheVariants.{Pair}
use Rattle.tape_core.proofs.DeviceLemmas.{took_none}
use Rattle.tape_jobs.specs.Endings.{JobEnds, RunEnds, readers_of, used, writers_of}
use Rattle.tape_jobs.specs.Mending.{remains_of}
use Rattle.tape_jobs.specs.Output.{done_importing, done_mending, done_on, outcome_in, remakes, writes_timing}
use Rattle.tape_jobs.specs.Output.Remade.{Foreign, Remnants}
use Rattle.command_line.specs.declared.job.Job.TheVariants.{Import, Mend}
use Rattle.tape_jobs.specs.declared.job.JobFault.TheVariants.{File}
use Rattle.tape_jobs.proofs.JobLemmas.{IsBefore, comes_read, comes_refused, ends_performed, ends_ungiven, ends_unread, fault_so, read_so}
use Rattle.tape_jobs.proofs.ImportLemmas.{is_import, job_formless, job_imported}
use Rattle.tape_jobs.proofs.MendLemmas.{comes_remade, comes_unmended, is_mend}
use Rattle.tape_jobs.proofs.NoteLemmas.{ended_after}
use Rattle.tape_jobs.proofs.job.run_with.Goals as goal

pub returns-in-Ok-clause-ends : goal.returns-in-Ok-clause-ends
returns-in-Ok-clause-ends g c =
    let readers = readers_of Pair (used g.S.Read.remaining c.args.script.now c.read_remains.new.script)
    (used g.T.Read.remaining c.args.timing.now c.read_remains.new.timing)
    (used g.R.Read.remaining c.args.requests.now c.args.requests.now) c.args.text.now in
    let writers = writers_of (used g.O.Write.contents c.args.out.now c.write_remains.new.out)
    (used g.P.Write.contents c.args.out_timing.now c.write_remains.new.out_timing) in
    let before : IsBefore writers = record {
      nothing = took_none _ _ c.requires.out;
      nothing_timing = took_none _ _ c.requires.out_timing;
    } in
    let asked : remakes c.args.job ≡ Some (Remnants c.in-Mend.header) = search rules in
    let same : c.deref.result.now ≡ c.in-Ok.mended = search rules in
    let done = done_mending (remains_of c.in-Ok.mended) in
    let ends = subst (λ job. JobEnds writers job done c.write_remains.result) (sym (is_mend c.args.job c.in-Mend.header asked))
    (subst (λ m. JobEnds writers (Mend c.in-Mend.header) (done_mending (remains_of m)) c.write_remains.result) same
    (c.write_remains.ensures.ends c.in-Mend.header)) in
    rw c.outcome_in.ensures
    (subst (λ j. RunEnds readers writers c.args.job (outcome_in j c.write_remains.result))
    (is_mend c.args.job c.in-Mend.header asked)
    (ends_performed before done
    (λ files held. comes_remade c.args.job c.in-Mend.header files (remains_of c.in-Ok.mended) asked
    (c.in-Ok.ensures.ok files.script files.timing held.script held.timing))
    (let read = c.in-Ok.ensures.sound (λ e. absurd (cc)) in (read.0, read.1, c.requires.requests))
    (λ _. refl) (λ alone. absurd (true≢false (sym (ap writes_timing (is_mend c.args.job c.in-Mend.header asked)) ∙ alone)))
    c.write_remains.result ends))

pub returns-in-Err-clause-ends : goal.returns-in-Err-clause-ends
returns-in-Err-clause-ends g c =
    let readers = readers_of Pair (used g.S.Read.remaining c.args.script.now c.read_remains.new.script)
    (used g.T.Read.remaining c.args.timing.now c.read_remains.new.timing)
    (used g.R.Read.remaining c.args.requests.now c.args.requests.now) c.args.text.now in
    let writers = writers_of (used g.O.Write.contents c.args.out.now c.args.out.now)
    (used g.P.Write.contents c.args.out_timing.now c.args.out_timing.now) in
    let before : IsBefore writers = record {
      nothing = took_none _ _ c.requires.out;
      nothing_timing = took_none _ _ c.requires.out_timing;
    } in
    let asked : remakes c.args.job ≡ Some (Remnants c.in-Mend.header) = search rules in
    rw c.outcome_in-in-Err.ensures
    (subst (λ j. RunEnds readers writers c.args.job (outcome_in j (Err (File c.in-Err.fault))))
    (is_mend c.args.job c.in-Mend.header asked)
    (ends_unread before c.in-Err.fault
    (λ unstopped files held. comes_unmended c.args.job c.in-Mend.header files c.in-Err.fault asked
    (c.in-Err.ensures.fault unstopped).0 ((c.in-Err.ensures.fault unstopped).1 files.script held.script))
    (λ other. let read = c.in-Err.ensures.sound (λ e. other (cc)) in (read.0, read.1, c.requires.requests))
    (λ e. elim (c.in-Err.ensures.read_fault e) [
      | inl script ↦ inl script
      | inr timing ↦ inr (inl timing)
    ]) c.in-Err.ensures.no_write_fault (λ _. refl) (refl, refl)))

pub returns-in-Ok-read_imported-clause-ends : goal.returns-in-Ok-read_imported-clause-ends
returns-in-Ok-read_imported-clause-ends g c =
    let readers = readers_of Pair (used g.S.Read.remaining c.args.script.now c.read_imported.new.recording)
    (used g.T.Read.remaining c.args.timing.now c.args.timing.now)
    (used g.R.Read.remaining c.args.requests.now c.args.requests.now) c.args.text.now in
    let writers = writers_of (used g.O.Write.contents c.args.out.now c.write_imported.new.out)
    (used g.P.Write.contents c.args.out_timing.now c.write_imported.new.out_timing) in
    let before : IsBefore writers = record {
      nothing = took_none _ _ c.requires.out;
      nothing_timing = took_none _ _ c.requires.out_timing;
    } in
    let asked : remakes c.args.job ≡ Some Foreign = search rules in
    let imported = c.in-Ok-read_imported.imported in
    let same : c.deref-in-Ok-read_imported.result.now ≡ imported = search rules in
    let done = done_importing imported.recording imported.losses in
    let ends = subst (λ job. JobEnds writers job done c.write_imported.result) (sym (is_import c.args.job asked))
    (subst (λ m. JobEnds writers Import (done_importing m.recording m.losses) c.write_imported.result) same c.write_imported.ensures.ends) in
    rw c.outcome_in-in-Ok-read_imported.ensures
    (ends_performed before done
    (λ files held. job_imported c.args.job files imported.recording imported.losses asked
    (c.in-Ok-read_imported.ensures.ok files.script held.script))
    (c.in-Ok-read_imported.ensures.sound (λ e. absurd (cc)), c.requires.timing, c.requires.requests)
    (λ _. refl) (λ alone. absurd (true≢false (sym (ap writes_timing (is_import c.args.job asked)) ∙ alone)))
    c.write_imported.result ends)

pub returns-in-Err-read_imported-clause-ends : goal.returns-in-Err-read_imported-clause-ends
returns-in-Err-read_imported-clause-ends g c =
    let readers = readers_of Pair (used g.S.Read.remaining c.args.script.now c.read_imported.new.recording)
    (used g.T.Read.remaining c.args.timing.now c.args.timing.now)
    (used g.R.Read.remaining c.args.requests.now c.args.requests.now) c.args.text.now in
    let writers = writers_of (used g.O.Write.contents c.args.out.now c.args.out.now)
    (used g.P.Write.contents c.args.out_timing.now c.args.out_timing.now) in
    let before : IsBefore writers = record {
      nothing = took_none _ _ c.requires.out;
      nothing_timing = took_none _ _ c.requires.out_timing;
    } in
    let asked : remakes c.args.job ≡ Some Foreign = search rules in
    let unread = c.in-Err-read_imported.ensures in
    rw c.outcome_in-in-Err-read_imported.ensures
    (ends_ungiven before c.in-Err-read_imported.fault
    (λ unstopped files held. job_formless c.args.job files c.in-Err-read_imported.fault asked
    (unread.fault unstopped files.script held.script))
    (λ other. (unread.sound (λ e. other (cc)), c.requires.timing, c.requires.requests))
    (λ e. inl (unread.read_fault e)) unread.no_write_fault unread.memory (λ _. refl) (refl, refl))

pub returns-in-Ok-read_files-clause-ends : goal.returns-in-Ok-read_files-clause-ends
returns-in-Ok-read_files-clause-ends g c =
    let before : IsBefore (writers_of (used g.O.Write.contents c.args.out.now c.perform.new.out)
    (used g.P.Write.contents c.args.out_timing.now c.perform.new.out_timing)) = record {
      nothing = took_none _ _ c.requires.out;
      nothing_timing = took_none _ _ c.requires.out_timing;
    } in
    let given = c.in-Ok-read_files.given in
    let reading : remakes c.args.job ≡ None = search rules in
    rw c.outcome_in-in-Ok-read_files.ensures
    (ends_performed before (done_on c.args.job given.recording given.resizes given.requests.items c.args.text.now)
    (λ files held. comes_read given.recording given.resizes given.requests.items reading files held (
      read_so files Pair given.recording given.resizes held.source
          (c.in-Ok-read_files.ensures.ok files.script files.timing held.script held.timing, c.in-Ok-read_files.ensures.resizes),
      λ takes. c.in-Ok-read_files.ensures.requests takes files.requests (held.requests takes),
    ))
    (c.in-Ok-read_files.ensures.sound (λ e. absurd (cc))) c.in-Ok-read_files.ensures.alone c.perform.ensures.alone
    c.perform.result c.perform.ensures.ends)

pub returns-in-Err-read_files-clause-ends : goal.returns-in-Err-read_files-clause-ends
returns-in-Err-read_files-clause-ends g c =
    let before : IsBefore (writers_of (used g.O.Write.contents c.args.out.now c.args.out.now)
    (used g.P.Write.contents c.args.out_timing.now c.args.out_timing.now)) = record {
      nothing = took_none _ _ c.requires.out;
      nothing_timing = took_none _ _ c.requires.out_timing;
    } in
    let unread = c.in-Err-read_files.ensures in
    let reading : remakes c.args.job ≡ None = search rules in
    rw c.outcome_in-in-Err-read_files.ensures
    (ends_unread before c.in-Err-read_files.fault
    (λ unstopped files held. comes_refused c.args.job files (File c.in-Err-read_files.fault) reading
    (fault_so files Pair (File c.in-Err-read_files.fault) held.source
    (ap (option_map (λ f. File f)) (unread.fault unstopped files.script files.timing held.script held.timing))))
    (λ other. unread.sound (λ e. other (cc))) unread.read_fault unread.no_write_fault unread.alone (refl, refl))

pub returns-in-Ok-read_files-clause-noted : goal.returns-in-Ok-read_files-clause-noted
returns-in-Ok-read_files-clause-noted g c =
    let given = c.in-Ok-read_files.given in
    rw c.outcome_in-in-Ok-read_files.ensures (record {
      told = λ was player plays files held. (
        given.recording,
        given.resizes,
        read_so files Pair given.recording given.resizes held.source
            (c.in-Ok-read_files.ensures.ok files.script files.timing held.script held.timing, c.in-Ok-read_files.ensures.resizes),
        c.tell_note.ensures.told player plays,
      );
      silent = c.tell_note.ensures.silent;
      unread = λ e. absurd (true≢false
          (sym (ended_after c.args.job given.recording given.resizes given.requests.items c.args.text.now _ c.perform.result c.perform.ensures.ends) ∙ e));
    })
