use Rattle.std.proofs.Common.{◌≡◌, ◌∙◌, refl, sym, inl, inr, true≢false, None}
use Rattle.command_line.specs.declared.player.Source.TheVariants as stands
use Rattle.tape_core.proofs.DeviceLemmas.{took_none}
use Rattle.tape_jobs.specs.Endings.{used, writers_of}
use Rattle.tape_jobs.specs.Output.{done_on}
use Rattle.tape_jobs.proofs.JobLemmas.{IsBefore, comes_read, comes_refused, ends_performed, ends_ungiven, fault_so, read_so}
use Rattle.tape_jobs.proofs.NoteLemmas.{ended_after}
use Rattle.tape_jobs.proofs.job.run_on_recording.Goals as goal

pub returns-in-Ok-clause-ends : goal.returns-in-Ok-clause-ends
returns-in-Ok-clause-ends g c =
    let before : IsBefore (writers_of (used g.O.Write.contents c.args.out.now c.perform.new.out)
    (used g.P.Write.contents c.args.out_timing.now c.perform.new.out_timing)) = record {
      nothing = took_none _ _ c.requires.out;
      nothing_timing = took_none _ _ c.requires.out_timing;
    } in
    let given = c.in-Ok.given in
    let read = c.in-Ok.ensures.sound (λ e. absurd (cc)) in
    rw c.outcome_in.ensures
    (ends_performed before (done_on c.args.job given.recording given.resizes given.requests.items c.args.text.now)
    (λ files held. comes_read given.recording given.resizes given.requests.items c.requires.reads files held (
      read_so files stands.Recording given.recording given.resizes held.source (c.in-Ok.ensures.ok files.script held.script),
      λ takes. c.in-Ok.ensures.requests takes files.requests (held.requests takes),
    ))
    (read.0, read.0, read.1) c.in-Ok.ensures.alone c.perform.ensures.alone
    c.perform.result c.perform.ensures.ends)

pub returns-in-Err-clause-ends : goal.returns-in-Err-clause-ends
returns-in-Err-clause-ends g c =
    let before : IsBefore (writers_of (used g.O.Write.contents c.args.out.now c.args.out.now)
    (used g.P.Write.contents c.args.out_timing.now c.args.out_timing.now)) = record {
      nothing = took_none _ _ c.requires.out;
      nothing_timing = took_none _ _ c.requires.out_timing;
    } in
    let unread = c.in-Err.ensures in
    rw c.outcome_in-in-Err.ensures
    (ends_ungiven before c.in-Err.fault
    (λ unstopped files held. comes_refused c.args.job files c.in-Err.fault c.requires.reads
    (fault_so files stands.Recording c.in-Err.fault held.source (unread.fault unstopped files.script held.script)))
    (λ other. let read = unread.sound (λ e. other (cc)) in (read.0, read.0, read.1))
    (λ e. elim (unread.read_fault e) [
      | inl script ↦ inl script
      | inr requests ↦ inr (inr requests)
    ]) unread.no_write_fault unread.memory unread.alone (refl, refl))

pub returns-in-Ok-clause-noted : goal.returns-in-Ok-clause-noted
returns-in-Ok-clause-noted g c =
    let given = c.in-Ok.given in
    rw c.outcome_in.ensures (record {
      told = λ was player plays files held. (
        given.recording,
        given.resizes,
        read_so files stands.Recording given.recording given.resizes held.source (c.in-Ok.ensures.ok files.script held.script),
        c.tell_note.ensures.told player plays,
      );
      silent = c.tell_note.ensures.silent;
      unread = λ e. absurd (true≢false
          (sym (ended_after c.args.job given.recording given.resizes given.requests.items c.args.text.now _ c.perform.result c.perform.ensures.ends) ∙ e));
    })

pub returns-in-Err-clause-noted : goal.returns-in-Err-clause-noted
returns-in-Err-clause-noted g c =
    rw c.outcome_in-in-Err.ensures (record {
      told = λ was. absurd (true≢false (sym was ∙ c.in-Err.ensures.unread));
      silent = λ _. refl;
      unread = λ _. refl;
    })
