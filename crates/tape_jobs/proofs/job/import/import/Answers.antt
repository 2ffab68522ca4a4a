use Rattle.std.proofs.Common.{◌≡◌, refl, rules, subst}
use Rattle.tape_import.specs.Told.{losses_text}
use Rattle.tape_jobs.proofs.ImportLemmas.{import_unread, import_written}
use Rattle.tape_jobs.specs.Endings.{used, writers_of}
use Rattle.tape_jobs.specs.Output.{done_importing}
use Rattle.tape_jobs.specs.Telling.{ThreeEnd}
use Rattle.command_line.specs.declared.job.Job.TheVariants as jobs
use Rattle.tape_jobs.proofs.job.import.import.Goals as goal

pub returns-in-Ok : goal.returns-in-Ok
returns-in-Ok g c =
    let reader = used g.S.Read.remaining c.args.recording.now c.read_imported.new.recording in
    let writers = writers_of (used g.O.Write.contents c.args.out.now c.write_and_tell.new.out)
    (used g.P.Write.contents c.args.out_timing.now c.write_and_tell.new.out_timing) in
    let told = used g.L.Write.contents c.args.told.now c.write_and_tell.new.told in
    let imported = c.in-Ok.imported in
    let same : c.deref.result.now ≡ imported = search rules in
    let ends = subst (λ m. ThreeEnd writers told jobs.Import (done_importing m.recording m.losses) (losses_text m.losses) c.write_and_tell.result)
    same c.write_and_tell.ensures in
    rw c.outcome_of.ensures
    (import_written reader writers told imported.recording imported.losses c.in-Ok.ensures.ok
    (c.in-Ok.ensures.sound (λ e. absurd (cc))) c.write_and_tell.result ends)

pub returns-in-Err : goal.returns-in-Err
returns-in-Err g c =
    let reader = used g.S.Read.remaining c.args.recording.now c.read_imported.new.recording in
    let writers = writers_of (used g.O.Write.contents c.args.out.now c.args.out.now)
    (used g.P.Write.contents c.args.out_timing.now c.args.out_timing.now) in
    let told = used g.L.Write.contents c.args.told.now c.args.told.now in
    let unread = c.in-Err.ensures in
    rw c.outcome_of-in-Err.ensures
    (import_unread reader writers told c.in-Err.fault unread.fault unread.form (λ other. unread.sound (λ e. other (cc)))
    unread.read_fault unread.no_write_fault ((refl, refl), refl))
