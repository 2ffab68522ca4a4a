use Rattle.std.proofs.Common.{◌≡◌, ◌∙◌, ap, refl, rules, subst, sym}
use Rattle.tape_jobs.proofs.MendLemmas.{mend_unread, mend_written}
use Rattle.tape_jobs.specs.Endings.{used, writers_of}
use Rattle.tape_jobs.specs.Mending.{is_doubtful, pair_of, remains_of, told_of}
use Rattle.tape_jobs.specs.Output.{done_mending}
use Rattle.tape_jobs.specs.Telling.{ThreeEnd}
use Rattle.command_line.specs.declared.job.Job.TheVariants as jobs
use Rattle.tape_jobs.proofs.job.mend.mend.Goals as goal

pub returns-in-Ok-clause-ends : goal.returns-in-Ok-clause-ends
returns-in-Ok-clause-ends g c =
    let pair = pair_of (used g.S.Read.remaining c.args.script.now c.read_remains.new.script)
    (used g.T.Read.remaining c.args.timing.now c.read_remains.new.timing) in
    let writers = writers_of (used g.O.Write.contents c.args.out.now c.write_and_tell-done.new.out)
    (used g.P.Write.contents c.args.out_timing.now c.write_and_tell-done.new.out_timing) in
    let told = used g.L.Write.contents c.args.told.now c.write_and_tell-done.new.told in
    let same : c.deref.result.now ≡ c.in-Ok.mended = search rules in
    let ends = subst (λ m. ThreeEnd writers told (jobs.Mend c.args.header) (done_mending (remains_of m)) (told_of (remains_of m)) c.write_and_tell-done.result) same
    (c.write_and_tell-done.ensures.ends c.args.header) in
    rw c.outcome_of.ensures
    (mend_written pair writers told c.args.header (remains_of c.in-Ok.mended) c.in-Ok.ensures.ok
    (c.in-Ok.ensures.sound (λ e. absurd (cc))) c.write_and_tell-done.result ends)

pub returns-in-Ok-clause-doubtful : goal.returns-in-Ok-clause-doubtful
returns-in-Ok-clause-doubtful g c = λ none s t held held_timing.
    c.is_doubtful-doubtful.ensures t (c.in-Ok.ensures.sudo t held_timing)
    ∙ ap (is_doubtful t) (sym (c.in-Ok.ensures.ok s t held held_timing).1)

pub returns-in-Err-clause-ends : goal.returns-in-Err-clause-ends
returns-in-Err-clause-ends g c =
    let pair = pair_of (used g.S.Read.remaining c.args.script.now c.read_remains.new.script)
    (used g.T.Read.remaining c.args.timing.now c.read_remains.new.timing) in
    let writers = writers_of (used g.O.Write.contents c.args.out.now c.args.out.now)
    (used g.P.Write.contents c.args.out_timing.now c.args.out_timing.now) in
    let told = used g.L.Write.contents c.args.told.now c.args.told.now in
    rw c.outcome_of-in-Err.ensures
    (mend_unread pair writers told c.args.header c.in-Err.fault c.in-Err.ensures.fault
    (λ other. c.in-Err.ensures.sound (λ e. other (cc))) c.in-Err.ensures.read_fault c.in-Err.ensures.no_write_fault
    ((refl, refl), refl))
