use Rattle.std.proofs.Common.{refl}
use Rattle.tape_jobs.proofs.RedactLemmas.{redact_unread, redact_written}
use Rattle.tape_jobs.specs.Endings.{used, writers_of}
use Rattle.tape_jobs.specs.Mending.{pair_of}
use Rattle.tape_jobs.proofs.job.redact.redact.Goals as goal

pub returns-in-Ok : goal.returns-in-Ok
returns-in-Ok g c =
    let pair = pair_of (used g.S.Read.remaining c.args.script.now c.read_pair.new.script)
    (used g.T.Read.remaining c.args.timing.now c.read_pair.new.timing) in
    let writers = writers_of (used g.O.Write.contents c.args.out.now c.write_and_tell-ended.new.out)
    (used g.P.Write.contents c.args.out_timing.now c.write_and_tell-ended.new.out_timing) in
    let told = used g.L.Write.contents c.args.told.now c.write_and_tell-ended.new.told in
    let found = used g.F.Write.contents c.args.found.now c.write_and_tell-ended.new.found in
    let notes = used g.N.Write.contents c.args.notes.now c.tell_note.new.notes in
    rw c.outcome_in.ensures
    (redact_written pair writers told found notes c.args.player c.args.text.now c.in-Ok.recording c.in-Ok.ensures.ok
    (c.in-Ok.ensures.sound (λ e. absurd (cc))) (c.tell_note.ensures.told c.args.player refl) c.write_and_tell-ended.result
    c.write_and_tell-ended.ensures c.nowhere_means_nowhere.ensures)

pub returns-in-Err : goal.returns-in-Err
returns-in-Err g c =
    let pair = pair_of (used g.S.Read.remaining c.args.script.now c.read_pair.new.script)
    (used g.T.Read.remaining c.args.timing.now c.read_pair.new.timing) in
    let writers = writers_of (used g.O.Write.contents c.args.out.now c.args.out.now)
    (used g.P.Write.contents c.args.out_timing.now c.args.out_timing.now) in
    let told = used g.L.Write.contents c.args.told.now c.args.told.now in
    let found = used g.F.Write.contents c.args.found.now c.args.found.now in
    let notes = used g.N.Write.contents c.args.notes.now c.args.notes.now in
    rw c.outcome_in-in-Err.ensures
    (redact_unread pair writers told found notes c.args.player c.args.text.now c.in-Err.fault c.in-Err.ensures.fault
    (λ other. c.in-Err.ensures.sound (λ e. other (cc))) c.in-Err.ensures.read_fault c.in-Err.ensures.no_write_fault
    ((refl, refl), refl, refl) refl)
