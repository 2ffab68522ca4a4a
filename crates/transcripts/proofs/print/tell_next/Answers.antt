use Rattle.std.proofs.Common.{sym, ◌∙◌}
use Rattle.transcripts.proofs.Telling.{front_of_some}
use Rattle.transcripts.proofs.ToldLemmas.{fault_failed, front_stops, front_whole}
use Rattle.transcripts.proofs.print.tell_next.Goals as goal

pub returns-in-Ok-clause-fault : goal.returns-in-Ok-clause-fault
returns-in-Ok-clause-fault g c profile before played =
    let t = g.T.Transcribes in
    let bytes = c.args.bytes.now in
    front_stops c.args.writer.now c.tell_some.new.writer c.args.rows.now c.tell_some.new.rows (t.leaving profile before bytes) _
    (fault_failed _ (sym c.failed.ensures ∙ c.if-failed.true))
    (front_of_some t.played t.leaving c.laws.ensures.nothing c.laws.ensures.parts c.args.writer.now c.tell_some.new.writer c.args.rows.now c.tell_some.new.rows bytes c.in-Ok.field-0 profile before
    (front_whole (c.in-Ok.ensures.tells profile before played)))

pub returns-in-Err-clause-fault : goal.returns-in-Err-clause-fault
returns-in-Err-clause-fault g c profile before played =
    front_stops c.args.writer.now c.tell_some.new.writer c.args.rows.now c.tell_some.new.rows (g.T.Transcribes.leaving profile before c.args.bytes.now)
    c.fault_of.result c.fault_of.ensures (c.in-Err.ensures.front profile before played)
