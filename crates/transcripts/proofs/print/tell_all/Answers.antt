use Rattle.std.proofs.lemmas.Result.{err_from_is_err_and}
use Rattle.tape_core.specs.Due.{first}
use Rattle.transcripts.specs.Transcript.{left_between}
use Rattle.transcripts.proofs.ToldLemmas.{front_stops, stops_first, stops_second, tells_both}
use Rattle.transcripts.proofs.print.tell_all.Goals as goal

pub returns-in_err-tell_chunks-clause-fault : goal.returns-in_err-tell_chunks-clause-fault
returns-in_err-tell_chunks-clause-fault g c profile was =
    let t = g.T.Transcribes in
    let tape = c.args.recording.now in
    let p = err_from_is_err_and c.from_residual.result c.from_residual.ensures.1 in
    rw (p.1, p.2) (stops_first c.args.writer.now c.tell_chunks.new.writer c.args.rows.now (left_between t.leaving profile tape c.args.start c.args.end)
    (t.standing profile (first tape.chunks c.args.end)) _ (c.in_err-tell_chunks.ensures.fault profile was))

pub returns-in-Ok-clause-tells : goal.returns-in-Ok-clause-tells
returns-in-Ok-clause-tells g c profile was =
    let there = c.in_ok-tell_chunks.ensures.played profile was in
    tells_both (c.in-Ok.ensures.tells profile (first c.args.recording.now.chunks c.args.end) there) (c.in_ok-tell_chunks.ensures.tells profile was)

pub returns-in-Err-clause-fault : goal.returns-in-Err-clause-fault
returns-in-Err-clause-fault g c profile was =
    let t = g.T.Transcribes in
    let tape = c.args.recording.now in
    let there = c.in_ok-tell_chunks.ensures.played profile was in
    let standing = t.standing profile (first tape.chunks c.args.end) in
    stops_second c.args.writer.now c.tell_chunks.new.writer c.tell_standing.new.writer c.args.rows.now c.tell_chunks.new.rows
    (left_between t.leaving profile tape c.args.start c.args.end) standing c.fault_of.result (c.in_ok-tell_chunks.ensures.tells profile was)
    (front_stops c.tell_chunks.new.writer c.tell_standing.new.writer c.tell_chunks.new.rows c.tell_standing.new.rows standing
    c.fault_of.result c.fault_of.ensures (c.in-Err.ensures.front profile (first tape.chunks c.args.end) there))
