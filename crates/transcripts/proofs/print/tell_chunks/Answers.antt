use Rattle.std.proofs.Common.{◌≡◌, ◌+◌, ◌++◌, subst, sym, arith}
use Rattle.std.proofs.lemmas.Result.{err_from_is_err_and}
use Rattle.tape_core.specs.Due.{first}
use Rattle.transcripts.specs.Told.{Tells}
use Rattle.transcripts.specs.Transcript.{left_between}
use Rattle.transcripts.proofs.LeftLemmas.{between_front, between_more, between_none}
use Rattle.transcripts.proofs.ToldLemmas.{stops_first, stops_second, tells_both, tells_none}
use Rattle.transcripts.proofs.print.tell_chunks.Goals as goal

pub loop-index-init : goal.loop-index-init
loop-index-init g c = record {
  played = λ profile was. was;
  tells = λ profile was.
      subst (Tells g.W.Write.contents c.args.writer.now c.args.rows.now c.args.writer.now c.args.rows.now)
      (sym (between_none g.T.Transcribes.leaving profile (c.laws.ensures.parts profile) c.args.recording.now c.args.start))
      (tells_none c.args.writer.now c.args.rows.now);
}

pub loop-index-preserved : goal.loop-index-preserved
loop-index-preserved g c =
    let tape = c.args.recording.now in
    let index = c.loop-index.index in
    record {
      played = λ profile was.
          subst (g.T.Transcribes.played profile c.tell_chunk.new.terminal) (sym c.bytes_of.ensures)
          (c.in_ok-tell_chunk.ensures.played profile (first tape.chunks index) (c.loop-index.invariant.played profile was));
      tells = λ profile was.
          subst (Tells g.W.Write.contents c.args.writer.now c.args.rows.now c.tell_chunk.new.writer c.tell_chunk.new.rows)
          (sym (between_more g.T.Transcribes.leaving profile (c.laws.ensures.parts profile) tape c.args.start index c.bytes_of.result.now (omega arith) c.bytes_of.ensures))
          (tells_both (c.in_ok-tell_chunk.ensures.tells profile (first tape.chunks index) (c.loop-index.invariant.played profile was))
          (c.loop-index.invariant.tells profile was));
    }

pub returns-in_err-tell_chunk-clause-fault : goal.returns-in_err-tell_chunk-clause-fault
returns-in_err-tell_chunk-clause-fault g c profile was =
    let t = g.T.Transcribes in
    let tape = c.args.recording.now in
    let index = c.loop-index.index in
    let parts = c.laws.ensures.parts profile in
    let here = t.leaving profile (first tape.chunks index) c.bytes_of.result.now in
    let rest = between_front t.leaving profile parts tape c.args.start (index + 1) c.args.end (omega arith) (omega arith) in
    let so_far = between_more t.leaving profile parts tape c.args.start index c.bytes_of.result.now (omega arith) c.bytes_of.ensures in
    let p = err_from_is_err_and c.from_residual.result c.from_residual.ensures.1 in
    rw (p.1, p.2, rest.is, so_far) (stops_first c.args.writer.now c.tell_chunk.new.writer c.args.rows.now
    (left_between t.leaving profile tape c.args.start index ++ here) rest.rest _
    (stops_second c.args.writer.now c.loop-index.writer c.tell_chunk.new.writer c.args.rows.now c.loop-index.rows
    (left_between t.leaving profile tape c.args.start index) here _ (c.loop-index.invariant.tells profile was)
    (c.in_err-tell_chunk.ensures.fault profile (first tape.chunks index) (c.loop-index.invariant.played profile was))))

pub returns-clause-tells : goal.returns-clause-tells
returns-clause-tells g c profile was =
    let last : c.loop-index.index ≡ c.args.end = omega arith in
    subst (λ n. Tells g.W.Write.contents c.args.writer.now c.args.rows.now c.loop-index.writer c.loop-index.rows
    (left_between g.T.Transcribes.leaving profile c.args.recording.now c.args.start n)) last (c.loop-index.invariant.tells profile was)
