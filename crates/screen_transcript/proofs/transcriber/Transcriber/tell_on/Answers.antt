use Rattle.std.proofs.Common.{◌<◌, arith}
use Rattle.std.proofs.lemmas.List.{take_rest}
use Rattle.std.proofs.lemmas.Result.{err_from_is_err_and}
use Rattle.screen_transcript.proofs.PassLemmas.{telling_front, telling_more, telling_none}
use Rattle.screen_transcript.proofs.transcriber.Transcriber.tell_on.Goals as goal

pub loop-stays-init : goal.loop-stays-init
loop-stays-init g c = record {
  telling = telling_none g.W.Write.contents c.args.writer.now c.args.rows.now c.args.self.now c.args.bytes.now;
  some = λ is. absurd cc;
}

pub returns-in_err-len-clause-front : goal.returns-in_err-len-clause-front
returns-in_err-len-clause-front g c x is =
    let p = err_from_is_err_and c.from_residual.result c.from_residual.ensures.1 in
    rw p.1 (telling_front g.W.Write.contents c.args.writer.now c.args.rows.now c.args.self.now c.args.bytes.now c.loop-stays.writer c.tell_next.new.writer
    c.loop-stays.rows c.tell_next.new.rows c.loop-stays.self c.loop-stays.taken _ c.loop-stays.invariant.telling
    (take_rest c.args.bytes.now c.loop-stays.taken) c.in_err-len.ensures.front x is)

pub loop-stays-preserved-in-NoRow : goal.loop-stays-preserved-in-NoRow
loop-stays-preserved-in-NoRow g c = record {
  telling = telling_more g.W.Write.contents c.args.writer.now c.args.rows.now c.args.self.now c.args.bytes.now c.loop-stays.writer c.tell_next.new.writer
      c.loop-stays.rows c.tell_next.new.rows c.loop-stays.self c.tell_next.new.self c.loop-stays.taken c.in_ok-len.len _ c.loop-stays.invariant.telling
      (take_rest c.args.bytes.now c.loop-stays.taken) c.in_ok-len.ensures.within c.in_ok-len.ensures.played c.in_ok-len.ensures.tells;
  some = λ is. absurd cc;
}

pub loop-stays-preserved : goal.loop-stays-preserved
loop-stays-preserved g c = record {
  telling = telling_more g.W.Write.contents c.args.writer.now c.args.rows.now c.args.self.now c.args.bytes.now c.loop-stays.writer c.tell_next.new.writer
      c.loop-stays.rows c.tell_next.new.rows c.loop-stays.self c.tell_next.new.self c.loop-stays.taken c.in_ok-len.len _ c.loop-stays.invariant.telling
      (take_rest c.args.bytes.now c.loop-stays.taken) c.in_ok-len.ensures.within c.in_ok-len.ensures.played c.in_ok-len.ensures.tells;
  some = λ is. let more : 0 < c.in_ok-len.len = c.in_ok-len.ensures.some in omega (arith, more);
}
