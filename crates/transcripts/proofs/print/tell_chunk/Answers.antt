use Rattle.std.proofs.Common.{arith}
use Rattle.std.proofs.lemmas.Bool.Decides.{nat_tests}
use Rattle.std.proofs.lemmas.List.{nil_from_length, take_rest}
use Rattle.std.proofs.lemmas.Result.{err_from_is_err_and}
use Rattle.transcripts.proofs.Telling.{sofar_more, sofar_none, sofar_plays, sofar_tells, sofar_stops}
use Rattle.transcripts.proofs.print.tell_chunk.Goals as goal

pub loop-rest-init : goal.loop-rest-init
loop-rest-init g c =
    let t = g.T.Transcribes in
    sofar_none t.played t.leaving c.laws.ensures.nothing c.laws.ensures.parts c.args.terminal.now c.args.writer.now c.args.rows.now c.args.bytes.now

pub loop-rest-preserved : goal.loop-rest-preserved
loop-rest-preserved g c =
    let t = g.T.Transcribes in
    let rest = c.loop-rest.rest.now in
    let n = c.in_ok-taken.taken in
    sofar_more t.played t.leaving c.laws.ensures.nothing c.laws.ensures.parts c.args.terminal.now c.loop-rest.terminal c.tell_next.new.terminal
    c.args.writer.now c.loop-rest.writer c.tell_next.new.writer c.args.rows.now c.loop-rest.rows c.tell_next.new.rows c.args.bytes.now rest _ n
    c.loop-rest.invariant (take_rest rest n) c.in_ok-taken.ensures.played c.in_ok-taken.ensures.tells

pub returns-in_err-taken-clause-fault : goal.returns-in_err-taken-clause-fault
returns-in_err-taken-clause-fault g c profile before played =
    let t = g.T.Transcribes in
    let p = err_from_is_err_and c.from_residual.result c.from_residual.ensures.1 in
    rw (p.1, p.2) (sofar_stops t.played t.leaving c.laws.ensures.nothing c.laws.ensures.parts c.args.terminal.now c.loop-rest.terminal
    c.args.writer.now c.loop-rest.writer c.tell_next.new.writer c.args.rows.now c.loop-rest.rows c.args.bytes.now c.loop-rest.rest.now _
    c.loop-rest.invariant c.in_err-taken.ensures.fault profile before played)

pub returns-clause-played : goal.returns-clause-played
returns-clause-played g c profile before played =
    let t = g.T.Transcribes in
    sofar_plays t.played t.leaving c.laws.ensures.nothing c.laws.ensures.parts c.args.terminal.now c.loop-rest.terminal
    c.args.writer.now c.loop-rest.writer c.args.rows.now c.loop-rest.rows c.args.bytes.now c.loop-rest.rest.now c.loop-rest.invariant
    (nil_from_length c.loop-rest.rest.now (grind (arith, nat_tests))) profile before played

pub returns-clause-tells : goal.returns-clause-tells
returns-clause-tells g c profile before played =
    let t = g.T.Transcribes in
    sofar_tells t.played t.leaving c.laws.ensures.nothing c.laws.ensures.parts c.args.terminal.now c.loop-rest.terminal
    c.args.writer.now c.loop-rest.writer c.args.rows.now c.loop-rest.rows c.args.bytes.now c.loop-rest.rest.now c.loop-rest.invariant
    (nil_from_length c.loop-rest.rest.now (grind (arith, nat_tests))) profile before played
