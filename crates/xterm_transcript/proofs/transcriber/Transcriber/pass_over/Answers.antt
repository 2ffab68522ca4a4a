use Rattle.std.proofs.Common.{arith}
use Rattle.std.proofs.lemmas.Bool.Decides.{nat_tests}
use Rattle.std.proofs.lemmas.List.{nil_from_length, take_rest}
use Rattle.xterm_transcript.proofs.PassLemmas.{passed_all, passed_more, passed_none}
use Rattle.xterm_transcript.proofs.transcriber.Transcriber.pass_over.Goals as goal

pub loop-rest-init : goal.loop-rest-init
loop-rest-init c = passed_none c.args.self.now c.args.bytes.now

pub loop-rest-preserved : goal.loop-rest-preserved
loop-rest-preserved c =
    let rest = c.loop-rest.rest.now in
    let n = c.in_ok-taken.taken in
    passed_more c.args.self.now c.loop-rest.self c.pass_next.new.self c.args.bytes.now rest _ n c.loop-rest.invariant (take_rest rest n)
    c.in_ok-taken.ensures.played

pub returns : goal.returns
returns c x was =
    passed_all c.args.self.now c.loop-rest.self c.args.bytes.now c.loop-rest.rest.now c.loop-rest.invariant
    (nil_from_length c.loop-rest.rest.now (grind (arith, nat_tests))) x was
