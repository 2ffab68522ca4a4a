use Rattle.std.proofs.Common.{◌≡◌, take, subst, sym, ◌∙◌, arith}
use Rattle.std.proofs.lemmas.Bool.Decides.{nat_tests}
use Rattle.xterm_term.specs.Reading.{GoesOn}
use Rattle.xterm_term.proofs.Taken.{goes_by_escape, goes_by_text}
use Rattle.xterm_transcript.proofs.PieceLemmas.{done_is}
use Rattle.xterm_transcript.proofs.transcriber.most_taken.Goals as goal

pub returns-then-bytes-eq-ESC-clause-goes : goal.returns-then-bytes-eq-ESC-clause-goes
returns-then-bytes-eq-ESC-clause-goes c more =
    goes_by_escape c.args.state.now c.args.bytes.now c.printable_run.result c.requires (grind (arith, nat_tests)) c.printable_run.ensures.value

pub returns-clause-goes : goal.returns-clause-goes
returns-clause-goes c more =
    let n = c.printable_run-2.result in
    let same : c.max.result ≡ n = grind (arith, nat_tests, more) in
    subst (λ k. GoesOn c.args.state.now (take k c.args.bytes.now)) (sym same)
    (goes_by_text c.args.state.now c.args.bytes.now n c.printable_run-2.ensures.value c.printable_run-2.ensures.within
    (done_is c.args.state.now c.is_ground.result c.is_ground.ensures.ground c.is_ground.ensures.other ∙ c.if-is_ground.false) (omega (arith, same, more)))
