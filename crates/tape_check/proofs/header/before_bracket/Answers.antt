use Rattle.std.proofs.Common.{sym, ◌∙◌, arith}
use Rattle.tape_check.proofs.HeaderLemmas.{bracket_passed, bracket_found, bracket_here, bracket_nowhere}
use Rattle.tape_check.proofs.header.before_bracket.Goals as goal
use Rattle.tape_check.proofs.header.before_bracket.Goals.{then-loop-end-test+else-not-is_bracket_at, else-loop-end-test}

pub loop-end-preserved : goal.loop-end-preserved
loop-end-preserved c = record {
  within = omega arith;
  led = bracket_passed c.args.text.now c.loop-end.end c.loop-end-test.true
      (sym c.is_bracket_at.ensures ∙ c.if-not-is_bracket_at.true) c.loop-end.invariant.led;
}

pub returns : goal.returns
returns c =
    let text = c.args.text.now in
    let end = c.loop-end.end in
    elim c.loop-end-test.branch [
      | then-loop-end-test+else-not-is_bracket_at w ↦
          bracket_found text end (bracket_here text end (sym w.is_bracket_at.ensures ∙ w.if-not-is_bracket_at.false))
          c.loop-end.invariant.led
      | else-loop-end-test w ↦ bracket_found text end (bracket_nowhere text end (omega arith)) c.loop-end.invariant.led
    ]
