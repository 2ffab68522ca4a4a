use Rattle.std.proofs.Common.{◌+◌, ◌∙◌, sym, ap, arith, add-zero}
use Rattle.xterm_picture.specs.Letters.{begins_span}
use Rattle.xterm_rows.proofs.GroupLemmas.{reach_ends, reach_more, reach_none}
use Rattle.xterm_picture.proofs.letters.span_end.Goals as goal

pub loop-end-preserved : goal.loop-end-preserved
loop-end-preserved c = record {
  low = omega arith;
  high = omega arith;
  passed = c.loop-end.invariant.passed
      ∙ reach_more (begins_span c.args.cells.now c.args.run.before) c.loop-end.end c.args.run.end c.loop-end-test.true (sym c.begins_span.ensures ∙ c.if-not-begins_span.true);
}

pub returns-else-not-begins_span-clause-end : goal.returns-else-not-begins_span-clause-end
returns-else-not-begins_span-clause-end c =
    let end = c.loop-end.end in
    let none = reach_ends (begins_span c.args.cells.now c.args.run.before) end c.args.run.end c.loop-end-test.true (sym c.begins_span.ensures ∙ c.if-not-begins_span.false) in
    sym (c.loop-end.invariant.passed ∙ ap (λ n. end + n) none ∙ add-zero end)

pub returns-after-loop-end-clause-end : goal.returns-after-loop-end-clause-end
returns-after-loop-end-clause-end c =
    let end = c.loop-end.end in
    let none = reach_none (begins_span c.args.cells.now c.args.run.before) end c.args.run.end c.loop-end-test.false in
    sym (c.loop-end.invariant.passed ∙ ap (λ n. end + n) none ∙ add-zero end)
