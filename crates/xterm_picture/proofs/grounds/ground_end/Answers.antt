use Rattle.std.proofs.Common.{◌+◌, ◌∙◌, length, sym, ap, arith, add-zero}
use Rattle.xterm_picture.specs.Grounds.{begins_ground}
use Rattle.xterm_rows.proofs.GroupLemmas.{reach_ends, reach_more, reach_none}
use Rattle.xterm_picture.proofs.grounds.ground_end.Goals as goal

pub loop-end-preserved : goal.loop-end-preserved
loop-end-preserved c = record {
  low = omega arith;
  high = omega arith;
  passed = c.loop-end.invariant.passed
      ∙ reach_more (begins_ground c.args.cells.now) c.loop-end.end (length c.args.cells.now) c.loop-end-test.true (sym c.begins_ground.ensures ∙ c.if-not-begins_ground.true);
}

pub returns-else-not-begins_ground-clause-end : goal.returns-else-not-begins_ground-clause-end
returns-else-not-begins_ground-clause-end c =
    let end = c.loop-end.end in
    let none = reach_ends (begins_ground c.args.cells.now) end (length c.args.cells.now) c.loop-end-test.true (sym c.begins_ground.ensures ∙ c.if-not-begins_ground.false) in
    sym (c.loop-end.invariant.passed ∙ ap (λ n. end + n) none ∙ add-zero end)

pub returns-after-loop-end-clause-end : goal.returns-after-loop-end-clause-end
returns-after-loop-end-clause-end c =
    let end = c.loop-end.end in
    let none = reach_none (begins_ground c.args.cells.now) end (length c.args.cells.now) c.loop-end-test.false in
    sym (c.loop-end.invariant.passed ∙ ap (λ n. end + n) none ∙ add-zero end)
