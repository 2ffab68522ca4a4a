use Rattle.std.proofs.Common.{false, ℕ, ◌<◌, length, ap, ◌∙◌, arith}
use Rattle.std.proofs.lemmas.List.{length-set, get_or_default}
use Rattle.std.proofs.lemmas.Bool.Decides.{nat_tests}
use Rattle.sheet.specs.Cells.{lettered}
use Rattle.sheet.proofs.Runs.{run_step, run_open, run_narrow, run_left, run_none}
use Rattle.sheet.proofs.row.put_letters.Goals as goal

pub loop-i-preserved : goal.loop-i-preserved
loop-i-preserved c = record {
  len = length-set _ _ _ ∙ c.loop-i.invariant.len;
  left = run_step c.args.rendition c.args.letters.now c.args.column c.loop-i.i c.loop-i.cells _ _ c.requires.low (omega (arith, c.loop-i.invariant.len)) c.loop-i-test.true
      (c.lettered.ensures ∙ ap (λ (x : ℕ). lettered x false c.args.rendition)
      (c.index-letters-i.is ∙ get_or_default c.args.letters.now c.loop-i.i c.index-letters-i.result 0 c.loop-i-test.true)) c.loop-i.invariant.left;
}

pub returns-then-is_empty : goal.returns-then-is_empty
returns-then-is_empty c = run_none c.args.rendition c.args.letters.now c.args.column c.args.cells.now (grind (arith, nat_tests))

pub mend_before-requires-clause-open : goal.mend_before-requires-clause-open
mend_before-requires-clause-open c =
    let some : 0 < length c.args.letters.now = grind (arith, nat_tests) in
    run_open c.args.rendition c.args.letters.now c.args.column c.loop-i.i c.args.cells.now c.loop-i.cells c.requires.low c.requires.high (omega arith) c.loop-i.invariant.left some

pub mend_behind-requires-clause-narrow : goal.mend_behind-requires-clause-narrow
mend_behind-requires-clause-narrow c =
    let some : 0 < length c.args.letters.now = grind (arith, nat_tests) in
    run_narrow c.args.rendition c.args.letters.now c.args.column c.loop-i.i c.args.cells.now c.loop-i.cells c.requires.low c.requires.high (omega arith) c.loop-i.invariant.left
    _ c.paper-paper.ensures _ c.mend_before.ensures some

pub returns : goal.returns
returns c =
    run_left c.args.rendition c.args.letters.now c.args.column c.loop-i.i c.args.cells.now c.loop-i.cells c.requires.low c.requires.high (omega arith) c.loop-i.invariant.left
    _ c.paper-paper.ensures _ c.mend_before.ensures _ c.requires.whole c.mend_behind.ensures
