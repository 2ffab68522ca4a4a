use Rattle.std.proofs.Common.{◌∙◌, arith, inl, inr, sym}
use Rattle.std.proofs.lemmas.Bool.{cases_lt}
use Rattle.vt_screen.specs.Cells.{blank}
use Rattle.screen_rows.specs.Runs.{is_like}
use Rattle.screen_rows.proofs.BlockLemmas.{letter_like, prefix_passed}
use Rattle.screen_rows.proofs.runs.like_blocks.Goals as goal

pub loop-len-preserved : goal.loop-len-preserved
loop-len-preserved c = record {
  within = omega arith;
  passed = λ k below. elim (cases_lt k c.loop-len.len) [
    | inl lt ↦ c.loop-len.invariant.passed k lt
    | inr ge ↦ letter_like c.args.one.now _ (sym c.is_drawn.ensures ∙ c.if-is_drawn.false) (c.are_letters.ensures c.if-are_letters.true k ge below)
  ];
}

pub returns-else-are_letters-clause-passed : goal.returns-else-are_letters-clause-passed
returns-else-are_letters-clause-passed c =
    prefix_passed (is_like c.args.one.now) c.args.cells.now c.loop-len.len blank c.loop-len.invariant.within c.loop-len.invariant.passed

pub returns-after-loop-len-clause-passed : goal.returns-after-loop-len-clause-passed
returns-after-loop-len-clause-passed c =
    prefix_passed (is_like c.args.one.now) c.args.cells.now c.loop-len.len blank c.loop-len.invariant.within c.loop-len.invariant.passed
