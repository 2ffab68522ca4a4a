use Rattle.std.proofs.Common.{slice_index_or}
use Rattle.vt_screen.specs.Cells.{blank}
use Rattle.screen_rows.specs.Ink.{is_blank}
use Rattle.screen_rows.specs.RowText.{is_space}
use Rattle.screen_rows.proofs.BlockLemmas.{blank_is_space, suffix_passed}
use Rattle.screen_rows.proofs.cells.without_blocks.Goals as goal

pub returns-else-are_blank-clause-passed : goal.returns-else-are_blank-clause-passed
returns-else-are_blank-clause-passed c =
    suffix_passed is_blank c.args.cells.now c.loop-len.len blank c.loop-len.invariant.within c.loop-len.invariant.passed

pub returns-after-loop-len-clause-passed : goal.returns-after-loop-len-clause-passed
returns-after-loop-len-clause-passed c =
    suffix_passed is_blank c.args.cells.now c.loop-len.len blank c.loop-len.invariant.within c.loop-len.invariant.passed

pub returns-else-are_blank-clause-spaces : goal.returns-else-are_blank-clause-spaces
returns-else-are_blank-clause-spaces c =
    suffix_passed is_space c.args.cells.now c.loop-len.len blank c.loop-len.invariant.within
    (λ k low high. blank_is_space (slice_index_or c.args.cells.now k blank) (c.loop-len.invariant.passed k low high))

pub returns-after-loop-len-clause-spaces : goal.returns-after-loop-len-clause-spaces
returns-after-loop-len-clause-spaces c =
    suffix_passed is_space c.args.cells.now c.loop-len.len blank c.loop-len.invariant.within
    (λ k low high. blank_is_space (slice_index_or c.args.cells.now k blank) (c.loop-len.invariant.passed k low high))
