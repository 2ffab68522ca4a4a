use Rattle.std.proofs.Common.{◌≡◌, length, arith, ◌∙◌, sym}
use Rattle.sheet.proofs.Marked.{marks_are}
use Rattle.sheet.proofs.sheet.marked.block_marks.Goals as goal

pub returns : goal.returns
returns c =
    marks_are c.args.first c.args.origins.now c.loop-i.marks (c.loop-i.invariant.long ∙ sym c.requires.block) (λ k below. c.loop-i.invariant.each k (omega arith))
