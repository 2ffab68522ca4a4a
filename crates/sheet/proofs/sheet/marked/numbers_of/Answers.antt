use Rattle.std.proofs.Common.{arith, ◌∙◌}
use Rattle.sheet.proofs.Marked.{number_more, numbers_are}
use Rattle.std.proofs.lemmas.List.{length-set}
use Rattle.sheet.proofs.sheet.marked.numbers_of.Goals as goal

pub loop-i-preserved : goal.loop-i-preserved
loop-i-preserved c = record {
  long = length-set c.loop-i.numbers c.loop-i.i _ ∙ c.loop-i.invariant.long;
  each = number_more c.args.marks.now c.loop-i.numbers c.loop-i.i (omega arith) (omega arith) c.loop-i.invariant.each;
}

pub returns : goal.returns
returns c =
    numbers_are c.args.marks.now c.loop-i.numbers (omega arith) (λ k below. c.loop-i.invariant.each k (omega arith))
