use Rattle.std.proofs.Common.{◌+◌, ◌∙◌, List, ap₂, arith}
use Rattle.sheet.specs.Cells.{Cell}
use Rattle.xterm_print.specs.ChangeLines.{same_row}
use Rattle.xterm_print.proofs.moved.Apart.moved.Goals as goal

pub returns : goal.returns
returns c = λ rows others apart up. record {
  low = omega arith;
  differ = λ k from below.
      ap₂ (λ (a b : List Cell). same_row a b) (up k (omega arith) (omega arith)) (up (k + c.args.shift) (omega arith) (omega arith))
      ∙ apart (k + c.args.shift) (omega arith) (omega arith) (omega arith);
}
