use Rattle.std.proofs.Common.{◌≡◌, ◌+◌, arith, false, subst}
use Rattle.sheet.specs.Grid.{row_at}
use Rattle.xterm_print.specs.ChangeLines.{same_row}
use Rattle.xterm_print.proofs.moved.Apart.known.Goals as goal

pub returns-clause-differ : goal.returns-clause-differ
returns-clause-differ c = λ rows apart k low high.
    let same : c.args.self.now.shift ≡ c.args.shift = omega arith in
    subst (λ s. same_row (row_at rows k) (row_at rows (k + s)) ≡ false) same (apart.differ k (omega arith) (omega arith))
