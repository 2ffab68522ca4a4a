use Rattle.std.proofs.Common.{ap, arith, length, sym}
use Rattle.xterm_print.proofs.KeptLemmas.{other_lengths}
use Rattle.xterm_print.proofs.kept.KeptRow.place_apart.Goals as goal

pub returns-then-len-cells : goal.returns-then-len-cells
returns-then-len-cells c = record {
  same = other_lengths c.args.self.now c.args.cells.now (λ long. c.if-len-cells.true (omega (arith, c.len.ensures, c.self.inside.cells.ok.0, ap length c.self.view_is, long)));
  equal = λ is. absurd (cc);
  agree = λ k low high. absurd (omega (arith, low, high));
  within = omega arith;
}

pub returns-then-differs_still : goal.returns-then-differs_still
returns-then-differs_still c = record {
  same = sym (c.differs_still.ensures c.if-differs_still.true);
  equal = λ is. absurd (cc);
  agree = λ k low high. absurd (omega (arith, low, high));
  within = omega arith;
}
