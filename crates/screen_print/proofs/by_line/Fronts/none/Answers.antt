use Rattle.std.proofs.Common.{arith}
use Rattle.screen_print.specs.ByLine.{row_on}
use Rattle.screen_print.proofs.FrontLemmas.{none_known}
use Rattle.screen_print.proofs.by_line.Fronts.none.Goals as goal

pub returns : goal.returns
returns c = λ one line other high. record {
  above = none_known one line (row_on one line) (omega arith);
  there = none_known other 25 (row_on one line) (omega arith);
}
