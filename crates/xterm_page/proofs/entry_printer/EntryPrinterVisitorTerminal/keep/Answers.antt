use Rattle.std.proofs.Common.{arith}
use Rattle.xterm_page.proofs.KeptLemmas.{kept_by}
use Rattle.xterm_page.proofs.entry_printer.EntryPrinterVisitorTerminal.keep.Goals as goal

pub returns-clause-keeps : goal.returns-clause-keeps
returns-clause-keeps c = λ profile before shows. record {
  all = kept_by c.size_stays.ensures c.screen.result.now.picture c.args.terminal.now profile before c.in_ok-rows.rows.items
      c.screen.ensures.value shows c.in_ok-rows.ensures;
  apart = record {
    within = omega arith;
    apart = λ one other low below high. absurd (omega (arith, below, high));
  };
}
