use Rattle.std.proofs.Common.{arith}
use Rattle.screen_print.specs.Skim.{half}
use Rattle.screen_print.proofs.StartLemmas.{halves_nowhere}
use Rattle.screen_print.proofs.key.Key.may_begin_in.Goals as goal

pub returns-then-self-le-SHORT : goal.returns-then-self-le-SHORT
returns-then-self-le-SHORT c = λ none rest column low high.
    c.may_begin.ensures none c.args.self.now.chars.now c.requires.keyed.start rest column low (omega (arith, high, c.requires.keyed.proper.some))

pub returns : goal.returns
returns c = λ none rest column low high.
    let key = c.args.self.now.chars.now in
    halves_nowhere key c.args.self.now.start c.args.wide c.args.row.now c.cells_to_margin-cells.result.now (half key) c.requires.keyed.start (omega arith)
    c.cells_to_margin-cells.ensures.cells c.cells_to_margin-cells.ensures.text (c.may_start_in.ensures none) rest column high
