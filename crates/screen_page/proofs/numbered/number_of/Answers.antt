use Rattle.std.proofs.Common.{arith, sym, ◌∙◌}
use Rattle.vt_screen.proofs.Tables.{nth_is}
use Rattle.screen_page.proofs.numbered.number_of.Goals as goal

pub returns-then-source-gt0 : goal.returns-then-source-gt0
returns-then-source-gt0 c =
    sym (nth_is 0 c.args.numbers.now c.args.source) ∙ c.requires.carried.same (omega (arith, c.if-source-gt0.true))
