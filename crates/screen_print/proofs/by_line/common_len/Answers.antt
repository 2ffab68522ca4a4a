use Rattle.std.proofs.Common.{subst}
use Rattle.screen_print.specs.ByLine.{IsCommon, row_on}
use Rattle.screen_print.proofs.FrontLemmas.{in_common}
use Rattle.screen_print.proofs.by_line.common_len.Goals as goal

pub returns-clause-len : goal.returns-clause-len
returns-clause-len c =
    let still = c.args.still.now in
    let line = c.args.line in
    let len = c.alike_len-len.result in
    subst (λ these. IsCommon (row_on still line) these len) c.cells.ensures.text
    (in_common (row_on still line) c.cells.result.now c.cells-2.result.now len c.cells-2.ensures.text c.alike_len-len.ensures.same c.alike_len-len.ensures.most)

pub returns-clause-known : goal.returns-clause-known
returns-clause-known c = λ _.
    let still = c.args.still.now in
    let line = c.args.line in
    let len = c.alike_len-len.result in
    subst (λ these. IsCommon (row_on still line) these len) c.cells.ensures.text
    (in_common (row_on still line) c.cells.result.now c.cells-2.result.now len c.cells-2.ensures.text c.alike_len-len.ensures.same c.alike_len-len.ensures.most)
