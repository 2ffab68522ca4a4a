use Rattle.std.proofs.Common.{◌∙◌, ap, arith, length, sym, take}
use Rattle.std.proofs.lemmas.List.{take-take}
use Rattle.screen_rows.specs.RowText.{characters}
use Rattle.screen_print.proofs.FrontLemmas.{so_alike, so_none, so_past, so_unlike}
use Rattle.screen_print.proofs.by_line.stands_so.Goals as goal

pub returns-then-at-cells : goal.returns-then-at-cells
returns-then-at-cells c =
    so_past c.args.sought.now.text.now c.args.still.now c.args.line c.args.left.now (omega (arith, c.cells-cells.ensures.long))

pub returns-then-alike_len-at : goal.returns-then-alike_len-at
returns-then-alike_len-at c =
    let left = c.args.left.now in
    so_unlike c.args.sought.now.text.now c.args.still.now c.args.line c.cells-cells.result.now left c.cells-cells.ensures.text
    (c.alike_len.ensures.most (length left) (omega arith) (omega arith))

pub returns-then-not-may_stand : goal.returns-then-not-may_stand
returns-then-not-may_stand c =
    so_none c.args.sought.now.text.now c.args.still.now c.args.line c.args.left.now (c.may_stand.ensures c.if-not-may_stand.true)

pub returns : goal.returns
returns c =
    let cells = characters c.cells-cells.result.now in
    let left = c.args.left.now in
    let n = length left in
    let len = c.alike_len.result in
    so_alike c.args.sought.now.text.now c.args.still.now c.args.line c.cells-cells.result.now left c.stands.result
    (omega (arith, c.cells-cells.ensures.long)) c.cells-cells.ensures.text
    (sym (take-take n len cells (omega arith)) ∙ ap (take n) c.alike_len.ensures.same ∙ take-take n len (characters left) (omega arith))
    c.stands.ensures
