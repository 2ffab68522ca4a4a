use Rattle.std.proofs.Common.{arith}
use Rattle.screen_print.specs.ByLine.{row_on}
use Rattle.screen_print.proofs.FrontLemmas.{behind_less, behind_none, behind_past, behind_same}
use Rattle.screen_print.proofs.by_line.stands_behind.Goals as goal

pub returns-then-place-cells-clause-stands : goal.returns-then-place-cells-clause-stands
returns-then-place-cells-clause-stands c =
    let place = c.args.place in
    behind_past c.args.sought.now.text.now c.args.still.now c.args.line (row_on c.args.one.now place.line) place.column
    c.requires.place.column_low c.requires.place.column_high (omega (arith, c.cells-cells.ensures.long))

pub returns-then-not-may_stand-clause-stands : goal.returns-then-not-may_stand-clause-stands
returns-then-not-may_stand-clause-stands c =
    let place = c.args.place in
    behind_none c.args.sought.now.text.now c.args.still.now c.args.line (row_on c.args.one.now place.line) place.column
    c.requires.place.column_low c.requires.place.column_high (c.may_stand.ensures c.if-not-may_stand.true)

pub returns-then-len-place-clause-stands : goal.returns-then-len-place-clause-stands
returns-then-len-place-clause-stands c =
    let place = c.args.place in
    behind_less c.args.sought.now.text.now c.args.still.now c.args.line (row_on c.args.one.now place.line) c.common_len-len.result place.column
    c.requires.place.column_low c.requires.place.column_high c.common_len-len.ensures.len c.if-len-place.true

pub returns-clause-stands : goal.returns-clause-stands
returns-clause-stands c =
    let place = c.args.place in
    behind_same c.args.sought.now.text.now c.args.still.now c.args.line (row_on c.args.one.now place.line) c.common_len-len.result place.column c.stands.result
    c.requires.place.column_low c.requires.place.column_high c.common_len-len.ensures.len
    c.if-len-place.false (omega (arith, c.cells-cells.ensures.long)) c.stands.ensures
