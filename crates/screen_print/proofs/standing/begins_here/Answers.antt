use Rattle.std.proofs.Common.{◌-◌, ◌∙◌, drop, false, length, sym, take, true}
use Rattle.std.proofs.lemmas.Bool.{le-leb}
use Rattle.screen_print.proofs.QuietLemmas.{begins_in}
use Rattle.screen_print.proofs.standing.begins_here.Goals as goal

pub returns-then-not-agrees : goal.returns-then-not-agrees
returns-then-not-agrees c =
    sym (begins_in c.args.text.now c.args.still.now c.args.line c.args.column c.args.cells.now false c.sound.ensures.whole c.requires.low c.requires.high
    c.requires.left c.requires.right c.requires.cells (c.agrees.ensures.no c.if-not-agrees.true))

pub returns-then-text-cells : goal.returns-then-text-cells
returns-then-text-cells c =
    let cells = c.args.cells.now in
    let part = take (length cells - (c.args.column - 1)) (drop (c.args.column - 1) cells) in
    le-leb (length c.args.text.now) (length part) c.if-text-cells.true
    ∙ sym (begins_in c.args.text.now c.args.still.now c.args.line c.args.column cells true c.sound.ensures.whole c.requires.low c.requires.high
    c.requires.left c.requires.right c.requires.cells (c.agrees.ensures.yes c.if-not-agrees.false c.if-text-cells.true))
