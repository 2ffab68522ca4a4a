use Rattle.std.proofs.Common.{◌∙◌, ◌-◌, ◌&&◌, ap, sym, take}
use Rattle.std.proofs.lemmas.Bool.{and_left}
use Rattle.screen_print.specs.ByLine.{begins_on, row_on, stands_at_no_end}
use Rattle.screen_print.specs.FindLines.{place_in}
use Rattle.screen_print.proofs.FrontLemmas.{left_is}
use Rattle.screen_print.proofs.by_line.is_told.Goals as goal

pub returns-then-not-stands : goal.returns-then-not-stands
returns-then-not-stands c =
    let text = c.args.sought.now.text.now in
    sym (and_left (begins_on text c.args.still.now c.args.line c.args.column)
    (stands_at_no_end text c.args.ends (take (c.args.column - 1) (row_on c.args.still.now c.args.line)))
    (sym c.stands.ensures ∙ c.if-not-stands.true))

pub returns : goal.returns
returns c =
    let text = c.args.sought.now.text.now in
    let still = c.args.still.now in
    let left = left_is still (place_in c.args.line c.args.column) c.cells.result.now c.cells.ensures.text in
    c.is_at_no_end.ensures ∙ ap (stands_at_no_end text c.args.ends) left
    ∙ ap (λ b. b && stands_at_no_end text c.args.ends (take (c.args.column - 1) (row_on still c.args.line))) (sym (sym c.stands.ensures ∙ c.if-not-stands.false))
