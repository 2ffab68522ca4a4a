use Rattle.std.proofs.Common.{◌∙◌, ap, arith, take, take_all}
use Rattle.std.specs.Cmp.Lexicographic.{pointwise}
use Rattle.screen_rows.specs.SameRows.{same_cell}
use Rattle.screen_rows.proofs.SameLemmas.{narrow_same}
use Rattle.screen_rows.proofs.same.same_cells.Goals as goal

pub returns-then-narrow : goal.returns-then-narrow
returns-then-narrow c =
    let sound = c.requires c.if-narrow.true in
    c.same_first.ensures.same ∙ narrow_same c.args.one.now c.args.other.now sound.0 sound.1

pub returns : goal.returns
returns c =
    c.same_first-2.ensures.same
    ∙ ap (λ l. pointwise same_cell l (take 132 c.args.other.now.cells)) (take_all 132 c.args.one.now.cells (omega (arith, c.same_first-2.ensures.whole)))
    ∙ ap (pointwise same_cell c.args.one.now.cells) (take_all 132 c.args.other.now.cells (omega (arith, c.same_first-2.ensures.other_whole)))
