use Rattle.std.proofs.Common.{refl, ◌/◌, ◌%◌}
use Rattle.sheet.proofs.Numbers.{made_cell, made_is, pen_bits, pen_ink, pen_joined, pen_paper}
use Rattle.sheet.proofs.cell.Cell.of.Goals as goal

pub invariant_of-result : goal.invariant_of-result
invariant_of-result c =
    let style = c.rendition.inside.style in
    let is = c.rendition.invariant in
    let seen = c.rendition.view_is in
    made_cell _ _ c.args.character c.args.first c.args.second c.number-sort.result (style / 33554432 / 33554432 % 256) (style / 33554432 % 33554432) (style % 33554432) c.args.kind c.args.rendition
    refl (pen_joined style c.args.rendition is seen c.number-sort.result) c.ranges.character.0 c.requires.numbers c.number-sort.ensures.below
    (pen_bits style c.args.rendition is seen) is.paper is.ink
    c.number-sort.ensures.again (pen_ink style c.args.rendition is seen) (pen_paper style c.args.rendition is seen)

pub returns : goal.returns
returns c =
    let style = c.rendition.inside.style in
    let is = c.rendition.invariant in
    let seen = c.rendition.view_is in
    made_is _ _ c.args.character c.args.first c.args.second c.number-sort.result (style / 33554432 / 33554432 % 256) (style / 33554432 % 33554432) (style % 33554432) c.args.kind c.args.rendition
    refl (pen_joined style c.args.rendition is seen c.number-sort.result) c.ranges.character.0 c.requires.numbers c.number-sort.ensures.below
    (pen_bits style c.args.rendition is seen) is.paper is.ink
    c.number-sort.ensures.again (pen_ink style c.args.rendition is seen) (pen_paper style c.args.rendition is seen)
