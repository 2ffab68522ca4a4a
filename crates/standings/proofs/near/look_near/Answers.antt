use Rattle.std.proofs.Common.{◌≡◌, ◌∙◌, ap, arith, length, sym}
use Rattle.std.proofs.lemmas.List.{length-set}
use Rattle.standings.specs.Rows.{row_below}
use Rattle.standings.specs.Written.{row_written}
use Rattle.standings.proofs.NearLemmas.{near_written}
use Rattle.standings.proofs.PlaceLemmas.{standing_ordered}
use Rattle.standings.proofs.near.look_near.Goals as goal

pub returns : goal.returns
returns c = λ was written many within is clear stood.
    let text = c.args.text.now in
    let rows = c.args.rows.now in
    let above = c.args.above in
    let start = c.saturating_sub-start.result in
    let end = c.min-end.result in
    let long : length rows ≡ length was = ap length is ∙ length-set was above (row_written c.args.before written (row_below was above)) in
    let near = near_written was above c.args.before written (omega (arith, long, c.requires.row)) (omega (arith, many, within)) text rows start end is c.requires.some
    (omega (arith, c.saturating_sub-start.ensures)) (omega (arith, many, c.min-end.ensures, c.requires.within, ap length c.characters_below.ensures)) clear in
    c.look_part.ensures near.front near.middle near.rest (standing_ordered text was c.args.places.now.items stood) (stood ∙ near.before) near.cut ∙ sym near.after
