use Rattle.std.proofs.Common.{◌≡◌, ◌∙◌, ap, arith, drop}
use Rattle.std.proofs.lemmas.List.{take_rest}
use Rattle.standings.specs.Standing.{count_left}
use Rattle.standings.proofs.CountLemmas.{count_rest}
use Rattle.standings.proofs.alone.Alone.of_row.Goals as goal

pub returns : goal.returns
returns c = λ left.
    let one = c.args.one.now in
    let other = c.args.other.now in
    let places = c.args.places.now in
    let others = c.args.others.now in
    let count = c.count_begun-count.result in
    let went : c.in_ok-from_slice.field-0.items ≡ drop count places = c.in_ok-from_slice.ensures.items ∙ take_rest places count in
    let come : c.in_ok-from_slice-2.field-0.items ≡ drop count others = c.in_ok-from_slice-2.ensures.items ∙ take_rest others count in
    omega (
      arith,
      count_rest one places count left,
      count_rest other others count left,
      ap (λ l. count_left one l left) went,
      ap (λ l. count_left other l left) come,
      c.count_begun-count.ensures.pairs left,
    )
