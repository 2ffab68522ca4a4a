use Rattle.std.proofs.Common.{◌+◌, ◌-◌, ap, ap₂, arith, drop}
use Rattle.standings.specs.Standing.{count_left}
use Rattle.standings.proofs.CountLemmas.{count_rest}
use Rattle.standings.proofs.less.all_stand.Goals as goal

pub returns : goal.returns
returns c = λ told left.
    let rows = c.as_slice-2.result.now in
    let places = c.as_slice-places.result.now in
    let from = c.count_above-from.result in
    let to = from + c.count_above-count.result in
    omega (
      arith,
      c.keeps_all.ensures told left,
      count_rest rows places from left,
      count_rest rows (drop from places) (to - from) left,
      ap (λ r. count_left r c.args.alone.now left) c.as_slice.ensures.value,
      ap₂ (λ r l. count_left r l left) c.as_slice-2.ensures.value c.as_slice-places.ensures.value,
    )
