use Rattle.std.proofs.Common.{◌≡◌, ap, ap₂, arith, drop, length}
use Rattle.std.proofs.lemmas.List.{take_at}
use Rattle.standings.specs.Less.{for_left}
use Rattle.standings.specs.Standing.{count_left}
use Rattle.standings.proofs.surplus.find_surplus.Goals as goal

pub returns-clause-surplus : goal.returns-clause-surplus
returns-clause-surplus c = λ left begins.
    let counts = c.take_off.new.counts in
    let many : length counts ≡ c.resize.new.self.len = omega (arith, c.take_off.auto.counts, c.count_lefts.auto.counts, c.as_mut_slice-counts.ensures.len) in
    omega (
      arith,
      ap (λ l. for_left l left) (take_at counts (drop (length counts) c.resize.new.self.items) c.resize.new.self.len many),
      c.take_off.ensures left begins,
      c.count_lefts.ensures left begins,
      ap₂ (λ rows places. count_left rows places left) c.as_slice.ensures.value c.as_slice-2.ensures.value,
      ap₂ (λ rows places. count_left rows places left) c.as_slice-3.ensures.value c.as_slice-4.ensures.value,
    )
