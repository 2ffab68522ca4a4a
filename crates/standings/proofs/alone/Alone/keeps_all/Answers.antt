use Rattle.std.proofs.Common.{ap₂, arith}
use Rattle.standings.specs.Standing.{count_left}
use Rattle.standings.proofs.alone.Alone.keeps_all.Goals as goal

pub returns : goal.returns
returns c = λ told pairs left. omega (
  arith,
  c.keeps_all.ensures told left,
  pairs left,
  ap₂ (λ rows places. count_left rows places left) c.as_slice.ensures.value c.as_slice-2.ensures.value,
  ap₂ (λ rows places. count_left rows places left) c.as_slice-3.ensures.value c.as_slice-4.ensures.value,
)
