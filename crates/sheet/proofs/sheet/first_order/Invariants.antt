use Rattle.std.proofs.Common.{◌≡◌, ◌-◌}
use Rattle.sheet.specs.Table.{table}
use Rattle.sheet.proofs.sheet.first_order.Given as goal

abbrev pub invariant-loop-line : goal.invariant-loop-line
invariant-loop-line l = l.order.items ≡ table l.line (λ k. k - 1)
