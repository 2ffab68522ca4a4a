use Rattle.std.proofs.Common.{◌≡◌}
use Rattle.screen_page.specs.Numbered.{mixed}
use Rattle.screen_page.proofs.numbered.row_number.Given as goal

-- the cells so far are mixed in
abbrev pub invariant-loop-at : goal.invariant-loop-at
invariant-loop-at l = l.number ≡ mixed l.row.cells l.at
