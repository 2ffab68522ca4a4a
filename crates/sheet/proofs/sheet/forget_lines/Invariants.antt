use Rattle.std.proofs.Common.{◌≡◌}
use Rattle.sheet.specs.Grid.{unknown_from}
use Rattle.sheet.proofs.sheet.forget_lines.Given as goal

-- of the lines before this one no origin is known
abbrev pub invariant-loop-line : goal.invariant-loop-line
invariant-loop-line l = l.origins ≡ unknown_from l.first l.line l.fn.origins
