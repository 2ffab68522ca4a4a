use Rattle.std.proofs.Common.{length, ap, ◌∙◌, arith}
use Rattle.sheet.specs.Grid.{unknown_from}
use Rattle.sheet.proofs.Turns.{length-turned}
use Rattle.sheet.proofs.sheet.turn_origins.Goals as goal

pub forget_lines-requires-clause-high : goal.forget_lines-requires-clause-high
forget_lines-requires-clause-high c = omega (arith, ap length c.turn.ensures, length-turned c.args.n c.args.top c.args.bottom c.args.origins.now)

pub returns : goal.returns
returns c = c.forget_lines.ensures ∙ ap (unknown_from c.args.first c.args.last) c.turn.ensures
