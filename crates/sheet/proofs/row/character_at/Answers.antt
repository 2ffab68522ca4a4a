use Rattle.std.proofs.Common.{◌∙◌, sym, arith}
use Rattle.sheet.proofs.Rows.{past_the_first}
use Rattle.sheet.proofs.row.character_at.Goals as goal

pub returns-then-covered_at-clause-low : goal.returns-then-covered_at-clause-low
returns-then-covered_at-clause-low c =
    omega (arith, past_the_first c.args.cells.now c.args.column c.requires.whole c.requires.low (sym c.covered_at.ensures.value ∙ c.if-covered_at.true))
