use Rattle.std.proofs.Common.{arith}
use Rattle.std.proofs.lemmas.Bool.Decides.{nat_tests}
use Rattle.characters.specs.Width.{width}
use Rattle.characters.proofs.Spacing.{none_is_below}
use Rattle.characters.proofs.columns.width.Goals as goal
use Rattle.characters.proofs.columns.width.Goals.{then-c-ge-FIRST_SPACING_MARK, else-c-ge-FIRST_SPACING_MARK}

pub returns-clause-value : goal.returns-clause-value
unfolding width
returns-clause-value c = elim c.if-c-ge-FIRST_SPACING_MARK.branch [
  | then-c-ge-FIRST_SPACING_MARK w ↦ grind (arith, nat_tests)
  | else-c-ge-FIRST_SPACING_MARK w ↦ grind (arith, nat_tests, none_is_below c.args.c)
]
