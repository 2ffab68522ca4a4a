use Rattle.std.proofs.Common.{◌∙◌, arith}
use Rattle.tape_core.proofs.DigitLemmas.{capped_more}
use Rattle.tape_core.proofs.text.number.Goals as goal

pub loop-digit-preserved : goal.loop-digit-preserved
loop-digit-preserved c =
    c.min-n.ensures ∙ capped_more c.args.digits.now _ _ _ _ c.requires.digits (omega arith) c.loop-digit.invariant c.from.ensures
