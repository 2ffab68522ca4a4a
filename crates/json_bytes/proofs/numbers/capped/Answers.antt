use Rattle.std.proofs.Common.{◌∙◌, arith}
use Rattle.json_bytes.proofs.NumberLemmas.{capped_more}
use Rattle.json_bytes.proofs.numbers.capped.Goals as goal

pub loop-digit-preserved : goal.loop-digit-preserved
loop-digit-preserved c =
    c.min-n.ensures ∙ capped_more c.args.before c.args.digits.now _ _ _ _ c.requires.digits (omega arith) c.loop-digit.invariant c.from.ensures
