use Rattle.std.proofs.Common.{◌∙◌, arith}
use Rattle.json_bytes.proofs.NumberLemmas.{capped_more}
use Rattle.json_bytes.proofs.numbers.exponent.Goals as goal

pub loop-digit-preserved : goal.loop-digit-preserved
loop-digit-preserved c =
    c.min-n.ensures ∙ capped_more 0 c.args.digits.now _ _ _ _ c.requires (omega arith) c.loop-digit.invariant c.from.ensures
