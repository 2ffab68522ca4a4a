use Rattle.std.proofs.Common.{◌∙◌, arith, sym}
use Rattle.std.proofs.lemmas.Grind.{common_steps}
use Rattle.json_bytes.proofs.NumberLemmas.{capped_next}
use Rattle.json_bytes.proofs.numbers.count_digits.Goals as goal

pub loop-b-preserved : goal.loop-b-preserved
loop-b-preserved c = record {
  count = c.min-count.ensures
      ∙ capped_next 0 c.args.text.now _ _ _ _ (sym c.is_ascii_digit.ensures.value ∙ c.if-not-is_ascii_digit.false) (omega arith) c.loop-b.invariant.count c.from.ensures;
  len = omega (arith, c.loop-b.invariant.len);
  digits = grind (arith, common_steps, c.loop-b.invariant.digits);
}
