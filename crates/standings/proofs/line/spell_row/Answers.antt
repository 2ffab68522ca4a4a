use Rattle.std.proofs.Common.{◌+◌, ◌-◌, ◌++◌, ◌∙◌, ap, arith, drop, encode_utf8, sym, take}
use Rattle.std.specs.List.{flat_map}
use Rattle.standings.proofs.SpeltLemmas.{spelt_split}
use Rattle.standings.proofs.line.spell_row.Goals as goal

pub loop-at-preserved : goal.loop-at-preserved
loop-at-preserved c =
    let chars = c.args.chars.now in
    let at = c.loop-at.at in
    let next = at + c.min-count.result in
    record {
      high = omega (arith, c.min-count.ensures, c.loop-at-test.true);
      text = c.spell_some.ensures c.if-not-spell_some.false
          ∙ ap (λ l. l ++ flat_map encode_utf8 (take (next - at) (drop at chars))) c.loop-at.invariant.text
          ∙ sym (spelt_split chars at next (omega arith));
    }
