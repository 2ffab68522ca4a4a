use Rattle.std.proofs.Common.{◌≡◌, ◌-◌, ◌∙◌, ap, get_or, arith}
use Rattle.std.specs.Option.{unwrap_or}
use Rattle.tape_core.proofs.DigitLemmas.{decimals_more, decimals_small}
use Rattle.tape_core.proofs.seconds.six_decimals.Goals as goal

pub loop-i-preserved : goal.loop-i-preserved
loop-i-preserved c =
    let digit : c.unwrap_or-digit.result ≡ get_or c.args.decimals.now c.loop-i.i 48 =
    c.unwrap_or-digit.ensures ∙ ap (λ o. unwrap_or o 48) c.copied.ensures ∙ c.get.ensures.lookup.4 (omega arith) 48 in
    let is = c.from.ensures ∙ ap (λ n. n - 48) digit in
    record {
      value = decimals_more c.args.decimals.now _ _ _ c.requires (omega arith) c.loop-i.invariant.value is;
      small = decimals_small c.args.decimals.now _ _ _ c.requires c.loop-i.invariant.small is;
    }
