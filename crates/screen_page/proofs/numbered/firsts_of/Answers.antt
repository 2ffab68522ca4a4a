use Rattle.std.proofs.Common.{◌-◌, ap, arith, sym, ◌∙◌}
use Rattle.std.proofs.lemmas.List.{length-set}
use Rattle.vt_screen.proofs.Tables.{nth_is}
use Rattle.screen_page.specs.Numbered.{bucket_of}
use Rattle.screen_page.proofs.NumberLemmas.{first_more}
use Rattle.screen_page.proofs.numbered.firsts_of.Goals as goal

pub loop-passed-preserved : goal.loop-passed-preserved
loop-passed-preserved c =
    let numbers = c.args.numbers.now in
    let passed = c.loop-passed.passed in
    let kept = c.loop-passed.invariant in
    let is = c.bucket_of.ensures.value ∙ ap bucket_of (sym (nth_is 0 numbers (24 - passed))) in
    record {
      long = length-set c.loop-passed.firsts c.bucket_of.result (24 - passed) ∙ kept.long;
      first = λ k low high.
          first_more numbers c.loop-passed.firsts passed c.bucket_of.result k (omega arith) is (omega (arith, c.bucket_of.ensures.below, kept.long))
          (λ before. kept.first k before high) low high;
    }
