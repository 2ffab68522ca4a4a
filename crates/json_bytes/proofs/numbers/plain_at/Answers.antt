use Rattle.std.proofs.Common.{◌≡◌, ◌∙◌, ap, arith, drop, false, length, min, nat_eq, sym, take}
use Rattle.std.specs.Str.Parse.{digits_value}
use Rattle.std.proofs.lemmas.List.{length-take-le}
use Rattle.json_bytes.specs.Marks.{begins}
use Rattle.json_bytes.specs.Numbers.{greatest}
use Rattle.json_bytes.proofs.NumberLemmas.{digits_alone, not_zero}
use Rattle.json_bytes.proofs.numbers.plain_at.Goals as goal

pub invariant_of-result : goal.invariant_of-result
invariant_of-result c =
    let text = c.args.text.now in
    let len = c.count_whole-count.result.1 in
    let counted = c.count_whole-count.ensures in
    let tests = c.is_end.ensures c.if-is_end.true in
    let back = c.split_at.ensures.back in
    let many : length (take len text) ≡ len = length-take-le len text counted.within in
    let some : nat_eq (length (take len text)) 0 ≡ false = not_zero (length (take len text)) (omega (arith, many)) in
    record {
      plain = record {
        number = digits_alone text (take len text) (drop len text) (ap (λ n. take n text) counted.len) (ap (λ n. drop n text) counted.len) some
            (ap (begins 46) (sym back) ∙ tests.0) (ap (begins 101) (sym back) ∙ tests.1) (ap (begins 69) (sym back) ∙ tests.2);
        counted = record {
          all = counted.all;
          some = omega (arith, many);
          number = counted.count ∙ ap (λ n. min greatest (digits_value 10 (take n text))) (sym counted.len);
          whole = sym many;
        };
        within = counted.within;
      };
    }
