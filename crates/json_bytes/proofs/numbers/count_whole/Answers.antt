use Rattle.std.proofs.Common.{◌∙◌, ap, subst, sym, take, refl}
use Rattle.std.specs.Char.{is_ascii_digit}
use Rattle.std.specs.List.{AllPass}
use Rattle.json_bytes.proofs.NumberLemmas.{nought_first, prefix_digits}
use Rattle.json_bytes.proofs.numbers.count_whole.Goals as goal

pub returns-then-begins : goal.returns-then-begins
returns-then-begins c =
    let first = nought_first c.args.text.now (sym c.begins.ensures ∙ c.if-begins.true) in
    record { count = rw (sym c.begins.ensures ∙ c.if-begins.true) (sym (first.1)); len = rw (sym c.begins.ensures ∙ c.if-begins.true) refl; all = first.2; within = first.0 }

pub returns-else-begins : goal.returns-else-begins
returns-else-begins c =
    let text = c.args.text.now in
    let counted = c.count_digits.ensures in
    record {
      count = rw (sym c.begins.ensures ∙ c.if-begins.false) counted.count;
      len = rw (sym c.begins.ensures ∙ c.if-begins.false) counted.len;
      all = subst (AllPass is_ascii_digit) (sym (ap (λ n. take n text) counted.len)) (prefix_digits text);
      within = counted.within;
    }
