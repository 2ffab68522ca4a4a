use Rattle.std.proofs.Common.{◌∙◌, ap, subst, sym, take}
use Rattle.std.specs.Char.{is_ascii_digit}
use Rattle.std.specs.List.{AllPass}
use Rattle.json_bytes.proofs.NumberLemmas.{prefix_digits}
use Rattle.json_bytes.proofs.numbers.split_digits.Goals as goal

pub returns-clause-all : goal.returns-clause-all
returns-clause-all c =
    subst (AllPass is_ascii_digit) (sym (c.split_at.ensures.front ∙ ap (λ n. take n c.args.text.now) c.count_digits.ensures.len)) (prefix_digits c.args.text.now)
