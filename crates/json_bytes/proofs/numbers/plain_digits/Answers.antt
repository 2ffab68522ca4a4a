use Rattle.std.proofs.Common.{◌<◌, ◌∙◌, Some, ap, length, subst, sym}
use Rattle.std.specs.Char.{is_ascii_digit}
use Rattle.std.specs.List.{AllPass}
use Rattle.std.specs.Option.{option_and_then}
use Rattle.json_bytes.specs.Numbers.{plain_digits}
use Rattle.json_bytes.specs.Values.{found, number_of, value}
use Rattle.json_bytes.proofs.ScalarLemmas.{plain_read}
use Rattle.json_bytes.proofs.numbers.plain_digits.Goals as goal

pub returns-in-Some : goal.returns-in-Some
returns-in-Some c =
    let number = c.in-Some.number in
    let same = sym c.digits.ensures in
    record {
      digits = λ depth. sym (ap (λ text. option_and_then plain_digits (number_of (found (value depth text)))) (sym c.in-Some.ensures)
          ∙ plain_read number.place.now number.count number.len number.plain depth ∙ ap Some same);
      all = subst (AllPass is_ascii_digit) same number.plain.counted.all;
      some = subst (λ ds. 0 < length ds) same number.plain.counted.some;
    }
