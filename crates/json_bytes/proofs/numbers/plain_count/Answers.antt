use Rattle.std.proofs.Common.{◌∙◌, ap, sym, take}
use Rattle.std.specs.Option.{option_and_then}
use Rattle.json_bytes.specs.Numbers.{plain_digits}
use Rattle.json_bytes.specs.Values.{found, number_of, value}
use Rattle.json_bytes.proofs.ScalarLemmas.{plain_read}
use Rattle.json_bytes.proofs.numbers.plain_count.Goals as goal

pub returns-in-Some : goal.returns-in-Some
returns-in-Some c =
    let number = c.in-Some.number in (
      take number.len number.place.now,
      number.plain.counted,
      λ depth. ap (λ text. option_and_then plain_digits (number_of (found (value depth text)))) (sym c.in-Some.ensures)
          ∙ plain_read number.place.now number.count number.len number.plain depth,
    )
