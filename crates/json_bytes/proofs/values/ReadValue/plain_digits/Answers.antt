use Rattle.std.proofs.Common.{◌∙◌, Some, ap, subst, sym}
use Rattle.std.specs.Char.{is_ascii_digit}
use Rattle.std.specs.List.{AllPass}
use Rattle.std.specs.Option.{option_and_then}
use Rattle.json_bytes.specs.Listed.{valued}
use Rattle.json_bytes.specs.Numbers.{plain_digits}
use Rattle.json_bytes.specs.Values.{number_of}
use Rattle.json_bytes.proofs.ScalarLemmas.{plain_stands}
use Rattle.json_bytes.proofs.values.ReadValue.plain_digits.Goals as goal

pub returns-in-Plain : goal.returns-in-Plain
returns-in-Plain c =
    let found = c.in-Plain.number in
    let same = sym c.digits.ensures in
    record {
      digits = λ depth. sym (ap (λ v. option_and_then plain_digits (number_of (Some v)))
          (ap (valued depth) c.in-Plain.is ∙ plain_stands found.place.now found.count found.len found.plain depth) ∙ ap Some same);
      all = subst (AllPass is_ascii_digit) same found.plain.counted.all;
    }
