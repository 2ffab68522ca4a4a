use Rattle.std.proofs.Common.{◌∙◌, Some, ap, take}
use Rattle.std.specs.Option.{option_and_then}
use Rattle.json_bytes.specs.Listed.{valued}
use Rattle.json_bytes.specs.Numbers.{plain_digits}
use Rattle.json_bytes.specs.Values.{number_of}
use Rattle.json_bytes.proofs.ScalarLemmas.{plain_stands}
use Rattle.json_bytes.proofs.values.ReadValue.plain_count.Goals as goal

pub returns-in-Plain : goal.returns-in-Plain
returns-in-Plain c =
    let found = c.in-Plain.number in (
      take found.len found.place.now,
      found.plain.counted,
      λ depth. ap (λ v. option_and_then plain_digits (number_of (Some v)))
          (ap (valued depth) c.in-Plain.is ∙ plain_stands found.place.now found.count found.len found.plain depth),
    )
