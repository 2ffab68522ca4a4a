use Rattle.std.proofs.Common.{◌∙◌, Some, ap, sym}
use Rattle.json_bytes.specs.Listed.{valued}
use Rattle.json_bytes.specs.Values.{string_of}
use Rattle.json_bytes.proofs.ScalarLemmas.{plain_stands}
use Rattle.json_bytes.proofs.values.ReadValue.into_text.Goals as goal

pub returns-in-Plain : goal.returns-in-Plain
returns-in-Plain c = λ depth.
    let found = c.in-Plain.field-0 in
    sym (ap (λ v. string_of (Some v)) (ap (valued depth) c.in-Plain.is ∙ plain_stands found.place.now found.count found.len found.plain depth))
