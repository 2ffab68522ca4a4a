use Rattle.std.proofs.Common.{◌≡◌, ◌∙◌, Some, ap, refl, sym}
use Rattle.json_bytes.specs.Listed.{valued}
use Rattle.json_bytes.specs.Strings.{meant}
use Rattle.json_bytes.specs.Values.{found, string_of, value}
use Rattle.tape_import.specs.Asciicast.{what_of}
use Rattle.tape_import.proofs.CastLemmas.{event_is, matched}
use Rattle.tape_import.proofs.event.read_event.Goals as goal

pub returns-in-Some-3 : goal.returns-in-Some-3
returns-in-Some-3 c =
    let name = meant c.in-Some-2.name in
    let second = Some (valued 63 c.in-Some.code) in
    let third = Some (valued 63 c.in-Some.value) in
    let three = matched _ _ c.in_ok-time.field-0 (c.in-Some.time, c.in-Some.code, c.in-Some.value) c.in_ok-time.ensures c.in-Some.is in
    let named : Some name ≡ string_of second = sym (sym (c.in_ok-name.ensures 63) ∙ rw c.in-Some-2.is refl) in
    let is : Some c.in-Some-3.what ≡ what_of name third = sym c.in-Some-3.is ∙ c.in_ok-what.ensures ∙ ap (λ text. what_of text third) c.as_slice.ensures in
    event_is c.args.line.now (found (value 63 c.in-Some.time.now)) second third c.in-Some-scaled_number.time name c.in-Some-3.what
    (three.0) (three.1) (c.in-Some-scaled_number.ensures 63) named is
