use Rattle.std.proofs.Common.{◌≡◌, ◌∙◌, None, Some, ap, refl, sym}
use Rattle.json_bytes.specs.Strings.{meant, string_at}
use Rattle.json_bytes.specs.Values.{found}
use Rattle.json_bytes.proofs.ScalarLemmas.{value_read}
use Rattle.json_bytes.proofs.strings.string_in.Goals as goal

pub returns-in-Some : goal.returns-in-Some
returns-in-Some c = λ depth.
    let text = c.args.text.now in
    let read : string_at text ≡ Some (meant c.in-Some.bytes, c.in-Some._rest.now) = sym c.in_ok-bytes.ensures ∙ rw c.in-Some.is refl in
    sym ((value_read depth text).1 ∙ ap found read)

pub returns-in-None : goal.returns-in-None
returns-in-None c = λ depth.
    let text = c.args.text.now in
    let read : string_at text ≡ None = sym c.in_ok-bytes.ensures ∙ rw c.in-None.is refl in
    sym ((value_read depth text).1 ∙ ap found read)
