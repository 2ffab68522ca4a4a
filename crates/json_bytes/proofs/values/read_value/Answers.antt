use Rattle.std.proofs.Common.{◌≡◌, ◌∙◌, None, Some, ap, false, refl, sym}
use Rattle.json_bytes.specs.Listed.{standing}
use Rattle.json_bytes.specs.Marks.{begins}
use Rattle.json_bytes.specs.Strings.{meant, string_at}
use Rattle.json_bytes.specs.Values.{as_part, behind, string, value}
use Rattle.json_bytes.proofs.ValueLemmas.{number_stands, quoted_value}
use Rattle.json_bytes.proofs.values.read_value.Goals as goal

pub returns-in-Some : goal.returns-in-Some
returns-in-Some c =
    let text = c.args.text.now in
    let read : string_at text ≡ Some (meant c.in-Some.bytes, c.in-Some.rest.now) = sym c.in_ok-bytes.ensures ∙ rw c.in-Some.is refl in
    sym (quoted_value c.args.depth text (sym c.begins.ensures ∙ c.if-begins.true) ∙ ap (as_part string) read)

pub returns-in-None : goal.returns-in-None
returns-in-None c =
    let text = c.args.text.now in
    let read : string_at text ≡ None = sym c.in_ok-bytes.ensures ∙ rw c.in-None.is refl in
    sym (quoted_value c.args.depth text (sym c.begins.ensures ∙ c.if-begins.true) ∙ ap (as_part string) read)

pub returns-in-Some-plain_at : goal.returns-in-Some-plain_at
returns-in-Some-plain_at c =
    let number = c.in-Some-plain_at.number in
    let place = c.in-Some-plain_at.ensures in
    let other : begins 34 number.place.now ≡ false = ap (begins 34) place ∙ sym c.begins.ensures ∙ c.if-begins.false in
    ap (λ rest. Some (standing c.args.depth number.place.now, rest)) c.behind.ensures
    ∙ number_stands c.args.depth number.place.now _ other (ap behind number.plain.number) ∙ ap (value c.args.depth) place
