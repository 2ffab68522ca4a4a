use Rattle.std.proofs.Common.{◌≡◌, ◌∙◌, Some, ap, arith, get_or, sym}
use Rattle.json_bytes.specs.Strings.{hex_digit}
use Rattle.json_bytes.proofs.StringLemmas.{ascii_item, low_digit}
use Rattle.json_bytes.proofs.strings.ascii_at.Goals as goal

pub returns-clause-value : goal.returns-clause-value
returns-clause-value c =
    let text = c.args.text.now in
    let high = get_or text 4 0 in
    let digit : hex_digit high ≡ Some c.from.result = low_digit high (omega arith) (omega arith) ∙ ap Some (sym c.from.ensures) in
    ascii_item text c.from.result c.in_ok-low.low (omega arith) (sym c.begins_low_unit.ensures ∙ c.if-not-begins_low_unit.false) digit
    (sym c.in_ok-low.ensures.value) (omega arith) (omega (arith, c.in_ok-low.ensures.small))
