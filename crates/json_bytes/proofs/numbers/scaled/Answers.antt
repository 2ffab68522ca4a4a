use Rattle.std.proofs.Common.{◌≡◌, ◌+◌, length, min, ◌∙◌, arith}
use Rattle.json_bytes.specs.Numbers.{lowers, raises}
use Rattle.json_bytes.specs.Shown.{shown}
use Rattle.json_bytes.proofs.NumberLemmas.{scaled_is}
use Rattle.json_bytes.proofs.numbers.scaled.Goals as goal

pub returns : goal.returns
returns c =
    let whole = c.args.number.now.whole.now in
    let fraction = c.args.number.now.fraction.now in
    let number = shown c.args.number.now in
    let up = c.args.decimals + raises number in
    let down = length fraction + lowers number in
    let kept = c.kept-kept.result.0 in
    let is = scaled_is whole fraction up down kept c.requires.whole c.requires.fraction c.kept-kept.ensures.digits in
    let first : c.min-first.result ≡ min kept (length whole) = omega arith in
    c.shifted.ensures ∙ rw (c.capped.ensures, c.capped-before.ensures, c.kept-kept.ensures.zeros, first, c.if-number.false) is
