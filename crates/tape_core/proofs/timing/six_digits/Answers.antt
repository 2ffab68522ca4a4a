use Rattle.std.proofs.Common.{◌-◌, ◌<◌, length, take, drop, ap, ◌∙◌, arith, length-append}
use Rattle.std.proofs.lemmas.List.{length-take}
use Rattle.tape_core.proofs.FirstLineLemmas.{six_read}
use Rattle.tape_core.proofs.timing.six_digits.Goals as goal

pub returns-in-48-to-57-clause-number : goal.returns-in-48-to-57-clause-number
returns-in-48-to-57-clause-number c =
    let text = c.args.text.now in
    let rest = take (length text - 6) (drop 6 text) in
    let r = six_read text (omega arith) (omega arith) (omega arith) (omega arith) (omega arith) (omega arith) (omega arith) (omega arith)
    (omega arith) (omega arith) (omega arith) (omega arith) (omega arith) in
    let some : 0 < length r.digits = omega (arith, ap length r.spelled ∙ length-append r.digits rest, length-take (length text - 6) (drop 6 text)) in (
      r.digits,
      r.spelled,
      record {
        some = some;
        digits = r.all;
        value = omega (arith, r.value, c.digit.ensures, c.digit-in-48-to-57.ensures, c.digit-in-48-to-57-2.ensures, c.digit-in-48-to-57-3.ensures, c.digit-in-48-to-57-4.ensures, c.digit-in-48-to-57-5.ensures);
      },
    )
