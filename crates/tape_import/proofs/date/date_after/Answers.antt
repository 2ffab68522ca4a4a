use Rattle.std.proofs.Common.{◌≡◌, ◌+ℤ◌, false, true, pos, w64, arith, ap, ◌∙◌}
use Rattle.std.proofs.lemmas.Int.{to_z_pos}
use Rattle.jiff.specs.Words.{epoch_day}
use Rattle.jiff.proofs.SpanFacts.{can_add-days, date_add-days, signed_arith}
use Rattle.tape_import.proofs.DateLemmas.{first_day}
use Rattle.tape_import.proofs.date.date_after.Goals as goal

pub unreachable-requires : goal.unreachable-requires
unreachable-requires c =
    let only = rw (to_z_pos w64 c.args.days (omega arith)) at c.days.ensures in
    let start : epoch_day c.date.result ≡ pos 0 = first_day c.date.result c.date.ensures in
    let can = can_add-days c.date.result (pos c.args.days) c.days.result only in
    let wrong : false ≡ true = c.in-Err.ensures.succeeds.1 (can.1 (rw start (omega (arith, signed_arith)))) in
    cc

pub returns : goal.returns
returns c =
    let only = rw (to_z_pos w64 c.args.days (omega arith)) at c.days.ensures in
    let start : epoch_day c.date.result ≡ pos 0 = first_day c.date.result c.date.ensures in
    let whole : pos 0 +ℤ pos c.args.days ≡ pos c.args.days = omega (arith, signed_arith) in
    c.in-Ok.ensures.value ∙ date_add-days c.date.result (pos c.args.days) c.days.result only ∙ ap (λ z. z +ℤ pos c.args.days) start ∙ whole
