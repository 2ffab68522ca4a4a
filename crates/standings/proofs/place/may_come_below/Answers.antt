use Rattle.std.proofs.Common.{◌≡◌, ◌≢◌, ◌-◌, ◌∙◌, arith, false, length, nat_eq, sym}
use Rattle.std.proofs.lemmas.Bool.{eqb-false}
use Rattle.std.proofs.lemmas.List.{get_or_read}
use Rattle.standings.specs.Moved.{EndsInInk}
use Rattle.standings.proofs.SpaceLemmas.{standing_spaces}
use Rattle.standings.proofs.place.may_come_below.Goals as goal

pub returns-else-is_empty : goal.returns-else-is_empty
returns-else-is_empty c =
    let text = c.args.text.now in
    let apart : length text ≢ 0 = eqb-false (length text) 0 (sym c.is_empty.ensures ∙ c.if-is_empty.false) in
    let ink : nat_eq c.index-text-text.result 32 ≡ false → EndsInInk text = λ no. record {
      some = omega (arith, apart);
      last = λ e. eqb-false c.index-text-text.result 32 no (get_or_read text (length text - 1) c.index-text-text.result (omega (arith, apart)) c.index-text-text.is 0 ∙ e);
    } in
    record { ink = ink; below = λ no rows columns. standing_spaces text columns rows (ink no) }
