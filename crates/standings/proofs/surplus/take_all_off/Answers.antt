use Rattle.std.proofs.Common.{◌≡◌, ◌<◌, ℕ, arith, false, length, nat_eq, subst, take}
use Rattle.std.specs.List.{starts_with}
use Rattle.standings.specs.Rows.{row_below}
use Rattle.standings.proofs.SurplusLemmas.{none_here, none_long}
use Rattle.standings.proofs.surplus.take_all_off.Goals as goal

pub returns-then-least-row : goal.returns-then-least-row
returns-then-least-row c = λ left begins.
    omega (arith, none_long c.args.row.now c.args.surplus.now c.least_len-least.result left c.if-least-row.true c.least_len-least.ensures.none begins)

pub returns-then-not-some_begins : goal.returns-then-not-some_begins
returns-then-not-some_begins c = λ left begins.
    let still = c.args.still.now in
    let apart = c.some_begins.ensures c.if-not-some_begins.true in
    none_here c.args.row.now c.args.surplus.now still.rows.items still.places.items c.least_len-least.result 18446744073709551615 left
    apart.0 c.least_len-least.ensures.none
    (subst (λ rows. (above : ℕ) → above < length rows → starts_with nat_eq (row_below rows above).characters (take c.least_len-least.result c.args.row.now) ≡ false) c.as_slice.ensures.value apart.1)
    begins
