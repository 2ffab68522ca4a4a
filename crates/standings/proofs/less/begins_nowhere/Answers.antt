use Rattle.std.proofs.Common.{◌≡◌, ℕ, ◌<◌, arith, false, length, nat_eq, subst, take}
use Rattle.std.proofs.lemmas.Bool.{not-true}
use Rattle.std.proofs.lemmas.List.{length-take}
use Rattle.std.specs.List.{starts_with}
use Rattle.standings.specs.Rows.{row_below}
use Rattle.standings.proofs.SurplusLemmas.{none_begin}
use Rattle.standings.proofs.less.begins_nowhere.Goals as goal

pub returns : goal.returns
returns c = λ told left begins high.
    let still = c.args.still.now in
    let row = c.args.row.now in
    let apart = c.some_begins.ensures (not-true c.some_begins.result told) in
    none_begin row still.rows.items still.places.items c.args.before left (omega (arith, length-take c.args.before row, c.requires.some, c.requires.within))
    (subst (λ rows. (above : ℕ) → above < length rows → starts_with nat_eq (row_below rows above).characters (take c.args.before row) ≡ false) c.as_slice.ensures.value apart.1)
    begins high
