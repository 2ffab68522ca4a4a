use Rattle.std.proofs.Common.{[], ◌+◌, ◌-◌, ap, arith, drop, length, subst, take}
use Rattle.std.proofs.lemmas.List.{length-drop, length-take, take_rest}
use Rattle.standings.specs.Less.{PairOff}
use Rattle.standings.proofs.PairLemmas.{pair_behind}
use Rattle.standings.proofs.alone.next_front.Goals as goal

pub returns-clause-pairs : goal.returns-clause-pairs
returns-clause-pairs c =
    let one = c.args.one.now in
    let other = c.args.other.now in
    let places = c.args.places.now in
    let others = c.args.others.now in
    let at = c.args.from + c.count_above.result in
    let there = c.args.there in
    let count = c.count_agreed-count.result in
    let end = c.row_end-end.result in
    let agreed = c.count_agreed-count.ensures in
    pair_behind one other places others at there count end
    (omega (arith, agreed.within, ap length (take_rest places at), length-drop at places, c.count_above.ensures.within, c.requires.within))
    (omega (arith, agreed.there, length-take (end - there) (drop there others), c.row_end-end.ensures.further))
    (subst (λ l. PairOff one (take count l) other (take count (take (end - there) (drop there others))) [] []) (take_rest places at) agreed.pairs)
