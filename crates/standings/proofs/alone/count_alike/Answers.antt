use Rattle.std.proofs.Common.{◌-◌, [], ap, arith, drop, length, subst, take}
use Rattle.std.proofs.lemmas.List.{length-drop, take_rest}
use Rattle.standings.specs.Less.{PairOff}
use Rattle.standings.proofs.PairLemmas.{pair_behind}
use Rattle.standings.proofs.alone.count_alike.Goals as goal

pub returns-clause-pairs : goal.returns-clause-pairs
returns-clause-pairs c = λ _.
    let one = c.args.one.now in
    let other = c.args.other.now in
    let places = c.args.places.now in
    let others = c.args.others.now in
    let at = c.args.at in
    let there = c.args.there in
    let count = c.count_paired.result in
    let paired = c.count_paired.ensures in
    pair_behind one other places others at there count (length others)
    (omega (arith, paired.within, ap length (take_rest places at), length-drop at places, c.requires.within))
    (omega (arith, paired.there, ap length (take_rest others there), length-drop there others, c.requires.there))
    (subst (λ l. PairOff one (take count l) other (take count (take (length others - there) (drop there others))) [] []) (take_rest places at) paired.pairs)
