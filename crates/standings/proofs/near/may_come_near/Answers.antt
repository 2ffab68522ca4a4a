use Rattle.std.proofs.Common.{drop, length, List, ℕ, nat_eq, subst, take, ◌+◌, ◌++◌, ◌-◌, ◌<◌, ◌≡◌, false}
use Rattle.std.specs.List.{starts_with}
use Rattle.std.proofs.lemmas.List.{take_rest}
use Rattle.standings.proofs.NearLemmas.{written_nothing}
use Rattle.standings.proofs.near.may_come_near.Goals as goal

pub returns-else-may_begin_in : goal.returns-else-may_begin_in
returns-else-may_begin_in c = λ no clear none.
    let text = c.args.text.now in
    let letters = c.args.letters.now in
    let before = c.args.before in
    let from = c.saturating_sub-from.result in
    let same = c.characters_below-characters.ensures in
    written_nothing c.args.rows.now c.args.above before letters text from c.requires.row c.requires.within c.requires.some c.saturating_sub-from.ensures clear
    (subst (λ l. (k : ℕ) → k < length (take (before - from) (drop from l)) → (rest : List ℕ) → starts_with nat_eq (drop k (take (before - from) (drop from l)) ++ (letters ++ rest)) text ≡ false)
    same (c.may_begin_in.ensures c.if-may_begin_in.false))
    (subst (λ l. (k : ℕ) → k < length letters → (rest : List ℕ) → starts_with nat_eq (drop k letters ++ (drop (before + length letters) l ++ rest)) text ≡ false)
    same (subst (λ l. (k : ℕ) → k < length letters → (rest : List ℕ) → starts_with nat_eq (drop k letters ++ (l ++ rest)) text ≡ false)
    (take_rest c.characters_below-characters.result.now (before + length letters)) (c.may_begin_in-else-may_begin_in.ensures no)))
    none
