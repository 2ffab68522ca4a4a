-- Lanes that are written behind the bytes that are held, of which the first count.
use Rattle.std.proofs.Common.{◌≡◌, ℕ, zero, suc, ◌+◌, ◌≤◌, List, [], ◌∷◌, ◌++◌, length, take, refl, ap, sym, ◌∙◌, arith, length-take-le}
use Rattle.std.proofs.Math.Seq.{take-append-add}

pub take_few : (run n : ℕ) (text : List ℕ) → run ≤ n → take run (take n text) ≡ take run text
take_few zero n text few = refl
take_few (suc run) zero text few = absurd (omega arith)
take_few (suc run) (suc n) [] few = refl
take_few (suc run) (suc n) (b ∷ bs) few = ap (λ more. b ∷ more) (take_few run n bs (omega arith))

pub cut_more : (new old lanes : List ℕ) (count run : ℕ) → count ≤ length old → run ≤ 16 → take (count + 16) new ≡ take count old ++ lanes
    → take (count + run) new ≡ take count old ++ take run lanes
cut_more new old lanes count run within few stored =
    let front = take count old in
    let long : length front ≡ count = length-take-le count old within in
    sym (take_few (count + run) (count + 16) new (omega arith)) ∙ ap (take (count + run)) stored
    ∙ ap (λ n. take (n + run) (front ++ lanes)) (sym long) ∙ take-append-add front lanes run
