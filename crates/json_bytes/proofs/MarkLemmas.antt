-- Space at the front of a text: none, or one byte.
use Rattle.std.proofs.Common.{◌≡◌, ℕ, ◌-◌, ◌<◌, List, [], ◌∷◌, length, take, drop, get_or, false, refl, sym, arith}
use Rattle.std.specs.List.{prefix_len}
use Rattle.std.proofs.lemmas.Bool.Decides.{nat_tests}
use Rattle.std.proofs.lemmas.List.{take_all}
use Rattle.json_bytes.specs.Marks.{is_space, past_space}

pub none_first : (text : List ℕ) → length text ≡ 0 → prefix_len is_space text ≡ 0
none_first [] none = refl
none_first (b ∷ bs) none = absurd (omega arith)

above : (b : ℕ) → 32 < b → is_space b ≡ false
above b more = grind (arith, nat_tests)

pub first_above : (text : List ℕ) → 32 < get_or text 0 0 → prefix_len is_space text ≡ 0
first_above [] more = absurd (omega arith)
first_above (b ∷ bs) more = rw (prefix_len, above b more) refl

pub no_space : (text : List ℕ) → prefix_len is_space text ≡ 0 → past_space text ≡ text
no_space text none = rw none refl

pub one_space : (text : List ℕ) → 0 < length text → get_or text 0 0 ≡ 32 → prefix_len is_space (take (length text - 1) (drop 1 text)) ≡ 0
    → past_space text ≡ take (length text - 1) (drop 1 text)
one_space [] some is none = absurd (omega arith)
one_space (b ∷ bs) some is none =
    let behind : take (length (b ∷ bs) - 1) bs ≡ bs = take_all (length (b ∷ bs) - 1) bs (omega arith) in
    let none_behind : prefix_len is_space bs ≡ 0 = rw (sym behind) none in
    rw is (rw (prefix_len, none_behind) (sym behind))
