-- Where a header ends, and where the last session begins.
use Rattle.std.proofs.Common.{◌≡◌, ◌≢◌, ℕ, ◌+◌, ◌-◌, ◌<◌, ◌≤◌, ◌==◌, List, [], ◌∷◌, ◌++◌, length, take, drop, ap, sym, ◌∙◌, arith, zero-add, length-drop}
use Rattle.std.specs.List.{fold, position_or_len, range_with_len}
use Rattle.std.proofs.lemmas.Bool.{lt-ltb}
use Rattle.std.proofs.lemmas.List.{drop-drop, map-id}
use Rattle.std.proofs.lemmas.List.FromFn.{map-range_with_len_more}
use Rattle.std.proofs.lemmas.List.Sums.{fold-append}
use Rattle.tape_mend.specs.Mended.{later}
use Rattle.tape_mend.specs.Steps.{IsOpening}

range_more : (n : ℕ) → range_with_len 0 (n + 1) ≡ range_with_len 0 n ++ n ∷ []
range_more n =
    sym (map-id (range_with_len 0 (n + 1))) ∙ map-range_with_len_more (λ x. x) 0 n n (zero-add n) ∙ ap (λ xs. xs ++ n ∷ []) (map-id (range_with_len 0 n))

-- one place more is looked at
pub later_more : (script : List ℕ) (n : ℕ)
    → fold (later script) 0 (range_with_len 0 (n + 1)) ≡ later script (fold (later script) 0 (range_with_len 0 n)) n
later_more script n = ap (fold (later script) 0) (range_more n) ∙ fold-append (later script) 0 (range_with_len 0 n) (n ∷ [])

-- a header that ends at an LF
pub opened : (script first : List ℕ) (from place : ℕ) → place ≡ position_or_len (λ b. b == 10) (drop from script)
    → from ≤ length script → place ≤ length (drop from script) → (from + place ≢ length script)
    → first ≡ take ((from + place + 1) - from) (drop from script)
    → IsOpening (drop from script) script first (from + place + 1)
opened script first from place at within short other is =
    let some : place < length (drop from script) = omega (arith, length-drop from script) in
    let len : (from + place + 1) - from ≡ place + 1 = omega arith in
    let sum : from + (place + 1) ≡ from + place + 1 = omega arith in
    record {
      some = rw (← at) (lt-ltb _ _ some);
      header = is ∙ ap (λ n. take n (drop from script)) (len ∙ ap (λ n. n + 1) at);
      within = omega (arith, length-drop from script);
      rest = sym (drop-drop (place + 1) from script ∙ ap (λ n. drop n script) sum) ∙ ap (λ n. drop (n + 1) (drop from script)) at;
    }
