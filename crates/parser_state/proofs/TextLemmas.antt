-- What the loop over numbers goes by.
use Rattle.std.proofs.Common.{◌≡◌, ℕ, ◌+◌, ◌<◌, Bool, true, List, [], ◌∷◌, ◌++◌, length, take, get_or, append_assoc, refl, sym, ap, ◌∙◌, arith}
use Rattle.std.specs.Prelude.{decimal, nat_lt}
use Rattle.std.proofs.lemmas.Bool.Decides.{nat_tests}
use Rattle.std.proofs.lemmas.List.{take_more, length-take-le}
use Rattle.vt_parser.specs.Decimals.{params_text}
use Rattle.parser_state.specs.PendingText.{text_where}

-- one number more
params_push : (first : ℕ) (others : List ℕ) (number : ℕ) → params_text ((first ∷ others) ++ number ∷ []) ≡ params_text (first ∷ others) ++ 59 ∷ decimal number
params_push first [] number = refl
params_push first (second ∷ others) number =
    ap (λ (t : List ℕ). decimal first ++ 59 ∷ t) (params_push second others number)
    ∙ sym (append_assoc (decimal first) (59 ∷ params_text (second ∷ others)) (59 ∷ decimal number))

behind : (numbers : List ℕ) (number : ℕ) → params_text (numbers ++ number ∷ []) ≡ params_text numbers ++ text_where (nat_lt 0 (length numbers)) (59 ∷ []) ++ decimal number
behind [] number = refl
behind (first ∷ others) number =
    let so_far = params_text (first ∷ others) in
    let some : nat_lt 0 (length (first ∷ others)) ≡ true = grind (arith, nat_tests) in
    params_push first others number ∙ sym (append_assoc so_far (59 ∷ []) (decimal number))
    ∙ ap (λ (b : Bool). so_far ++ text_where b (59 ∷ []) ++ decimal number) (sym some)

pub params_more : (numbers : List ℕ) (n d : ℕ) → n < length numbers
    → params_text (take (n + 1) numbers) ≡ params_text (take n numbers) ++ text_where (nat_lt 0 n) (59 ∷ []) ++ decimal (get_or numbers n d)
params_more numbers n d within =
    ap params_text (take_more numbers n d within)
    ∙ behind (take n numbers) (get_or numbers n d)
    ∙ ap (λ (k : ℕ). params_text (take n numbers) ++ text_where (nat_lt 0 k) (59 ∷ []) ++ decimal (get_or numbers n d)) (length-take-le n numbers (omega arith))
