-- Parameters as a printer writes them.
use Rattle.std.specs.Prelude.{ℕ, List, [], ◌∷◌, ◌++◌, decimal}

-- numbers in decimal, joined by `;`
abbrev pub params_text : List ℕ → List ℕ
params_text [] = []
params_text (number ∷ []) = decimal number
params_text (number ∷ next ∷ rest) = decimal number ++ 59 ∷ params_text (next ∷ rest)  -- `;`
