-- Texts of numbers that rise, and of the screen's lines, one after another.
use Rattle.std.proofs.Common.{◌≡◌, ℕ, ◌+◌, ◌-◌, ◌≤◌, List, [], ◌∷◌, ◌++◌, ap, sym, ◌∙◌, arith, append-nil}
use Rattle.std.specs.List.{flat_map, range_with_len}
use Rattle.std.proofs.lemmas.List.Concat.{flat_map-append}
use Rattle.screen_rows.proofs.RangeLemmas.{range_split}

-- the texts of so many numbers from one on
abbrev pub texts_from : (ℕ → List ℕ) → ℕ → ℕ → List ℕ
texts_from f a n = flat_map f (range_with_len a n)

-- one more
pub texts_more : (f : ℕ → List ℕ) (a n at : ℕ) → a + n ≡ at → texts_from f a (n + 1) ≡ texts_from f a n ++ f at
texts_more f a n at is =
    ap (flat_map f) (range_split a n 1)
    ∙ flat_map-append f (range_with_len a n) ((a + n) ∷ [])
    ∙ ap (λ t. texts_from f a n ++ t) (append-nil (f (a + n)) ∙ ap f is)

-- the texts of the first lines
abbrev pub first_lines : (ℕ → List ℕ) → ℕ → List ℕ
first_lines f n = texts_from f 1 n

-- the text of a line more
pub line_more : (f : ℕ → List ℕ) (line : ℕ) → 1 ≤ line → first_lines f line ≡ first_lines f (line - 1) ++ f line
line_more f line low =
    let at : 1 + (line - 1) ≡ line = omega arith in
    let next : line - 1 + 1 ≡ line = omega arith in
    ap (first_lines f) (sym next) ∙ texts_more f 1 (line - 1) line at
