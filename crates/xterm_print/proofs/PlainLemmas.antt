-- The plain print line by line.
use Rattle.std.proofs.Common.{◌≡◌, ℕ, zero, suc, ◌+◌, ◌-◌, ◌≤◌, ◌<◌, List, [], ◌∷◌, ◌++◌, length, take, drop, get_or, sym, ◌∙◌, ap, append-nil, arith}
use Rattle.std.specs.List.{flat_map}
use Rattle.std.proofs.lemmas.List.{length-drop, take_more, take_all}
use Rattle.std.proofs.lemmas.Grind.{flat_map-append}
use Rattle.std.proofs.Math.Seq.{take-add}
use Rattle.sheet.specs.Cells.{Cell}
use Rattle.sheet.specs.Grid.{row_at}
use Rattle.sheet.specs.Table.{nth}
use Rattle.xterm_rows.specs.RowText.{printed_line}

-- the text of the first elements of a list
abbrev pub first_texts : {X : Type 0} → (X → List ℕ) → List X → ℕ → List ℕ
first_texts f xs n = flat_map f (take n xs)

-- one element more
pub first_more : {X : Type 0} (f : X → List ℕ) (xs : List X) (n : ℕ) (d : X) → n < length xs
    → first_texts f xs (n + 1) ≡ first_texts f xs n ++ f (get_or xs n d)
first_more f xs n d below =
    ap (flat_map f) (take_more xs n d below)
    ∙ flat_map-append f (take n xs) (get_or xs n d ∷ [])
    ∙ ap (λ t. first_texts f xs n ++ t) (append-nil (f (get_or xs n d)))

-- the row of a line
row_is : (rows : List (List Cell)) (line : ℕ) → 1 ≤ line → row_at rows line ≡ get_or rows (line - 1) []
unfolding nth
row_is rows zero low = absurd (omega (arith, low))
row_is rows (suc k) low = let same : suc k - 1 ≡ k = omega arith in ap (λ n. get_or rows n []) (sym same)

-- one line more
pub first_lines_more : (rows : List (List Cell)) (line : ℕ) → 1 ≤ line → line ≤ length rows
    → first_texts printed_line rows line ≡ first_texts printed_line rows (line - 1) ++ printed_line (row_at rows line)
first_lines_more rows line low high =
    let next : line - 1 + 1 ≡ line = omega arith in
    ap (first_texts printed_line rows) (sym next) ∙ first_more printed_line rows (line - 1) [] (omega arith)
    ∙ ap (λ row. first_texts printed_line rows (line - 1) ++ printed_line row) (sym (row_is rows line low))

-- all elements
pub first_all : {X : Type 0} (f : X → List ℕ) (xs : List X) (n : ℕ) → length xs ≤ n → first_texts f xs n ≡ flat_map f xs
first_all f xs n all = ap (flat_map f) (take_all n xs all)

-- what is left of a list, as a slice is
pub rest_whole : {X : Type 0} (xs : List X) (n : ℕ) → take (length xs - n) (drop n xs) ≡ drop n xs
rest_whole xs n = take_all (length xs - n) (drop n xs) (omega (arith, length-drop n xs))

-- elements in two parts
pub first_on : {X : Type 0} (f : X → List ℕ) (xs : List X) (n m : ℕ)
    → flat_map f (take n xs) ++ flat_map f (take m (take (length xs - n) (drop n xs))) ≡ flat_map f (take (n + m) xs)
first_on f xs n m =
    ap (λ rest. flat_map f (take n xs) ++ flat_map f (take m rest)) (rest_whole xs n)
    ∙ sym (ap (flat_map f) (take-add n m xs) ∙ flat_map-append f (take n xs) (take m (drop n xs)))
