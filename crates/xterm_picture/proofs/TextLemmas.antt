-- Texts line by line, and a cell character by character.
use Rattle.std.proofs.Common.{◌≡◌, ℕ, zero, suc, ◌+◌, ◌-◌, ◌≤◌, ◌<◌, List, [], ◌∷◌, ◌++◌, length, take, get_or, sym, ◌∙◌, ap, append-nil, arith, true, false, if◌then◌else◌}
use Rattle.std.specs.List.{flat_map}
use Rattle.std.proofs.lemmas.List.{take_more, take_all}
use Rattle.std.proofs.lemmas.Grind.{flat_map-append}
use Rattle.sheet.specs.Cells.{Cell, is_covered}
use Rattle.sheet.specs.Grid.{row_at}
use Rattle.sheet.specs.Table.{nth}
use Rattle.xterm_rows.specs.RowText.{characters}
use Rattle.xterm_picture.specs.Texts.{character_text, letter_text}

-- the text of the first elements of a list
abbrev pub first_texts : {X : Type 0} → (X → List ℕ) → List X → ℕ → List ℕ
first_texts f xs n = flat_map f (take n xs)

-- one element more
first_more : {X : Type 0} (f : X → List ℕ) (xs : List X) (n : ℕ) (d : X) → n < length xs
    → first_texts f xs (n + 1) ≡ first_texts f xs n ++ f (get_or xs n d)
first_more f xs n d below =
    ap (flat_map f) (take_more xs n d below)
    ∙ flat_map-append f (take n xs) (get_or xs n d ∷ [])
    ∙ ap (λ t. first_texts f xs n ++ t) (append-nil (f (get_or xs n d)))

-- the row of a line
row_is : (rows : List (List Cell)) (line : ℕ) → 1 ≤ line → row_at rows line ≡ get_or rows (line - 1) []
unfolding nth
row_is rows zero low = absurd (omega (arith, low))
row_is rows (suc k) low = let same : suc k - 1 ≡ k = omega arith in ap (λ n. get_or rows n []) (sym same)

-- one line more
pub first_rows_more : (f : List Cell → List ℕ) (rows : List (List Cell)) (line : ℕ) → 1 ≤ line → line ≤ length rows
    → first_texts f rows line ≡ first_texts f rows (line - 1) ++ f (row_at rows line)
first_rows_more f rows line low high =
    let next : line - 1 + 1 ≡ line = omega arith in
    ap (first_texts f rows) (sym next) ∙ first_more f rows (line - 1) [] (omega arith)
    ∙ ap (λ row. first_texts f rows (line - 1) ++ f row) (sym (row_is rows line low))

-- all elements
pub first_all : {X : Type 0} (f : X → List ℕ) (xs : List X) (n : ℕ) → length xs ≤ n → first_texts f xs n ≡ flat_map f xs
first_all f xs n all = ap (flat_map f) (take_all n xs all)

-- a right half has no text ..
pub letter_covered : (cell : Cell) → is_covered cell ≡ true → [] ≡ letter_text cell
unfolding letter_text characters
letter_covered cell e = sym (ap (λ b. flat_map character_text (if b then [] else cell.character ∷ cell.marks)) e)

-- .. and another cell that of its character and its marks
pub letter_open : (cell : Cell) (n : ℕ) → is_covered cell ≡ false → length cell.marks ≤ n
    → character_text cell.character ++ flat_map character_text (take n cell.marks) ≡ letter_text cell
unfolding letter_text characters
letter_open cell n e all =
    ap (λ t. character_text cell.character ++ t) (first_all character_text cell.marks n all)
    ∙ sym (ap (λ b. flat_map character_text (if b then [] else cell.character ∷ cell.marks)) e)
