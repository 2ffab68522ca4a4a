-- The text of a cell, character by character.
use Rattle.std.proofs.Common.{◌≡◌, ℕ, ◌≤◌, List, [], ◌∷◌, ◌++◌, length, take, sym, ◌∙◌, ap, append-nil, arith, encode_utf8, true, false, if◌then◌else◌}
use Rattle.std.specs.List.{flat_map}
use Rattle.std.proofs.lemmas.List.{take_all}
use Rattle.std.proofs.lemmas.Str.{encode_ascii}
use Rattle.sheet.specs.declared.rendition.Rendition.{Rendition}
use Rattle.sheet.specs.Cells.{Cell, covered_kind, is_covered}
use Rattle.xterm_rows.specs.Letters.{IsLetter}
use Rattle.xterm_rows.specs.RowText.{characters, printed}

-- a right half has no text ..
pub printed_covered : (cell : Cell) → is_covered cell ≡ true → [] ≡ printed cell
unfolding printed characters
printed_covered cell e = sym (ap (λ b. flat_map encode_utf8 (if b then [] else cell.character ∷ cell.marks)) e)

-- .. and another cell that of its character and its marks
pub printed_open : (cell : Cell) (n : ℕ) → is_covered cell ≡ false → length cell.marks ≤ n
    → encode_utf8 cell.character ++ flat_map encode_utf8 (take n cell.marks) ≡ printed cell
unfolding printed characters
printed_open cell n e all =
    ap (λ t. encode_utf8 cell.character ++ flat_map encode_utf8 t) (take_all n cell.marks all)
    ∙ sym (ap (λ b. flat_map encode_utf8 (if b then [] else cell.character ∷ cell.marks)) e)

-- a letter has its one byte
pub letter_printed : (rendition : Rendition) (cell : Cell) → IsLetter rendition cell → printed cell ≡ cell.character ∷ []
unfolding is_covered
letter_printed rendition cell is =
    let c = cell.character in
    let few : length cell.marks ≤ 0 = omega (arith, ap (λ (marks : List ℕ). length marks) is.alone) in
    sym (printed_open cell 0 (ap covered_kind is.kind) few) ∙ append-nil (encode_utf8 c) ∙ encode_ascii c is.low
