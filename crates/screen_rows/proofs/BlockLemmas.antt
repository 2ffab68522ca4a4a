-- Cells that are looked at block by block.
use Rattle.std.proofs.Common.{◌≡◌, ℕ, zero, suc, ◌+◌, ◌-◌, ◌*◌, ◌%◌, ◌<◌, ◌≤◌, Bool, true, false, List, [], ◌∷◌, length, get_or, drop, take, ap, ap₂, sym, ◌∙◌, arith, add-zero}
use Rattle.std.specs.List.{prefix_len, suffix_len}
use Rattle.std.specs.Prelude.{◌==◌, ◌||◌}
use Rattle.std.proofs.lemmas.Bool.{and_parts, eq-eqb, eqb-true}
use Rattle.std.proofs.lemmas.Bool.Decides.{nat_tests}
use Rattle.std.proofs.lemmas.List.{take_all}
use Rattle.std.proofs.lemmas.List.Sums.{suffix_len-take_yes}
use Rattle.vt_screen.specs.declared.cell.Cell.{Cell}
use Rattle.vt_screen.specs.Attributes.{Attributes, bit, byte_of, plain}
use Rattle.screen_rows.specs.Ink.{is_blank, same_rendition}
use Rattle.screen_rows.specs.Outlines.{is_drawn, outline, outlines}
use Rattle.screen_rows.specs.Runs.{IsLetter, is_like, kind_number, kind_of}
use Rattle.screen_rows.specs.RowText.{is_space}
use Rattle.screen_rows.proofs.SameLemmas.{byte_apart}

-- ---- elements that pass

-- those at the end
suffix_from : {X : Type 0} (p : X → Bool) (xs : List X) (n j : ℕ) (d : X) → n + j ≤ length xs
    → ((k : ℕ) → n ≤ k → k < length xs → p (get_or xs k d) ≡ true) → suffix_len p (take (n + j) xs) ≡ j + suffix_len p (take n xs)
suffix_from p xs n zero d within passes =
    let same = ap (λ m. suffix_len p (take m xs)) (add-zero n) in
    omega (arith, same)
suffix_from p xs n (suc j) d within passes =
    let less : n + suc j - 1 ≡ n + j = omega arith in
    let last = suffix_len-take_yes p xs (n + suc j) d (omega arith) within (passes (n + suc j - 1) (omega arith) (omega arith)) in
    let before = ap (λ m. suffix_len p (take m xs)) less ∙ suffix_from p xs n j d (omega arith) passes in
    omega (arith, last, before)

pub suffix_passed : {X : Type 0} (p : X → Bool) (xs : List X) (n : ℕ) (d : X) → n ≤ length xs
    → ((k : ℕ) → n ≤ k → k < length xs → p (get_or xs k d) ≡ true) → n + suffix_len p xs ≡ length xs + suffix_len p (take n xs)
suffix_passed p xs n d within passes =
    let all : n + (length xs - n) ≡ length xs = omega arith in
    let whole : take (n + (length xs - n)) xs ≡ xs = take_all (n + (length xs - n)) xs (omega arith) in
    let rest = ap (suffix_len p) (sym whole) ∙ suffix_from p xs n (length xs - n) d (omega arith) passes in
    omega (arith, rest)

-- a blank cell is a space
pub blank_is_space : (cell : Cell) → is_blank cell ≡ true → is_space cell ≡ true
blank_is_space cell is =
    let glyph : cell.glyph ≡ 32 = eqb-true cell.glyph 32 (and_parts (cell.glyph == 32) (same_rendition cell.rendition plain) is).0 in
    ap (λ n. (n == 0) || (n == 32)) glyph

-- those at the front
pub prefix_passed : {X : Type 0} (p : X → Bool) (xs : List X) (n : ℕ) (d : X) → n ≤ length xs
    → ((k : ℕ) → k < n → p (get_or xs k d) ≡ true) → prefix_len p xs ≡ n + prefix_len p (drop n xs)
prefix_passed p xs zero d within passes = omega arith
prefix_passed p [] (suc n) d within passes = absurd (omega arith)
prefix_passed p (x ∷ xs) (suc n) d within passes =
    let here : p x ≡ true = passes 0 (omega arith) in
    let rest = prefix_passed p xs n d (omega arith) (λ k below. passes (suc k) (omega arith)) in
    rw here (omega (arith, rest))

-- ---- letters

byte_low : (a : Attributes) → byte_of a ≤ 15
byte_low a = grind (arith, nat_tests)

-- a cell is one where its number isn't far from the least one's
pub letter_is : (rendition : Attributes) (cell : Cell) (least number more : ℕ) → least ≡ 256 * byte_of rendition + 32
    → number ≡ 256 * byte_of cell.rendition + cell.glyph → cell.glyph < 256
    → more ≡ (number + (65536 - least)) % 65536 → more ≤ 94 → IsLetter rendition cell
letter_is rendition cell least number more low is byte far near =
    let b = byte_of rendition in
    let c = byte_of cell.rendition in
    let one : b ≤ 15 = byte_low rendition in
    let other : c ≤ 15 = byte_low cell.rendition in
    let same : c ≡ b = omega arith in
    record { same = byte_apart cell.rendition rendition same; letter = omega arith }

-- and isn't drawn
undrawn : (glyph : ℕ) → 32 ≤ glyph → is_drawn glyph ≡ false
unfolding outline outlines
undrawn glyph high = grind (arith, nat_tests)

-- so it is like another one of the rendition that isn't either
pub letter_like : (one cell : Cell) → is_drawn one.glyph ≡ false → IsLetter one.rendition cell → is_like one cell ≡ true
letter_like one cell none is =
    let drawn : is_drawn one.glyph ≡ is_drawn cell.glyph = none ∙ sym (undrawn cell.glyph is.letter) in
    let number : Attributes → Bool → ℕ = λ a d. bit a.bold + 2 * bit a.underscore + 4 * bit a.blink + 8 * bit a.reverse + 16 * bit d in
    let same : kind_number (kind_of one) ≡ kind_number (kind_of cell) = ap₂ number (sym is.same) drawn in
    eq-eqb _ _ same
