-- The parameters of a text that grows by one byte.
use Rattle.std.proofs.Common.{◌≡◌, ℕ, ◌-◌, ◌+◌, ◌*◌, ◌<◌, Bool, true, false, cond, List, [], ◌∷◌, ◌++◌, map, length, refl, ap, arith}
use Rattle.std.specs.List.{slice_split, onto_first}
use Rattle.std.proofs.lemmas.List.{map-append, length-map}
use Rattle.std.proofs.lemmas.List.Splits.{length-slice_split}
use Rattle.std.proofs.lemmas.List.Sums.{fold-append}
use Rattle.vt_parser.specs.Forms.{is_semicolon, parameter, numbers}
use Rattle.vt_parser.specs.Machine.{with_last_digit}

-- there is always a first piece
split_some : (test : ℕ → Bool) (text : List ℕ) → (first : List ℕ) × (others : List (List ℕ)) × (slice_split test text ≡ first ∷ others)
split_some test [] = ([], [], refl)
split_some test (byte ∷ rest) = by (test byte) (slice_split test rest)
  where
    by : (b : Bool) (pieces : List (List ℕ))
        → (first : List ℕ) × (others : List (List ℕ)) × (cond b ([] ∷ pieces) (onto_first byte pieces) ≡ first ∷ others)
    by true pieces = ([], pieces, refl)
    by false [] = (byte ∷ [], [], refl)
    by false (piece ∷ pieces) = (byte ∷ piece, pieces, refl)

-- pieces with one more byte in the last of them
abbrev grown : List (List ℕ) → ℕ → List (List ℕ)
grown [] byte = (byte ∷ []) ∷ []
grown (piece ∷ []) byte = (piece ++ byte ∷ []) ∷ []
grown (piece ∷ next ∷ pieces) byte = piece ∷ grown (next ∷ pieces) byte

split_push : (test : ℕ → Bool) (text : List ℕ) (byte : ℕ)
    → slice_split test (text ++ byte ∷ []) ≡ cond (test byte) (slice_split test text ++ [] ∷ []) (grown (slice_split test text) byte)
split_push test [] byte = refl
split_push test (head ∷ rest) byte =
    let some = split_some test rest in
    grind (arith, some.2, split_push test rest byte)

map_grown : (first : List ℕ) (others : List (List ℕ)) (digit : ℕ)
    → map parameter (grown (first ∷ others) digit) ≡ with_last_digit (map parameter (first ∷ others)) digit
map_grown first [] digit = grind (arith, fold-append (λ value next. 10 * value + (next - 48)) 0 first (digit ∷ []))
map_grown first (second ∷ others) digit = ap (λ tail. parameter first ∷ tail) (map_grown second others digit)

pub numbers_push : (text : List ℕ) (byte : ℕ)
    → numbers (text ++ byte ∷ []) ≡ cond (is_semicolon byte) (numbers text ++ 0 ∷ []) (with_last_digit (numbers text) byte)
unfolding numbers
numbers_push text byte =
    let some = split_some is_semicolon text in
    grind (
      arith,
      split_push is_semicolon text byte,
      some.2,
      map_grown some.0 some.1 byte,
      map-append parameter (slice_split is_semicolon text) ([] ∷ []),
    )

pub numbers_some : (text : List ℕ) → 0 < length (numbers text)
unfolding numbers
numbers_some text = omega (arith, length-map (slice_split is_semicolon text) parameter, length-slice_split is_semicolon text)
