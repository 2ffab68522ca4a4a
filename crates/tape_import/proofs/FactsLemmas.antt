-- Texts that are parted.
use Rattle.std.proofs.Common.{◌≡◌, ℕ, ◌+◌, ◌-◌, ◌<◌, Bool, List, ◌∷◌, codes, length, take, drop, nat_eq, nat_lt, true, Option, Some, None, if◌then◌else◌, ap, sym, ◌∙◌, arith}
use Rattle.std.specs.List.{position_or_len, starts_with}
use Rattle.std.proofs.lemmas.Bool.{lt-ltb}
use Rattle.std.proofs.lemmas.List.{drop-drop, length-drop, take_all}
use Rattle.tape_core.specs.Text.{number_of}
use Rattle.tape_import.specs.declared.facts.Size.{Size}
use Rattle.tape_import.specs.Facts.{asked_size, columns_then, lines_then, parted, side, size_of}

-- the two parts where the test of a place is passed
abbrev pub cut_at : List ℕ → ℕ → Bool → Option (List ℕ × List ℕ)
cut_at text at found = if found then Some (take at text, drop (at + 1) text) else None

-- where something stands behind the front, its first byte is the one that parts
pub parted_at : (byte : ℕ) (text front back : List ℕ) (at : ℕ) → at ≡ position_or_len (λ b. nat_eq b byte) text
    → front ≡ take at text → back ≡ drop at text → 0 < length back
    → parted byte text ≡ Some (front, take (length back - 1) (drop 1 back))
parted_at byte text front back at place is rest some =
    let within : at < length text = omega (arith, length-drop at text, ap length rest) in
    let behind : take (length back - 1) (drop 1 back) ≡ drop (at + 1) text =
    take_all (length back - 1) (drop 1 back) (omega (arith, length-drop 1 back)) ∙ ap (drop 1) rest ∙ drop-drop 1 at text in
    let here : parted byte text ≡ cut_at text at (nat_lt at (length text)) = ap (λ n. cut_at text n (nat_lt n (length text))) (sym place) in
    let both : Some (take at text, drop (at + 1) text) ≡ Some (front, take (length back - 1) (drop 1 back)) =
    ap (λ f. Some (f, drop (at + 1) text)) (sym is) ∙ ap (λ b. Some (front, b)) (sym behind) in
    here ∙ ap (cut_at text at) (lt-ltb at (length text) within) ∙ both

-- where both are told, the size is asked for by what stands before them
abbrev pub size_by : List ℕ → Bool → Option Size
size_by text begins = if begins then lines_then (parted 59 (drop 4 text)) else None

pub asked : (text lines rest columns more : List ℕ) → starts_with nat_eq text (27 ∷ codes "[8;") ≡ true
    → parted 59 (drop 4 text) ≡ Some (lines, rest) → parted 116 rest ≡ Some (columns, more)
    → asked_size text ≡ size_of (side (number_of columns)) (side (number_of lines))
asked text lines rest columns more begins first second =
    ap (size_by text) begins ∙ ap lines_then first ∙ ap (columns_then (side (number_of lines))) second
