-- The line of a chunk that changes some line, and its numbers, of which the last is written first.
use Rattle.std.proofs.Common.{◌≡◌, ℕ, ◌+◌, ◌-◌, ◌<◌, ◌≤◌, List, [], ◌∷◌, ◌++◌, length, get_or, set, take, drop, refl, ap, ap₂, sym, ◌∙◌, arith}
use Rattle.std.proofs.lemmas.List.{drop-set-lt, drop-take, drop_more, get_or-set_same, length-set, take-append-drop, take-take}
use Rattle.std.proofs.lemmas.List.Concat.{flat_map-append}
use Rattle.std.specs.Fmt.{decimal}
use Rattle.std.specs.List.{flat_map}
use Rattle.tape_core.specs.Written.{seconds_form}
use Rattle.chunk_walk.specs.ChangeLine.{change_line, spaced_number}

-- where a chunk changes some line
pub change_line_some : {N : Type 0} (written : N → List ℕ) (index due : ℕ) (lines : List N) → 0 < length lines
    → change_line written index due lines ≡ (decimal index ++ 32 ∷ seconds_form due) ++ flat_map (spaced_number written) lines ++ 10 ∷ []
change_line_some written index due [] some = absurd (omega arith)
change_line_some written index due (line ∷ more) some = refl

-- a byte is written before the end of a text
byte_before : (text : List ℕ) (start byte : ℕ) → 1 ≤ start → start ≤ length text → drop (start - 1) (set text (start - 1) byte) ≡ byte ∷ drop start text
byte_before text start byte some within =
    let at = start - 1 in
    let here : at < length (set text at byte) = omega (arith, length-set text at byte) in
    let below : at < length text = omega arith in
    let next : at + 1 ≡ start = omega arith in
    drop_more (set text at byte) at 0 here
    ∙ ap₂ (λ (x : ℕ) (rest : List ℕ). x ∷ rest) (get_or-set_same text at byte 0 below)
    (ap (λ n. drop n (set text at byte)) next ∙ drop-set-lt start text at byte (omega arith))

-- a number and a space before it are written before those that follow it
pub number_before : {N : Type 0} (written : N → List ℕ) (numbers : List N) (left : ℕ) (number : N) (text : List ℕ) (start : ℕ)
    → left < length numbers → number ≡ get_or numbers left number → 1 ≤ start → start ≤ length text
    → drop start text ≡ written number ++ flat_map (spaced_number written) (drop (left + 1) numbers)
    → drop (start - 1) (set text (start - 1) 32) ≡ flat_map (spaced_number written) (drop left numbers)
number_before written numbers left number text start below is some within behind =
    byte_before text start 32 some within ∙ ap (λ l. 32 ∷ l) behind
    ∙ ap (λ n. spaced_number written n ++ flat_map (spaced_number written) (drop (left + 1) numbers)) is
    ∙ ap (flat_map (spaced_number written)) (sym (drop_more numbers left number below))

-- the first numbers, and some behind them
pub numbers_split : {N : Type 0} (written : N → List ℕ) (numbers : List N) (at end : ℕ) → at ≤ end
    → flat_map (spaced_number written) (take end numbers)
    ≡ flat_map (spaced_number written) (take at numbers) ++ flat_map (spaced_number written) (take (end - at) (drop at numbers))
numbers_split written numbers at end low =
    let behind : at + (end - at) ≡ end = omega arith in
    ap (flat_map (spaced_number written))
    (sym (take-append-drop at (take end numbers))
    ∙ ap₂ (λ l m. l ++ m) (take-take at end numbers low) (ap (λ n. drop at (take n numbers)) (sym behind) ∙ drop-take at (end - at) numbers))
    ∙ flat_map-append (spaced_number written) (take at numbers) (take (end - at) (drop at numbers))
