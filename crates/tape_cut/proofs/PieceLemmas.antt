-- The pieces of a text, joined, are the text, and each is as short as a chunk.
use Rattle.std.proofs.Common.{◌≡◌, ℕ, zero, suc, ◌*◌, ◌≤◌, List, [], ◌++◌, length, take, drop, refl, ap, sym, ◌∙◌, arith, length-drop}
use Rattle.std.proofs.lemmas.Grind.{div_ceil_times}
use Rattle.std.proofs.lemmas.List.{nil_from_length, take-append-drop}
use Rattle.std.specs.Int.{div_ceil}
use Rattle.std.specs.List.{flat_map}
use Rattle.tape_core.specs.Tape.{longest_chunk}
use Rattle.tape_cut.specs.Cuts.{pieces, pieces_of}

abbrev pub joined : List (List ℕ) → List ℕ
joined parts = flat_map (λ part. part) parts

pieces_of_joined : (most count : ℕ) (text : List ℕ) → length text ≤ count * most → joined (pieces_of most count text) ≡ text
pieces_of_joined most zero text le = let none : length text ≡ 0 = omega arith in sym (nil_from_length text none)
pieces_of_joined most (suc count) text le =
    let long = length-drop most text in
    ap (λ rest. take most text ++ rest) (pieces_of_joined most count (drop most text) (omega arith))
    ∙ take-append-drop most text

pub pieces_joined : (text : List ℕ) → joined (pieces text) ≡ text
unfolding pieces
pieces_joined text =
    pieces_of_joined longest_chunk (div_ceil (length text) longest_chunk) text
    (div_ceil_times (length text) longest_chunk (omega arith)).0

pub no_pieces : pieces [] ≡ []
unfolding pieces
no_pieces = refl
