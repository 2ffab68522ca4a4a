-- The chunks of a recording in three parts: those due by a moment, those due after it and by a later one, and the others.
use Rattle.std.proofs.Common.{◌≡◌, ℕ, ◌+◌, ◌-◌, ◌≤◌, List, [], ◌∷◌, ◌++◌, length, take, drop, refl, ap, sym, ◌∙◌, arith, append_assoc, subst}
use Rattle.std.proofs.Math.Seq.{take-add}
use Rattle.std.proofs.lemmas.List.{append_cancel_left, length-take-le, take-append-drop, take-take}
use Rattle.std.proofs.lemmas.List.Sums.{sum_by-append}
use Rattle.tape_core.specs.declared.chunk.Chunk.{Chunk}
use Rattle.tape_core.specs.Due.{due_count, due_time, play_length}
use Rattle.tape_cut.proofs.DueParts.{IsLate, count_rises, count_within, due_place}
use Rattle.tape_cut.proofs.Shapes.{head_delay}

abbrev pub front : List Chunk → ℕ → List Chunk
front chunks from = take (due_count chunks from) chunks

abbrev pub middle : List Chunk → ℕ → ℕ → List Chunk
middle chunks first end = drop first (take end chunks)

-- They are these parts, due so.
pub record IsParted (chunks xs ys zs : List Chunk) (from to : ℕ) : Type 0 where
  pub whole : xs ++ (ys ++ zs) ≡ chunks
  pub early : play_length xs ≤ from
  pub later : IsLate (from - play_length xs) (ys ++ zs)
  pub by : play_length xs + play_length ys ≤ to
  pub last : IsLate (to - (play_length xs + play_length ys)) zs

pub fronts_join : (chunks : List Chunk) (first end : ℕ) → first ≤ end → take first chunks ++ middle chunks first end ≡ take end chunks
fronts_join chunks first end le =
    ap (λ xs. xs ++ middle chunks first end) (sym (take-take first end chunks le)) ∙ take-append-drop first (take end chunks)

pub all_join : (chunks : List Chunk) (first end : ℕ) → first ≤ end → take first chunks ++ (middle chunks first end ++ drop end chunks) ≡ chunks
all_join chunks first end le =
    sym (append_assoc (take first chunks) (middle chunks first end) (drop end chunks))
    ∙ ap (λ xs. xs ++ drop end chunks) (fronts_join chunks first end le) ∙ take-append-drop end chunks

pub lengths_join : (chunks : List Chunk) (first end : ℕ) → first ≤ end
    → play_length (take first chunks) + play_length (middle chunks first end) ≡ play_length (take end chunks)
lengths_join chunks first end le =
    sym (sum_by-append (λ c. c.delay) (take first chunks) (middle chunks first end)) ∙ ap play_length (fronts_join chunks first end le)

pub parted : (chunks : List Chunk) (from to : ℕ) → from ≤ to
    → IsParted chunks (front chunks from) (middle chunks (due_count chunks from) (due_count chunks to)) (drop (due_count chunks to) chunks) from to
parted chunks from to le =
    let first = due_count chunks from in
    let end = due_count chunks to in
    let rising = count_rises chunks from to le in
    let whole = all_join chunks first end rising in
    let len = lengths_join chunks first end rising in
    let at_first = due_place chunks from in
    let at_end = due_place chunks to in
    let rest : middle chunks first end ++ drop end chunks ≡ drop first chunks =
    append_cancel_left (take first chunks) (middle chunks first end ++ drop end chunks) (drop first chunks) (whole ∙ sym (take-append-drop first chunks)) in
    record {
      whole = whole;
      early = at_first.0;
      later = subst (IsLate (from - play_length (take first chunks))) (sym rest) at_first.1;
      by = omega (arith, len, at_end.0);
      last = subst (λ n. IsLate (to - n) (drop end chunks)) (sym len) at_end.1;
    }

pub first_len : (chunks : List Chunk) (t : ℕ) → length (front chunks t) ≡ due_count chunks t
first_len chunks t = length-take-le (due_count chunks t) chunks (count_within chunks t)

one_len : (zs : List Chunk) → play_length (take 1 zs) ≡ head_delay zs
one_len [] = refl
one_len (z ∷ zs) = omega arith

-- when a chunk is due
pub due_time-head : (chunks : List Chunk) (n : ℕ) → due_time chunks n ≡ play_length (take n chunks) + head_delay (drop n chunks)
due_time-head chunks n =
    ap play_length (take-add n 1 chunks) ∙ sum_by-append (λ c. c.delay) (take n chunks) (take 1 (drop n chunks))
    ∙ ap (λ d. play_length (take n chunks) + d) (one_len (drop n chunks))
