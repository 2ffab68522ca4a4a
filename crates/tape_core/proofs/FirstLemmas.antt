-- The bytes of the first chunks: one chunk more, and what a change leaves of them.
use Rattle.std.proofs.Common.{◌≡◌, ℕ, ◌+◌, ◌<◌, ◌≤◌, List, [], ◌∷◌, ◌++◌, length, map, get_or, take, drop, refl, ap, sym, ◌∙◌, arith, append_assoc, append-nil, length-take, inl, inr}
use Rattle.std.proofs.lemmas.Bool.{cases_lt}
use Rattle.std.specs.List.{flat_map}
use Rattle.std.proofs.Math.Seq.{take-add}
use Rattle.std.proofs.lemmas.Grind.{flat_map-append}
use Rattle.std.proofs.lemmas.List.{drop-drop, drop_all, map-append, take_all, take-append-drop, take-append-le, take-map, take-take, take_more}
use Rattle.std.proofs.lemmas.List.Folds.{flat_map-map}
use Rattle.std.proofs.lemmas.Simd.{map-map}
use Rattle.tape_core.specs.declared.chunk.Chunk.{Chunk}
use Rattle.tape_core.specs.Edited.{capped_chunk, changed_at}
use Rattle.tape_core.specs.Due.{bytes_at, first}
use Rattle.tape_core.specs.Tape.{body}
use Rattle.tape_core.specs.Law.{FirstIsKept}

abbrev bytes_of : Chunk → List ℕ
bytes_of c = c.bytes

-- one chunk more
pub first-more : (chunks : List Chunk) (n : ℕ) → first chunks (n + 1) ≡ first chunks n ++ bytes_at chunks n
first-more chunks n = ap body (take-add n 1 chunks) ∙ flat_map-append bytes_of (take n chunks) (take 1 (drop n chunks))

pub first-more_of : (chunks : List Chunk) (n : ℕ) (c : Chunk) → n < length chunks → get_or chunks n c ≡ c
    → first chunks (n + 1) ≡ first chunks n ++ c.bytes
first-more_of chunks n c lt is =
    ap body (take_more chunks n c lt) ∙ flat_map-append bytes_of (take n chunks) (get_or chunks n c ∷ [])
    ∙ ap (λ x. first chunks n ++ x) (append-nil (get_or chunks n c).bytes ∙ ap bytes_of is)

-- what stands behind a place changes nothing before it
front_kept : (chunks rest : List Chunk) (at n : ℕ) → n ≤ at → at ≤ length chunks → first (take at chunks ++ rest) n ≡ first chunks n
front_kept chunks rest at n le within =
    let long : n ≤ length (take at chunks) = omega (arith, length-take at chunks) in
    ap body (take-append-le n (take at chunks) rest long ∙ take-take n at chunks le)

-- nor does a change of the chunk at the place
change_kept : (change : Chunk → Chunk) (chunks : List Chunk) (at n : ℕ) → n ≤ at → first (changed_at change at chunks) n ≡ first chunks n
change_kept change chunks at n le =
    elim (cases_lt (length chunks) at) [
      | inl lt ↦
          let none : drop at chunks ≡ [] = drop_all at chunks (omega arith) in
          let more : drop (at + 1) chunks ≡ [] = drop_all (at + 1) chunks (omega arith) in
          ap (λ cs. first cs n) (rw (none, more, take_all at chunks (omega arith), append-nil chunks, append-nil chunks) refl)
      | inr ge ↦
          ap (λ cs. first cs n) (append_assoc (take at chunks) (map change (take 1 (drop at chunks))) (drop (at + 1) chunks))
          ∙ front_kept chunks (map change (take 1 (drop at chunks)) ++ drop (at + 1) chunks) at n le ge
    ]

-- chunks with the same bytes
same_bytes : (old new : List Chunk) (n : ℕ) → map bytes_of new ≡ map bytes_of old → first new n ≡ first old n
same_bytes old new n same =
    let of = λ (chunks : List Chunk). sym (flat_map-map (λ (b : List ℕ). b) bytes_of (take n chunks)) ∙ ap (flat_map (λ (b : List ℕ). b)) (sym (take-map bytes_of n chunks)) in
    of new ∙ ap (λ bs. flat_map (λ (b : List ℕ). b) (take n bs)) same ∙ sym (of old)

retimed_kept : (delay : ℕ) (chunks : List Chunk) (at n : ℕ) → first (changed_at (λ c. record c { delay = delay }) at chunks) n ≡ first chunks n
retimed_kept delay chunks at n =
    let change : Chunk → Chunk = λ c. record c { delay = delay } in
    let whole : take at chunks ++ take 1 (drop at chunks) ++ drop (at + 1) chunks ≡ chunks =
    append_assoc (take at chunks) (take 1 (drop at chunks)) (drop (at + 1) chunks)
    ∙ ap (λ x. take at chunks ++ (take 1 (drop at chunks) ++ x)) (sym (drop-drop 1 at chunks))
    ∙ ap (λ x. take at chunks ++ x) (take-append-drop 1 (drop at chunks)) ∙ take-append-drop at chunks in
    same_bytes chunks (changed_at change at chunks) n
    (map-append bytes_of (take at chunks ++ map change (take 1 (drop at chunks))) (drop (at + 1) chunks)
    ∙ ap (λ x. x ++ map bytes_of (drop (at + 1) chunks)) (map-append bytes_of (take at chunks) (map change (take 1 (drop at chunks)))
    ∙ ap (λ x. map bytes_of (take at chunks) ++ x) (map-map bytes_of change (take 1 (drop at chunks))) ∙ sym (map-append bytes_of (take at chunks) (take 1 (drop at chunks))))
    ∙ sym (map-append bytes_of (take at chunks ++ take 1 (drop at chunks)) (drop (at + 1) chunks)) ∙ ap (map bytes_of) whole)

capped_kept : (chunks : List Chunk) (max n : ℕ) → first (map (capped_chunk max) chunks) n ≡ first chunks n
capped_kept chunks max n = same_bytes chunks (map (capped_chunk max) chunks) n (map-map bytes_of (capped_chunk max) chunks)

pub first_kept : FirstIsKept
first_kept = record {
  inserted = λ tape at n chunk le within. front_kept tape.chunks (chunk ∷ drop at tape.chunks) at n le within;
  removed = λ tape from to n le within. front_kept tape.chunks (drop to tape.chunks) from n le within;
  replaced = λ tape at n bytes le. change_kept (λ x. record x { bytes = bytes }) tape.chunks at n le;
  retimed = λ tape at delay n. retimed_kept delay tape.chunks at n;
  capped = λ tape max n. capped_kept tape.chunks max n;
}
