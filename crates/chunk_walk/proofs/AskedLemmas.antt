-- Which chunks are asked for.
use Rattle.std.proofs.Common.{◌≡◌, ℕ, ◌-◌, ◌<◌, ◌≤◌, Bool, true, false, ◌&&◌, List, [], length, nat_le, nat_lt, Option, None, Some, refl, ap, sym, ◌∙◌, arith, inl, inr}
use Rattle.std.specs.List.{flat_map}
use Rattle.std.proofs.lemmas.Bool.{cases_lt, lt-ltb, le-ltb, le-leb, lt-leb}
use Rattle.tape_core.specs.declared.chunk.Chunk.{Chunk}
use Rattle.tape_core.specs.Due.{due_count, due_time}
use Rattle.tape_core.specs.Tape.{Tape}
use Rattle.tape_core.specs.Law.{DueIsBelowTheCount}
use Rattle.chunk_walk.specs.Stops.{first_asked}
use Rattle.chunk_walk.specs.Walk.{TextOfChunk, asked_texts, is_asked, text_of}
use Rattle.chunk_walk.proofs.TextLemmas.{none_in, passing_between, texts_from}

both_false : (s t : Bool) → t ≡ false → (s && t) ≡ false
both_false true t h = h
both_false false t h = refl

both_true : (s t : Bool) → s ≡ true → t ≡ true → (s && t) ≡ true
both_true s t h k = rw (h, k) refl

-- a chunk that isn't due by the moment, one that isn't due after the other, and one that is asked for
late : (from : Option ℕ) (to due : ℕ) → to < due → is_asked from to due ≡ false
late None to due h = lt-leb due to h
late (Some from) to due h = both_false (nat_lt from due) (nat_le due to) (lt-leb due to h)

pub early : DueIsBelowTheCount → (chunks : List Chunk) (from : Option ℕ) (to i : ℕ) → i < length chunks
    → i < first_asked chunks from → is_asked from to (due_time chunks i) ≡ false
early law chunks None to i within h = absurd (omega arith)
early law chunks (Some from) to i within h =
    let due : due_time chunks i ≤ from = (law chunks from i within).1 h in
    rw (le-ltb from (due_time chunks i) due) refl

pub asked : DueIsBelowTheCount → (chunks : List Chunk) (from : Option ℕ) (to i : ℕ) → i < length chunks
    → first_asked chunks from ≤ i → i < due_count chunks to → is_asked from to (due_time chunks i) ≡ true
asked law chunks None to i within low h = le-leb (due_time chunks i) to ((law chunks to i within).1 h)
asked law chunks (Some from) to i within low h =
    both_true (nat_lt from (due_time chunks i)) (nat_le (due_time chunks i) to)
    (elim (cases_lt from (due_time chunks i)) [
      | inl lt ↦ lt-ltb from (due_time chunks i) lt
      | inr ge ↦ let below = (law chunks from i within).0 ge in absurd (omega (arith, below))
    ])
    (le-leb (due_time chunks i) to ((law chunks to i within).1 h))

pub past_due : DueIsBelowTheCount → (chunks : List Chunk) (from : Option ℕ) (to i : ℕ) → i < length chunks
    → due_count chunks to ≤ i → is_asked from to (due_time chunks i) ≡ false
past_due law chunks from to i within h =
    late from to (due_time chunks i)
    (elim (cases_lt to (due_time chunks i)) [
      | inl lt ↦ lt
      | inr ge ↦ let below = (law chunks to i within).0 ge in absurd (omega (arith, below))
    ])

-- the chunks that are asked for, where there are some
asked_some : {P : Type 0} → DueIsBelowTheCount → (text : TextOfChunk P) (profile : P) (tape : Tape) (from : Option ℕ) (to : ℕ)
    → first_asked tape.chunks from ≤ due_count tape.chunks to → due_count tape.chunks to ≤ length tape.chunks
    → asked_texts text profile tape from to ≡ texts_from (text_of text profile tape) (first_asked tape.chunks from) (due_count tape.chunks to - first_asked tape.chunks from)
unfolding asked_texts
asked_some law text profile tape from to some within =
    ap (flat_map (text_of text profile tape)) (passing_between (λ i. is_asked from to (due_time tape.chunks i)) (first_asked tape.chunks from) (due_count tape.chunks to) (length tape.chunks) some within
    (λ i h. early law tape.chunks from to i (omega arith) h)
    (λ i low high. asked law tape.chunks from to i (omega arith) low high)
    (λ i low high. past_due law tape.chunks from to i high low))

pub asked_from : {P : Type 0} → DueIsBelowTheCount
    → (text : TextOfChunk P) (profile : P) (tape : Tape) (from : Option ℕ) (to start end : ℕ)
    → start ≡ first_asked tape.chunks from → end ≡ due_count tape.chunks to → start ≤ end → end ≤ length tape.chunks
    → texts_from (text_of text profile tape) start (end - start) ≡ asked_texts text profile tape from to
asked_from law text profile tape from to start end low high some within =
    ap (λ s. texts_from (text_of text profile tape) s (end - s)) low ∙ ap (λ e. texts_from (text_of text profile tape) (first_asked tape.chunks from) (e - first_asked tape.chunks from)) high
    ∙ sym (asked_some law text profile tape from to (omega (arith, low, high)) (omega (arith, high)))

-- and where there is none
pub asked_none : {P : Type 0} → DueIsBelowTheCount → (text : TextOfChunk P) (profile : P) (tape : Tape) (from : Option ℕ) (to : ℕ)
    → due_count tape.chunks to ≤ first_asked tape.chunks from → asked_texts text profile tape from to ≡ []
unfolding asked_texts
asked_none law text profile tape from to none =
    ap (flat_map (text_of text profile tape)) (none_in (λ i. is_asked from to (due_time tape.chunks i)) 0 (length tape.chunks)
    (λ i low high. elim (cases_lt i (first_asked tape.chunks from)) [
      | inl lt ↦ early law tape.chunks from to i (omega arith) lt
      | inr ge ↦ past_due law tape.chunks from to i (omega arith) (omega arith)
    ]))
