-- The lists of edits, as they are made.
use Rattle.std.proofs.Common.{◌≡◌, ℕ, suc, ◌+◌, ◌-◌, ◌<◌, ◌≤◌, min, List, [], ◌∷◌, ◌++◌, Option, Some, None, length, take, drop, refl, ap, ap₂, sym, ◌∙◌, arith, append_assoc, inl, inr, subst, length-drop, length-take}
use Rattle.std.proofs.lemmas.Bool.{cases_lt, le-ltb, lt-leb, lt-ltb}
use Rattle.std.proofs.lemmas.List.{drop_all, nil_from_length, take_all}
use Rattle.std.specs.Int.{div_ceil}
use Rattle.std.specs.Prelude.{IfSome}
use Rattle.tape_core.specs.declared.chunk.Chunk.{Chunk}
use Rattle.tape_core.specs.Due.{due_count, due_time}
use Rattle.tape_core.specs.Tape.{Tape, longest_chunk}
use Rattle.tape_core.proofs.DueLemmas.{due_below}
use Rattle.tape_seek.specs.declared.edits.Edit.TheVariants.{Insert}
use Rattle.tape_cut.specs.CutEdits.{cut_edits, deleting, due_by, excerpt_edits, inserting, kept_end, put_in, retiming}
use Rattle.tape_cut.specs.Cuts.{before_next, pieces, pieces_of}
use Rattle.tape_cut.specs.Making.{TellsNext}
use Rattle.tape_cut.proofs.DueParts.{due_place}
use Rattle.tape_cut.proofs.PieceLemmas.{no_pieces}

-- ---- the list of a cut

text_in : (first end : ℕ) (text : List ℕ) → (end ≤ first → text ≡ []) → put_in first end text ≡ pieces text
text_in first end text none =
    elim (cases_lt first end) [
      | inl lt ↦ rw (lt-ltb first end lt) refl
      | inr ge ↦ rw (le-ltb first end ge) (sym no_pieces ∙ ap pieces (sym (none ge)))
    ]

pub cut_edits_are : (from to : ℕ) (text : List ℕ) (tape : Tape) → from < to
    → (due_count tape.chunks to ≤ due_count tape.chunks from → text ≡ [])
    → let first = due_count tape.chunks from in
    let end = due_count tape.chunks to in
    let old = due_by tape.chunks first in
    cut_edits from to text tape
    ≡ deleting first end ++ (inserting first (from - old) (pieces text)
    ++ retiming (drop end tape.chunks) (first + length (pieces text)) (due_time tape.chunks end - (to - from + before_next (pieces text) old from)))
unfolding cut_edits
cut_edits_are from to text tape rising none =
    let first = due_count tape.chunks from in
    let end = due_count tape.chunks to in
    let old = due_by tape.chunks first in
    let due = due_time tape.chunks end in
    let less : due - (to - from) - before_next (pieces text) old from ≡ due - (to - from + before_next (pieces text) old from) = omega arith in
    rw (lt-leb to from rising)
    (ap (λ put. deleting first end ++ inserting first (from - old) put ++ retiming (drop end tape.chunks) (first + length put) (due - (to - from) - before_next put old from)) (text_in first end text none)
    ∙ ap (λ d. deleting first end ++ inserting first (from - old) (pieces text) ++ retiming (drop end tape.chunks) (first + length (pieces text)) d) less
    ∙ append_assoc (deleting first end) (inserting first (from - old) (pieces text)) _)

-- where no chunk goes the text makes no difference
pub text_ignored : (from to : ℕ) (one other : List ℕ) (tape : Tape) → due_count tape.chunks to ≤ due_count tape.chunks from
    → cut_edits from to one tape ≡ cut_edits from to other tape
unfolding cut_edits
text_ignored from to one other tape none =
    let off = le-ltb (due_count tape.chunks from) (due_count tape.chunks to) none in
    rw off refl

-- ---- and of an excerpt

pub excerpt_edits_are : (from : ℕ) (to : Option ℕ) (text : List ℕ) (tape : Tape)
    → let first = due_count tape.chunks from in
    let end = kept_end tape.chunks from to in
    excerpt_edits from to text tape
    ≡ deleting end (length tape.chunks) ++ (deleting 0 first ++ (inserting 0 0 (pieces text)
    ++ retiming (drop first (take end tape.chunks)) (0 + length (pieces text)) (due_time tape.chunks first - from)))
unfolding excerpt_edits
excerpt_edits_are from to text tape =
    let first = due_count tape.chunks from in
    let end = kept_end tape.chunks from to in
    let behind = deleting end (length tape.chunks) in
    let before = deleting 0 first in
    let in_text = inserting 0 0 (pieces text) in
    let again = λ (n : ℕ). retiming (drop first (take end tape.chunks)) n (due_time tape.chunks first - from) in
    let zero : length (pieces text) ≡ 0 + length (pieces text) = omega arith in
    ap (λ n. behind ++ before ++ in_text ++ again n) zero
    ∙ append_assoc (behind ++ before) in_text (again (0 + length (pieces text)))
    ∙ append_assoc behind before (in_text ++ again (0 + length (pieces text)))

-- ---- moments

pub before_is_due : (chunks : List Chunk) (t n : ℕ) → n ≡ due_count chunks t → due_by chunks n ≤ t
before_is_due chunks t n is = subst (λ k. due_by chunks k ≤ t) (sym is) (due_place chunks t).0

pub next_is_late : (chunks : List Chunk) (t n : ℕ) → n ≡ due_count chunks t → n < length chunks → t < due_time chunks n
next_is_late chunks t n is lt =
    elim (cases_lt t (due_time chunks n)) [
      | inl late ↦ late
      | inr le ↦ let below = (due_below chunks t n lt).0 le in absurd (omega (arith, below))
    ]

pub before_within : (parts : List (List ℕ)) (old from : ℕ) → old ≤ from → before_next parts old from ≤ from
before_within [] old from le = le
before_within (part ∷ parts) old from le = omega arith

-- by the test of the code
pub before_is : (parts : List (List ℕ)) (first at old from before : ℕ) → at ≡ first + length parts → (first < at → before ≡ from)
    → (at ≤ first → before ≡ old) → before ≡ before_next parts old from
before_is [] first at old from before is some none = none (omega arith)
before_is (part ∷ parts) first at old from before is some none = some (omega arith)

-- the next chunk, if there is one, is due late enough
pub retime_room : (next : Option ℕ) (chunks : List Chunk) (place limit bound : ℕ)
    → TellsNext next (drop place (take limit chunks)) (due_time chunks place) → (place < length chunks → bound ≤ due_time chunks place)
    → IfSome next (λ due. bound ≤ due)
retime_room None chunks place limit bound tells late = tt
retime_room (Some due) chunks place limit bound tells late =
    let some = tells.1 in
    let left = length-drop place (take limit chunks) in
    let front = length-take limit chunks in
    omega (arith, tells.0, late (omega arith))

-- ---- pieces one by one

pieces_none : (text : List ℕ) → length text ≡ 0 → pieces text ≡ []
pieces_none text none = ap pieces (nil_from_length text none) ∙ no_pieces

pub pieces_next : (text : List ℕ) (len : ℕ) → 0 < length text → len ≡ min longest_chunk (length text)
    → pieces text ≡ take len text ∷ pieces (drop len text)
unfolding pieces
pieces_next text len some is =
    let long = length-drop longest_chunk text in
    let count : div_ceil (length text) longest_chunk ≡ suc (div_ceil (length (drop longest_chunk text)) longest_chunk) =
    rw long (count_next (length text) some) in
    let step = ap (λ n. pieces_of longest_chunk n text) count in
    elim (cases_lt (length text) longest_chunk) [
      | inl lt ↦
          let short : len ≡ length text = omega arith in
          let none : drop longest_chunk text ≡ [] = drop_all longest_chunk text (omega arith) in
          let too : drop len text ≡ [] = drop_all len text (omega arith) in
          step
          ∙ ap₂ (λ (x : List ℕ) (rest : List ℕ). x ∷ pieces_of longest_chunk (div_ceil (length rest) longest_chunk) rest)
          (take_all longest_chunk text (omega arith) ∙ sym (take_all len text (omega arith))) (none ∙ sym too)
      | inr le ↦
          let whole : longest_chunk ≡ len = omega arith in
          step ∙ ap (λ n. take n text ∷ pieces_of longest_chunk (div_ceil (length (drop n text)) longest_chunk) (drop n text)) whole
    ]
  where
    count_next : (n : ℕ) → 0 < n → div_ceil n longest_chunk ≡ suc (div_ceil (n - longest_chunk) longest_chunk)
    count_next n some = omega arith

pub inserting_next : (at delay : ℕ) (text : List ℕ) (len : ℕ) → 0 < length text → len ≡ min longest_chunk (length text)
    → inserting at delay (pieces text) ≡ Insert at delay (take len text) ∷ inserting (at + 1) 0 (pieces (drop len text))
inserting_next at delay text len some is = ap (inserting at delay) (pieces_next text len some is)

-- ---- the same by the places that the code has found

pub cut_list : (from to : ℕ) (text : List ℕ) (tape : Tape) (first end old : ℕ) → from < to
    → first ≡ due_count tape.chunks from → end ≡ due_count tape.chunks to → old ≡ due_by tape.chunks first
    → (due_count tape.chunks to ≤ due_count tape.chunks from → text ≡ [])
    → cut_edits from to text tape
    ≡ deleting first end ++ (inserting first (from - old) (pieces text)
    ++ retiming (drop end (take (length tape.chunks) tape.chunks)) (first + length (pieces text))
    (due_time tape.chunks end - (to - from + before_next (pieces text) old from)))
cut_list from to text tape first end old rising is_first is_end is_old none =
    let chunks = tape.chunks in
    let parts = pieces text in
    cut_edits_are from to text tape rising none
    ∙ ap₂ (λ f n. deleting f n ++ (inserting f (from - due_by chunks f) parts
    ++ retiming (drop n chunks) (f + length parts) (due_time chunks n - (to - from + before_next parts (due_by chunks f) from)))) (sym is_first) (sym is_end)
    ∙ ap (λ o. deleting first end ++ (inserting first (from - o) parts
    ++ retiming (drop end chunks) (first + length parts) (due_time chunks end - (to - from + before_next parts o from)))) (sym is_old)
    ∙ ap (λ cs. deleting first end ++ (inserting first (from - old) parts
    ++ retiming (drop end cs) (first + length parts) (due_time chunks end - (to - from + before_next parts old from)))) (sym (take_all (length chunks) chunks (omega arith)))

pub excerpt_list : (from : ℕ) (to : Option ℕ) (text : List ℕ) (tape : Tape) (first end count : ℕ)
    → first ≡ due_count tape.chunks from → end ≡ kept_end tape.chunks from to → count ≡ length tape.chunks
    → excerpt_edits from to text tape
    ≡ deleting end count ++ (deleting 0 first ++ (inserting 0 0 (pieces text)
    ++ retiming (drop first (take end tape.chunks)) (0 + length (pieces text)) (due_time tape.chunks first - from)))
excerpt_list from to text tape first end count is_first is_end is_count =
    let chunks = tape.chunks in
    let parts = pieces text in
    excerpt_edits_are from to text tape
    ∙ ap₂ (λ f n. deleting n (length chunks) ++ (deleting 0 f ++ (inserting 0 0 parts
    ++ retiming (drop f (take n chunks)) (0 + length parts) (due_time chunks f - from)))) (sym is_first) (sym is_end)
    ∙ ap (λ n. deleting end n ++ (deleting 0 first ++ (inserting 0 0 parts
    ++ retiming (drop first (take end chunks)) (0 + length parts) (due_time chunks first - from)))) (sym is_count)
