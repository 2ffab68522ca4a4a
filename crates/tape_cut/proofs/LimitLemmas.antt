-- Of a recording that fits, the edits of a cut and of an excerpt have no fault but the limits of chunks and of bytes.
use Rattle.std.proofs.Common.{◌≡◌, ℕ, zero, suc, ◌+◌, ◌-◌, ◌<◌, ◌≤◌, Bool, true, false, cond, List, [], ◌∷◌, ◌++◌, Option, Some, None, length, take, drop, nat_le, nat_lt, refl, ap, sym, ◌∙◌, arith, append-nil, append_assoc, inl, inr, max, subst, length-append, length-take, length-drop}
use Rattle.std.specs.Prelude.{All, IfSome}
use Rattle.std.specs.Option.{option_or}
use Rattle.std.proofs.lemmas.Bool.{cases_lt, le-leb, le-ltb, lt-leb, lt-ltb}
use Rattle.std.proofs.lemmas.List.{drop_all}
use Rattle.std.proofs.lemmas.List.Elements.{All-drop, All-head}
use Rattle.tape_core.specs.declared.chunk.Chunk.{Chunk}
use Rattle.tape_core.specs.Due.{due_count, due_time, play_length}
use Rattle.tape_core.specs.Edited.{with_chunks}
use Rattle.tape_core.specs.Tape.{Tape, body_len, fits, longest_body, longest_chunk, longest_delay, most_chunks}
use Rattle.tape_seek.specs.declared.edits.Edit.{Edit}
use Rattle.tape_seek.specs.declared.edits.Edit.TheVariants.{Insert, Delete, Retime}
use Rattle.tape_seek.specs.declared.edits.EditFault.{EditFault}
use Rattle.tape_seek.specs.declared.edits.EditFault.TheVariants.{TooManyChunks, TooManyBytes}
use Rattle.tape_seek.specs.Edits.{edit_fault, edited, edited_all}
use Rattle.tape_cut.specs.CutEdits.{cut_edits, deleting, due_by, excerpt_edits, first_fault, inserting, kept_end, put_in, retiming}
use Rattle.tape_cut.specs.Cuts.{before_next, pieces, pieces_of}
use Rattle.tape_cut.specs.Law.{IsALimit, OnlyLimitsRefuse, OnlyLimitsRefuseAnExcerpt}
use Rattle.tape_cut.proofs.DueParts.{IsLate, count_rises, count_within, due_place}
use Rattle.tape_cut.proofs.EditLemmas.{delete_makes, insert_makes, length-placed}
use Rattle.tape_cut.proofs.MakingLemmas.{first_fault-before, first_fault-behind}
use Rattle.tape_cut.proofs.PartLemmas.{due_time-head, first_len, front}
use Rattle.tape_cut.proofs.PieceLemmas.{joined, pieces_joined}
use Rattle.tape_cut.proofs.Shapes.{head_delay, placed}

-- no fault but a limit
abbrev OnlyLimits : Tape → List Edit → Type 0
OnlyLimits tape edits = IfSome (first_fault tape edits) IsALimit

limits_by : (f : Option EditFault) (tape : Tape) (first second : List Edit) → first_fault tape first ≡ f → IfSome f IsALimit
    → (first_fault tape first ≡ None → OnlyLimits (edited_all tape first) second) → OnlyLimits tape (first ++ second)
limits_by None tape first second is one other =
    subst (λ o. IfSome o IsALimit) (sym (first_fault-behind first second tape is)) (other is)
limits_by (Some fault) tape first second is one other =
    subst (λ o. IfSome o IsALimit) (sym (first_fault-before first second tape fault is)) one

limits_join : (tape : Tape) (first second : List Edit) → OnlyLimits tape first
    → (first_fault tape first ≡ None → OnlyLimits (edited_all tape first) second) → OnlyLimits tape (first ++ second)
limits_join tape first second one other = limits_by (first_fault tape first) tape first second refl one other

no_limit : (tape : Tape) (edits : List Edit) → first_fault tape edits ≡ None → OnlyLimits tape edits
no_limit tape edits none = subst (λ o. IfSome o IsALimit) (sym none) tt

-- ---- one edit

delete_faultless : (tape : Tape) (from to : ℕ) → from < to → to ≤ length tape.chunks → edit_fault tape (Delete from to) ≡ None
delete_faultless tape from to lt le = rw (lt-leb to from lt, le-ltb (length tape.chunks) to le) refl

retime_faultless : (tape : Tape) (at delay : ℕ) → at < length tape.chunks → delay ≤ longest_delay → edit_fault tape (Retime at delay) ≡ None
retime_faultless tape at delay lt le = rw (lt-leb (length tape.chunks) at lt, le-ltb longest_delay delay le) refl

insert_limits : (tape : Tape) (at delay : ℕ) (bytes : List ℕ) → at ≤ length tape.chunks → delay ≤ longest_delay → length bytes ≤ longest_chunk
    → IfSome (edit_fault tape (Insert at delay bytes)) IsALimit
insert_limits tape at delay bytes within short few =
    rw (le-ltb (length tape.chunks) at within, le-ltb longest_delay delay short, le-ltb longest_chunk (length bytes) few)
    (by_tests (nat_le most_chunks (length tape.chunks)) (nat_lt longest_body (body_len (edited tape (Insert at delay bytes)).chunks)))
  where
    by_tests : (chunks_full bytes_full : Bool)
        → IfSome (cond chunks_full (Some TooManyChunks) (cond bytes_full (Some TooManyBytes) None)) IsALimit
    by_tests true bytes_full = inl refl
    by_tests false true = inr refl
    by_tests false false = tt

-- ---- lists of them

deleting_faultless : (tape : Tape) (from to : ℕ) → to ≤ length tape.chunks → first_fault tape (deleting from to) ≡ None
deleting_faultless tape from to le =
    elim (cases_lt from to) [
      | inl lt ↦ rw (lt-ltb from to lt) (ap (λ o. option_or o None) (delete_faultless tape from to lt le))
      | inr ge ↦ rw (le-ltb from to ge) refl
    ]

retiming_faultless : (zs xs : List Chunk) (tape : Tape) (at delay : ℕ) → tape.chunks ≡ xs ++ zs → length xs ≡ at
    → (0 < length zs → delay ≤ longest_delay) → first_fault tape (retiming zs at delay) ≡ None
retiming_faultless [] xs tape at delay is len short = refl
retiming_faultless (z ∷ zs) xs tape at delay is len short =
    let long = length-append xs (z ∷ zs) in
    let same = ap length is in
    ap (λ o. option_or o None) (retime_faultless tape at delay (omega arith) (short (omega arith)))

-- each piece is as short as a chunk
abbrev AreShort : List (List ℕ) → Type 0
AreShort [] = Unit {0}
AreShort (part ∷ parts) = (length part ≤ longest_chunk) × AreShort parts

short_pieces_of : (count : ℕ) (text : List ℕ) → AreShort (pieces_of longest_chunk count text)
short_pieces_of zero text = tt
short_pieces_of (suc count) text = (omega (arith, length-take longest_chunk text), short_pieces_of count (drop longest_chunk text))

short_pieces : (text : List ℕ) → AreShort (pieces text)
unfolding pieces
short_pieces text = short_pieces_of _ text

inserting_limits : (parts : List (List ℕ)) (tape : Tape) (at delay : ℕ) → at ≤ length tape.chunks
    → (0 < length parts → delay ≤ longest_delay) → AreShort parts
    → OnlyLimits tape (inserting at delay parts)
inserting_limits [] tape at delay within short are = tt
inserting_limits (part ∷ parts) tape at delay within short are =
    let more : Tape = edited tape (Insert at delay part) in
    let front = length-take at tape.chunks in
    let back = length-drop at tape.chunks in
    let long = length-append (take at tape.chunks) (record { delay = delay; bytes = part } ∷ drop at tape.chunks) in
    let rest : OnlyLimits more (inserting (at + 1) 0 parts) = inserting_limits parts more (at + 1) 0 (omega arith) (λ some. omega arith) are.1 in
    limits_join tape (Insert at delay part ∷ []) (inserting (at + 1) 0 parts)
    (one (edit_fault tape (Insert at delay part)) (insert_limits tape at delay part within (short (omega arith)) are.0)) (λ none. rest)
  where
    one : (f : Option EditFault) → IfSome f IsALimit → IfSome (option_or f None) IsALimit
    one None limit = limit
    one (Some fault) limit = limit

-- pieces come in, and what follows them is retimed
replacing_limits : (parts : List (List ℕ)) (tape : Tape) (xs zs : List Chunk) (at delay next : ℕ) → tape.chunks ≡ xs ++ zs → length xs ≡ at
    → (0 < length parts → delay ≤ longest_delay) → AreShort parts → (0 < length zs → next ≤ longest_delay)
    → OnlyLimits tape (inserting at delay parts ++ retiming zs (at + length parts) next)
replacing_limits parts tape xs zs at delay next is len short are soon =
    let put = placed delay parts in
    let long = length-append xs zs in
    let same = ap length is in
    let place : length (xs ++ put) ≡ at + length parts = omega (arith, length-append xs put, length-placed delay parts) in
    limits_join tape (inserting at delay parts) (retiming zs (at + length parts) next)
    (inserting_limits parts tape at delay (omega arith) short are)
    (λ none. no_limit (edited_all tape (inserting at delay parts)) (retiming zs (at + length parts) next)
    (ap (λ t. first_fault t (retiming zs (at + length parts) next)) (insert_makes parts tape xs zs at delay is len)
    ∙ retiming_faultless zs (xs ++ put) (with_chunks (xs ++ (put ++ zs)) tape) (at + length parts) next (sym (append_assoc xs put zs)) place soon))

-- ---- delays

head_short : (zs : List Chunk) → All (λ c. c.delay ≤ longest_delay) zs → head_delay zs ≤ longest_delay
head_short [] all = omega arith
head_short (z ∷ zs) all = All-head (λ (c : Chunk). c.delay ≤ longest_delay) z zs all

late_head : (t : ℕ) (zs : List Chunk) → IsLate t zs → 0 < length zs → t < head_delay zs
late_head t [] late some = absurd (omega arith)
late_head t (z ∷ zs) late some = late

-- ---- a cut

some_pieces : (text : List ℕ) → 0 < length text → 0 < length (pieces text)
some_pieces text some = any (pieces text) (pieces_joined text)
  where
    any : (parts : List (List ℕ)) → joined parts ≡ text → 0 < length parts
    any [] is = let none = ap length is in absurd (omega arith)
    any (part ∷ parts) is = omega arith

before_of_some : (parts : List (List ℕ)) (old moment : ℕ) → 0 < length parts → before_next parts old moment ≡ moment
before_of_some [] old moment some = absurd (omega arith)
before_of_some (part ∷ parts) old moment some = refl

module _ (from to : ℕ) (text : List ℕ) (tape : Tape) (rising : from < to) (some : 0 < length text) (fit : fits tape) where
  abbrev chunks : List Chunk
  chunks = tape.chunks

  abbrev first : ℕ
  first = due_count tape.chunks from

  abbrev end : ℕ
  end = due_count tape.chunks to

  abbrev put : List (List ℕ)
  put = put_in first end text

  abbrev zs : List Chunk
  zs = drop end chunks

  abbrev old : ℕ
  old = due_by chunks first

  ends : first ≤ end
  ends = count_rises chunks from to (omega arith)

  put_short : AreShort put
  put_short =
      elim (cases_lt first end) [
        | inl lt ↦ rw (lt-ltb first end lt) (short_pieces text)
        | inr ge ↦ rw (le-ltb first end ge) tt
      ]

  first_short : 0 < length put → from - old ≤ longest_delay
  first_short put_some =
      elim (cases_lt first end) [
        | inl lt ↦
            let within = count_within chunks to in
            let left = length-drop first chunks in
            let late = late_head (from - old) (drop first chunks) (due_place chunks from).1 (omega arith) in
            let short = head_short (drop first chunks) (All-drop (λ (c : Chunk). c.delay ≤ longest_delay) first chunks fit.delays) in
            omega arith
        | inr ge ↦
            let none : put ≡ [] = rw (le-ltb first end ge) refl in
            absurd (omega (arith, ap length none))
      ]

  next_short : 0 < length zs → due_time chunks end - (to - from) - before_next put old from ≤ longest_delay
  next_short left =
      let short = head_short zs (All-drop (λ (c : Chunk). c.delay ≤ longest_delay) end chunks fit.delays) in
      let due = due_time-head chunks end in
      let by = (due_place chunks to).0 in
      elim (cases_lt first end) [
        | inl lt ↦
            let is : put ≡ pieces text = rw (lt-ltb first end lt) refl in
            let before = ap (λ parts. before_next parts old from) is ∙ before_of_some (pieces text) old from (some_pieces text some) in
            omega (arith, before)
        | inr ge ↦
            let none : put ≡ [] = rw (le-ltb first end ge) refl in
            let before : before_next put old from ≡ old = ap (λ parts. before_next parts old from) none in
            let same : end ≡ first = omega (arith, ends) in
            let start = ap (λ n. play_length (take n chunks)) same in
            omega (arith, before)
      ]

  cut_limits : OnlyLimits tape (deleting first end ++ inserting first (from - old) put
      ++ retiming zs (first + length put) (due_time chunks end - (to - from) - before_next put old from))
  cut_limits =
      let delay = due_time chunks end - (to - from) - before_next put old from in
      let out = deleting first end in
      let in_text = inserting first (from - old) put in
      let again = retiming zs (first + length put) delay in
      subst (OnlyLimits tape) (sym (append_assoc out in_text again))
      (limits_join tape out (in_text ++ again)
      (no_limit tape out (deleting_faultless tape first end (count_within chunks to)))
      (λ none. subst (λ t. OnlyLimits t (in_text ++ again)) (sym (delete_makes tape first end ends))
      (replacing_limits put (with_chunks (front chunks from ++ zs) tape) (front chunks from) zs first (from - old) delay refl (first_len chunks from) first_short put_short next_short)))

pub only_limits : OnlyLimitsRefuse
unfolding cut_edits
only_limits from to text tape some fit =
    elim (cases_lt from to) [
      | inl rising ↦ rw (lt-leb to from rising) (cut_limits from to text tape rising some fit)
      | inr le ↦ rw (le-leb to from le) tt
    ]

-- ---- an excerpt

end_within : (chunks : List Chunk) (from : ℕ) (to : Option ℕ) → (due_count chunks from ≤ kept_end chunks from to) × (kept_end chunks from to ≤ length chunks)
end_within chunks from None = (count_within chunks from, omega arith)
end_within chunks from (Some to) = (count_rises chunks from (max from to) (omega arith), count_within chunks (max from to))

pub only_limits_excerpt : OnlyLimitsRefuseAnExcerpt
unfolding excerpt_edits
only_limits_excerpt from to text tape fit =
    let chunks = tape.chunks in
    let first = due_count chunks from in
    let end = kept_end chunks from to in
    let put = pieces text in
    let ys = drop first (take end chunks) in
    let delay = due_time chunks first - from in
    let within = end_within chunks from to in
    let behind = deleting end (length chunks) in
    let before = deleting 0 first in
    let in_text = inserting 0 0 put in
    let again = retiming ys (0 + length put) delay in
    let zero : length put ≡ 0 + length put = omega arith in
    let fronts : take end chunks ++ drop (length chunks) chunks ≡ take end chunks =
    ap (λ cs. take end chunks ++ cs) (drop_all (length chunks) chunks (omega arith)) ∙ append-nil (take end chunks) in
    let front_tape : Tape = with_chunks (take end chunks) tape in
    let by = (due_place chunks from).0 in
    let due = due_time-head chunks first in
    let short = head_short (drop first chunks) (All-drop (λ (c : Chunk). c.delay ≤ longest_delay) first chunks fit.delays) in
    let made_behind : edited_all tape behind ≡ front_tape =
    delete_makes tape end (length chunks) within.1 ∙ ap (λ cs. with_chunks cs tape) fronts in
    let front_len = length-take end chunks in
    let rest : OnlyLimits (with_chunks ys tape) (in_text ++ again) =
    replacing_limits put (with_chunks ys tape) [] ys 0 0 delay refl refl (λ some. omega arith) (short_pieces text) (λ some. omega arith) in
    let kept : OnlyLimits front_tape (before ++ (in_text ++ again)) =
    limits_join front_tape before (in_text ++ again)
    (no_limit front_tape before (deleting_faultless front_tape 0 first (omega arith)))
    (λ none. subst (λ t. OnlyLimits t (in_text ++ again)) (sym (delete_makes front_tape 0 first (omega arith))) rest) in
    let whole : OnlyLimits tape (behind ++ (before ++ (in_text ++ again))) =
    limits_join tape behind (before ++ (in_text ++ again))
    (no_limit tape behind (deleting_faultless tape end (length chunks) (omega arith)))
    (λ none. subst (λ t. OnlyLimits t (before ++ (in_text ++ again))) (sym made_behind) kept) in
    let grouped : behind ++ before ++ in_text ++ again ≡ behind ++ (before ++ (in_text ++ again)) =
    append_assoc (behind ++ before) in_text again ∙ append_assoc behind before (in_text ++ again) in
    subst (λ n. OnlyLimits tape (behind ++ before ++ in_text ++ retiming ys n delay)) (sym zero)
    (subst (OnlyLimits tape) (sym grouped) whole)
