-- What a cut makes of a recording, and that it doesn't show.
use Rattle.std.proofs.Common.{◌≡◌, ℕ, ◌+◌, ◌-◌, ◌<◌, ◌≤◌, List, [], ◌∷◌, ◌++◌, length, map, take, drop, filter, refl, ap, ap₂, sym, ◌∙◌, arith, append-nil, append_assoc, inl, inr, subst, length-drop, length-take}
use Rattle.std.proofs.lemmas.Bool.{cases_lt, le-leb, le-ltb, lt-leb, lt-ltb}
use Rattle.std.proofs.lemmas.Grind.{flat_map-append}
use Rattle.std.proofs.lemmas.List.{drop_all, drop_at, map-append}
use Rattle.plays.specs.declared.plays.Plays.{Ghosts}
use Rattle.tape_core.specs.declared.chunk.Chunk.{Chunk}
use Rattle.tape_core.specs.Due.{due, due_count, due_time, play_length}
use Rattle.tape_core.specs.Edited.{with_chunks}
use Rattle.tape_core.specs.Tape.{Tape, body}
use Rattle.tape_core.proofs.DueLemmas.{due_first}
use Rattle.tape_seek.specs.Edits.{edited_all}
use Rattle.tape_cut.specs.CutEdits.{cut_edits, deleting, due_by, inserting, put_in, retiming}
use Rattle.tape_cut.specs.Cuts.{Timed, before_next, chunks_of, cut_of, earlier, in_place_of, is_after, is_by, stretch, text_at, timed}
use Rattle.tape_cut.specs.Law.{CutIsMade, CutIsUnseen, CutKeepsTheRest, HasBytes, NothingIsCut, bytes_of}
use Rattle.tape_cut.specs.States.{MakesAnyThis, SeenAlike, SendsInParts}
use Rattle.tape_cut.proofs.DueParts.{count_rises, count_within}
use Rattle.tape_cut.proofs.EditLemmas.{delete_makes, edited-append, replaced_by}
use Rattle.tape_cut.proofs.PartLemmas.{IsParted, due_time-head, first_len, front, fronts_join, lengths_join, middle, parted}
use Rattle.tape_cut.proofs.PieceLemmas.{joined, pieces_joined}
use Rattle.tape_cut.proofs.Shapes.{cut_after, cut_before, cut_chunks, head_delay, headed, next_delay, old_after, placed}
use Rattle.tape_cut.proofs.TimedLemmas.{after_to, between, by_from, chunks_of-earlier, chunks_of-pieces, chunks_of-timed}

-- ---- the bytes of chunks

pub bytes-placed : (delay : ℕ) (parts : List (List ℕ)) → bytes_of (placed delay parts) ≡ parts
bytes-placed delay [] = refl
bytes-placed delay (part ∷ parts) = ap (λ rest. part ∷ rest) (bytes-placed 0 parts)

pub bytes-headed : (delay : ℕ) (zs : List Chunk) → bytes_of (headed delay zs) ≡ bytes_of zs
bytes-headed delay [] = refl
bytes-headed delay (z ∷ zs) = refl

pub body-append : (xs ys : List Chunk) → body (xs ++ ys) ≡ body xs ++ body ys
body-append xs ys = flat_map-append (λ (c : Chunk). c.bytes) xs ys

-- ---- what is seen and sent

pub same_seen : {T P K : Type 0} (p : Ghosts T P K) (profile : P) (one other : List ℕ) → one ≡ other → SeenAlike p profile one other
same_seen p profile one other same = subst (SeenAlike p profile one) same (λ terminal. (λ h. h, λ h. h))

pub seen_along : {T P K : Type 0} (p : Ghosts T P K) (profile : P) (a b c d : List ℕ) → a ≡ b → c ≡ d → SeenAlike p profile b d
    → SeenAlike p profile a c
seen_along p profile a b c d ab cd seen =
    subst (λ x. SeenAlike p profile x c) (sym ab) (subst (SeenAlike p profile b) (sym cd) seen)

-- what is sent behind some bytes
pub sent_behind : {T P K : Type 0} (p : Ghosts T P K) → SendsInParts p → (profile : P) (bytes more : List ℕ)
    → drop (length (p.sent profile bytes)) (p.sent profile (bytes ++ more)) ≡ p.replies profile bytes more
sent_behind p parts profile bytes more =
    ap (drop (length (p.sent profile bytes))) (parts profile bytes more)
    ∙ drop_at (p.sent profile bytes) (p.replies profile bytes more) (length (p.sent profile bytes)) refl

module _ (from to : ℕ) (text : List ℕ) (tape : Tape) (rising : from < to) where
  abbrev chunks : List Chunk
  chunks = tape.chunks

  abbrev first : ℕ
  first = due_count tape.chunks from

  abbrev end : ℕ
  end = due_count tape.chunks to

  abbrev put : List (List ℕ)
  put = put_in first end text

  abbrev xs : List Chunk
  xs = front chunks from

  abbrev ys : List Chunk
  ys = middle chunks first end

  abbrev zs : List Chunk
  zs = drop end chunks

  in_order : from ≤ to
  in_order = omega arith

  three : IsParted chunks xs ys zs from to
  three = parted chunks from to in_order

  ends : first ≤ end
  ends = count_rises chunks from to in_order

  next_due : due_time chunks end ≡ play_length xs + play_length ys + head_delay zs
  next_due = due_time-head chunks end ∙ ap (λ n. n + head_delay zs) (sym (lengths_join chunks first end ends))

  -- the edits make these chunks
  pub cut_made : edited_all tape (cut_edits from to text tape) ≡ with_chunks (cut_chunks xs ys zs put from to) tape
  unfolding cut_edits
  cut_made =
      let old = due_by chunks first in
      let delay = due_time chunks end - (to - from) - before_next put old from in
      let out = deleting first end in
      let in_text = inserting first (from - old) put in
      let again = retiming zs (first + length put) delay in
      let made : edited_all tape (out ++ in_text ++ again) ≡ with_chunks (cut_chunks xs ys zs put from to) tape =
      ap (edited_all tape) (append_assoc out in_text again)
      ∙ edited-append tape out (in_text ++ again)
      ∙ ap (λ t. edited_all t (in_text ++ again)) (delete_makes tape first end ends)
      ∙ replaced_by put (with_chunks (xs ++ zs) tape) xs zs first (from - old) delay refl (first_len chunks from)
      ∙ ap (λ n. with_chunks (xs ++ (placed (from - old) put ++ headed (n - (to - from) - before_next put old from) zs)) tape) next_due in
      rw (lt-leb to from rising) made

  -- where something goes the text comes in
  text_in : in_place_of (timed (play_length xs) ys) (text_at from text) ≡ map (λ piece. record { moment = from; bytes = piece }) put
  text_in =
      elim (cases_lt first end) [
        | inl lt ↦
            let most = count_within chunks to in
            let some : 0 < length ys = omega (arith, length-drop first (take end chunks), length-take end chunks) in
            rw (lt-ltb first end lt) (in_place ys some)
        | inr ge ↦
            let none : ys ≡ [] = drop_all first (take end chunks) (omega (arith, length-take end chunks)) in
            rw (le-ltb first end ge) (ap (λ cs. in_place_of (timed (play_length xs) cs) (text_at from text)) none)
      ]
    where
      in_place : (cs : List Chunk) → 0 < length cs → in_place_of (timed (play_length xs) cs) (text_at from text) ≡ text_at from text
      in_place [] some = absurd (omega arith)
      in_place (c ∷ cs) some = refl

  -- and so does the definition by moments
  pub cut_is : cut_of from to text tape ≡ with_chunks (cut_chunks xs ys zs put from to) tape
  unfolding cut_of
  cut_is =
      let p = three in
      let later = earlier (to - from) in
      let start = play_length xs in
      let finish = start + play_length ys in
      let comes : List Timed = map (λ piece. record { moment = from; bytes = piece }) put in
      let rest = map later (timed finish zs) in
      let zero : 0 + start ≡ start = omega arith in
      let before = before_next put start from in
      let made : chunks_of 0 (filter (is_by from) (timed 0 chunks) ++ in_place_of (stretch from to tape) (text_at from text) ++ map later (filter (is_after to) (timed 0 chunks)))
      ≡ cut_chunks xs ys zs put from to =
      ap (λ ts. chunks_of 0 (ts ++ in_place_of (stretch from to tape) (text_at from text) ++ map later (filter (is_after to) (timed 0 chunks))))
      (by_from chunks xs ys zs from to in_order p)
      ∙ ap (λ ts. chunks_of 0 (timed 0 xs ++ in_place_of ts (text_at from text) ++ map later (filter (is_after to) (timed 0 chunks))))
      (between chunks xs ys zs from to in_order p)
      ∙ ap (λ ts. chunks_of 0 (timed 0 xs ++ ts ++ map later (filter (is_after to) (timed 0 chunks)))) text_in
      ∙ ap (λ ts. chunks_of 0 (timed 0 xs ++ comes ++ map later ts)) (after_to chunks xs ys zs from to in_order p)
      ∙ ap (chunks_of 0) (append_assoc (timed 0 xs) comes rest)
      ∙ chunks_of-timed 0 xs (comes ++ rest)
      ∙ ap (λ s. xs ++ chunks_of s (comes ++ rest)) zero
      ∙ ap (λ cs. xs ++ cs) (chunks_of-pieces put start from rest p.early)
      ∙ ap (λ cs. xs ++ (placed (from - start) put ++ cs)) (chunks_of-earlier (to - from) to before finish zs (omega arith) p.last) in
      rw (lt-leb to from rising) (ap (λ cs. with_chunks cs tape) made)

  pub cut_keeps : HasBytes (bytes_of xs ++ put ++ bytes_of zs) tape (with_chunks (cut_chunks xs ys zs put from to) tape)
  cut_keeps =
      let in_text = placed (from - play_length xs) put in
      let rest = headed (next_delay xs ys zs put from to) zs in
      record {
        header = refl;
        trailer = refl;
        chunks = map-append (λ (c : Chunk). c.bytes) xs (in_text ++ rest)
            ∙ ap (λ bs. bytes_of xs ++ bs) (map-append (λ (c : Chunk). c.bytes) in_text rest
            ∙ ap₂ (λ (a b : List (List ℕ)). a ++ b) (bytes-placed (from - play_length xs) put) (bytes-headed (next_delay xs ys zs put from to) zs))
            ∙ sym (append_assoc (bytes_of xs) put (bytes_of zs));
      }

  -- ---- moments

  by_to : due chunks to ≡ body xs ++ body ys
  by_to = due_first chunks to ∙ ap body (sym (fronts_join chunks first end ends)) ∙ body-append xs ys

  new_due : (t : ℕ) → from ≤ t
      → due (cut_chunks xs ys zs put from to) t ≡ body xs ++ (joined put ++ due zs (t + (to - from) - (play_length xs + play_length ys)))
  new_due t le = let p = three in cut_after xs ys zs put from to rising p.early p.later p.by p.last t le

  old_due : (t : ℕ) → from ≤ t
      → due chunks (t + (to - from)) ≡ body xs ++ (body ys ++ due zs (t + (to - from) - (play_length xs + play_length ys)))
  old_due t le =
      let p = three in
      ap (λ cs. due cs (t + (to - from))) (sym p.whole) ∙ old_after xs ys zs put from to rising p.early p.later p.by p.last t le

  module _ {T P K : Type 0} (p : Ghosts T P K) (made : P → List ℕ → List ℕ) (profile : P) (makes : MakesAnyThis p made)
      (parts : SendsInParts p) (is : text ≡ made profile (due tape.chunks to)) where
    abbrev bytes : List ℕ
    bytes = due tape.chunks to

    new_with_text : first < end → (t : ℕ) → from ≤ t
        → due (cut_chunks xs ys zs put from to) t ≡ body xs ++ made profile bytes ++ due zs (t + (to - from) - (play_length xs + play_length ys))
    new_with_text gone t le =
        let rest = due zs (t + (to - from) - (play_length xs + play_length ys)) in
        let whole : joined put ≡ made profile bytes = rw (lt-ltb first end gone) (pieces_joined text ∙ is) in
        new_due t le ∙ ap (λ bs. body xs ++ (bs ++ rest)) whole ∙ sym (append_assoc (body xs) (made profile bytes) rest)

    old_behind : (t : ℕ) → from ≤ t → due chunks (t + (to - from)) ≡ bytes ++ due zs (t + (to - from) - (play_length xs + play_length ys))
    old_behind t le =
        let rest = due zs (t + (to - from) - (play_length xs + play_length ys)) in
        old_due t le ∙ sym (append_assoc (body xs) (body ys) rest) ∙ ap (λ bs. bs ++ rest) (sym by_to)

    nothing_gone : end ≤ first → (t : ℕ) → from ≤ t → due (cut_chunks xs ys zs put from to) t ≡ due chunks (t + (to - from))
    nothing_gone ge t le =
        let rest = due zs (t + (to - from) - (play_length xs + play_length ys)) in
        let none : ys ≡ [] = drop_all first (take end chunks) (omega (arith, length-take end chunks)) in
        let no_text : joined put ≡ [] = rw (le-ltb first end ge) refl in
        new_due t le ∙ ap (λ bs. body xs ++ (bs ++ rest)) (no_text ∙ ap body (sym none)) ∙ sym (old_due t le)

    pub seen_after : (t : ℕ) → from ≤ t → SeenAlike p profile (due (cut_chunks xs ys zs put from to) t) (due chunks (t + (to - from)))
    seen_after t le =
        elim (cases_lt first end) [
          | inl gone ↦
              seen_along p profile _ _ _ _ (new_with_text gone t le) (old_behind t le)
              (makes.seen profile (body xs) bytes (due zs (t + (to - from) - (play_length xs + play_length ys))))
          | inr ge ↦ same_seen p profile _ _ (nothing_gone ge t le)
        ]

    by_from_due : due chunks from ≡ body xs
    by_from_due = due_first chunks from

    pub sent_after : (t : ℕ) → from ≤ t
        → p.sent profile (due (cut_chunks xs ys zs put from to) t)
        ≡ p.sent profile (due chunks from) ++ drop (length (p.sent profile (due chunks to))) (p.sent profile (due chunks (t + (to - from))))
    sent_after t le =
        let rest = due zs (t + (to - from) - (play_length xs + play_length ys)) in
        let state = made profile bytes in
        let behind : drop (length (p.sent profile bytes)) (p.sent profile (due chunks (t + (to - from)))) ≡ p.replies profile bytes rest =
        ap (λ bs. drop (length (p.sent profile bytes)) (p.sent profile bs)) (old_behind t le) ∙ sent_behind p parts profile bytes rest in
        let wanted : p.sent profile (body xs) ++ p.replies profile bytes rest
        ≡ p.sent profile (due chunks from) ++ drop (length (p.sent profile bytes)) (p.sent profile (due chunks (t + (to - from)))) =
        ap₂ (λ (a b : List ℕ). a ++ b) (ap (p.sent profile) (sym by_from_due)) (sym behind) in
        elim (cases_lt first end) [
          | inl gone ↦
              ap (p.sent profile) (new_with_text gone t le)
              ∙ parts profile (body xs ++ state) rest
              ∙ ap₂ (λ (a b : List ℕ). a ++ b)
              (parts profile (body xs) state ∙ ap (λ bs. p.sent profile (body xs) ++ bs) (makes.silent profile (body xs) bytes) ∙ append-nil (p.sent profile (body xs)))
              (makes.answers profile (body xs) bytes rest)
              ∙ wanted
          | inr ge ↦
              let none : ys ≡ [] = drop_all first (take end chunks) (omega (arith, length-take end chunks)) in
              let short : bytes ≡ body xs = by_to ∙ ap (λ cs. body xs ++ body cs) none ∙ append-nil (body xs) in
              ap (p.sent profile) (nothing_gone ge t le ∙ old_behind t le)
              ∙ parts profile bytes rest
              ∙ ap (λ bs. p.sent profile bs ++ p.replies profile bytes rest) short
              ∙ wanted
        ]

-- ---- the laws

pub nothing_cut : NothingIsCut
unfolding cut_edits
nothing_cut from to text tape le = rw (le-leb to from le) refl

cut_none : (from to : ℕ) (text : List ℕ) (tape : Tape) → to ≤ from → cut_of from to text tape ≡ tape
unfolding cut_of
cut_none from to text tape le = rw (le-leb to from le) refl

pub cut_made_law : CutIsMade
cut_made_law from to text tape =
    elim (cases_lt from to) [
      | inl rising ↦ cut_made from to text tape rising ∙ sym (cut_is from to text tape rising)
      | inr le ↦ ap (edited_all tape) (nothing_cut from to text tape le) ∙ sym (cut_none from to text tape le)
    ]

pub cut_keeps_law : CutKeepsTheRest
cut_keeps_law from to text tape rising =
    subst (HasBytes _ tape) (sym (cut_made from to text tape rising)) (cut_keeps from to text tape rising)

pub cut_unseen : {T P K : Type 0} (p : Ghosts T P K) (made : P → List ℕ → List ℕ) → MakesAnyThis p made → SendsInParts p
    → (profile : P) (from to : ℕ) (tape : Tape) → from < to
    → CutIsUnseen p profile from to tape (edited_all tape (cut_edits from to (made profile (due tape.chunks to)) tape))
cut_unseen p made makes parts profile from to tape rising =
    let text = made profile (due tape.chunks to) in
    let three = parted tape.chunks from to (omega arith) in
    subst (CutIsUnseen p profile from to tape) (sym (cut_made from to text tape rising)) record {
      before = λ t lt. cut_before (front tape.chunks from) (middle tape.chunks (due_count tape.chunks from) (due_count tape.chunks to)) (drop (due_count tape.chunks to) tape.chunks)
          (put_in (due_count tape.chunks from) (due_count tape.chunks to) text) from to rising three.early three.later three.by three.last t lt
          ∙ ap (λ cs. due cs t) three.whole;
      after = λ t le. seen_after from to text tape rising p made profile makes parts refl t le;
      reports = λ t le. sent_after from to text tape rising p made profile makes parts refl t le;
    }
