-- What an excerpt makes of a recording, and that it doesn't show.
use Rattle.std.proofs.Common.{◌≡◌, ℕ, ◌+◌, ◌-◌, ◌<◌, ◌≤◌, max, min, List, [], ◌∷◌, ◌++◌, Option, Some, None, length, map, take, drop, filter, refl, ap, ap₂, sym, ◌∙◌, arith, append-nil, append_assoc, inl, inr, subst, length-take}
use Rattle.std.specs.Prelude.{◌⊎◌}
use Rattle.std.proofs.lemmas.Bool.{cases_lt, le-ltb, lt-leb, lt-ltb}
use Rattle.std.proofs.lemmas.List.{append_cancel_left, drop_all, map-append, take-append-drop, take_all}
use Rattle.plays.specs.declared.plays.Plays.{Ghosts}
use Rattle.tape_core.specs.declared.chunk.Chunk.{Chunk}
use Rattle.tape_core.specs.Due.{due, due_count, due_time, play_length}
use Rattle.tape_core.specs.Edited.{with_chunks}
use Rattle.tape_core.specs.Tape.{Tape}
use Rattle.tape_core.proofs.DueLemmas.{due_first}
use Rattle.tape_seek.specs.Edits.{edited_all}
use Rattle.tape_cut.specs.CutEdits.{deleting, excerpt_edits, inserting, kept_end, retiming}
use Rattle.tape_cut.specs.Cuts.{Timed, before_next, chunks_of, earlier, excerpt_of, is_between, is_kept, pieces, text_at, timed}
use Rattle.tape_cut.specs.Law.{ExcerptIsMade, ExcerptIsUnseen, ExcerptKeepsTheRest, HasBytes, bytes_of, moment_kept}
use Rattle.tape_cut.specs.States.{MakesAnyThis, SendsInParts}
use Rattle.tape_cut.proofs.CutLemmas.{bytes-headed, bytes-placed, seen_along, sent_behind}
use Rattle.tape_cut.proofs.DueParts.{IsLate, count_rises, count_within, due_place}
use Rattle.tape_cut.proofs.EditLemmas.{delete_makes, edited-append, replaced_by}
use Rattle.tape_cut.proofs.PartLemmas.{IsParted, all_join, due_time-head, front, lengths_join, middle, parted}
use Rattle.tape_cut.proofs.PieceLemmas.{pieces_joined}
use Rattle.tape_cut.proofs.Shapes.{head_delay, headed, kept_at, kept_chunks, late_front, old_kept, old_kept_all, placed}
use Rattle.tape_cut.proofs.TimedLemmas.{all_after, between, chunks_of-earlier, chunks_of-pieces}

-- the moment by which all is due that is kept
abbrev until : List Chunk → ℕ → Option ℕ → ℕ
until chunks from None = max from (play_length chunks)
until chunks from (Some to) = max from to

until_rises : (chunks : List Chunk) (from : ℕ) (to : Option ℕ) → from ≤ until chunks from to
until_rises chunks from None = omega arith
until_rises chunks from (Some to) = omega arith

kept_within : (chunks : List Chunk) (from : ℕ) (to : Option ℕ) → (due_count chunks from ≤ kept_end chunks from to) × (kept_end chunks from to ≤ length chunks)
kept_within chunks from None = (count_within chunks from, omega arith)
kept_within chunks from (Some to) = (count_rises chunks from (max from to) (omega arith), count_within chunks (max from to))

nothing_behind : (chunks : List Chunk) → drop (length chunks) chunks ≡ []
nothing_behind chunks = drop_all (length chunks) chunks (omega arith)

parted_all : (chunks : List Chunk) (from : ℕ)
    → IsParted chunks (front chunks from) (middle chunks (due_count chunks from) (length chunks)) (drop (length chunks) chunks) from (max from (play_length chunks))
parted_all chunks from =
    let first = due_count chunks from in
    let end = length chunks in
    let within = count_within chunks from in
    let whole = all_join chunks first end within in
    let len = lengths_join chunks first end within in
    let all : play_length (take end chunks) ≡ play_length chunks = ap play_length (take_all end chunks (omega arith)) in
    let at_first = due_place chunks from in
    let rest : middle chunks first end ++ drop end chunks ≡ drop first chunks =
    append_cancel_left (take first chunks) (middle chunks first end ++ drop end chunks) (drop first chunks) (whole ∙ sym (take-append-drop first chunks)) in
    let most = max from (play_length chunks) - (play_length (take first chunks) + play_length (middle chunks first end)) in
    record {
      whole = whole;
      early = at_first.0;
      later = subst (IsLate (from - play_length (take first chunks))) (sym rest) at_first.1;
      by = omega (arith, len, all);
      last = subst (IsLate most) (sym (nothing_behind chunks)) tt;
    }

parted_kept : (chunks : List Chunk) (from : ℕ) (to : Option ℕ)
    → IsParted chunks (front chunks from) (middle chunks (due_count chunks from) (kept_end chunks from to)) (drop (kept_end chunks from to) chunks) from (until chunks from to)
parted_kept chunks from None = parted_all chunks from
parted_kept chunks from (Some to) = parted chunks from (max from to) (omega arith)

-- the first of the kept chunks is the first that is left
headed_alike : (start from : ℕ) (ys zs rest : List Chunk) → ys ++ zs ≡ rest
    → headed (start + head_delay rest - from) ys ≡ headed (start + head_delay ys - from) ys
headed_alike start from [] zs rest is = refl
headed_alike start from (y ∷ ys) zs rest is = ap (λ cs. headed (start + head_delay cs - from) (y ∷ ys)) (sym is)

none_between : (low high : ℕ) → high ≤ low → (ts : List Timed) → filter (is_between low high) ts ≡ []
none_between low high le [] = refl
none_between low high le (at ∷ ts) =
    elim (cases_lt low at.moment) [
      | inl lt ↦ let late : high < at.moment = omega arith in rw (lt-ltb low at.moment lt, lt-leb at.moment high late) (none_between low high le ts)
      | inr ge ↦ rw (le-ltb low at.moment ge) (none_between low high le ts)
    ]

-- what is kept, by its moments
kept_timed : (to : Option ℕ) (from : ℕ) (chunks : List Chunk)
    → filter (is_kept from to) (timed 0 chunks)
    ≡ timed (play_length (front chunks from)) (middle chunks (due_count chunks from) (kept_end chunks from to))
kept_timed None from chunks =
    all_after chunks (front chunks from) (middle chunks (due_count chunks from) (length chunks)) (drop (length chunks) chunks)
    from (max from (play_length chunks)) (omega arith) (parted_all chunks from) (nothing_behind chunks)
kept_timed (Some to) from chunks =
    kept_to chunks from to (cases_lt from to)
  where
    kept_to : (cs : List Chunk) (low high : ℕ) → (low < high) ⊎ (high ≤ low)
        → filter (is_between low high) (timed 0 cs)
        ≡ timed (play_length (front cs low)) (middle cs (due_count cs low) (due_count cs (max low high)))
    kept_to cs low high (inl lt) =
        let same : max low high ≡ high = omega arith in
        between cs (front cs low) (middle cs (due_count cs low) (due_count cs high)) (drop (due_count cs high) cs) low high (omega arith) (parted cs low high (omega arith))
        ∙ ap (λ n. timed (play_length (front cs low)) (middle cs (due_count cs low) (due_count cs n))) (sym same)
    kept_to cs low high (inr le) =
        let same : max low high ≡ low = omega arith in
        let short = length-take (due_count cs low) cs in
        none_between low high le (timed 0 cs)
        ∙ ap (timed (play_length (front cs low))) (sym (drop_all (due_count cs low) (take (due_count cs low) cs) (omega arith)))
        ∙ ap (λ n. timed (play_length (front cs low)) (middle cs (due_count cs low) (due_count cs n))) (sym same)

module _ (from : ℕ) (to : Option ℕ) (text : List ℕ) (tape : Tape) where
  abbrev chunks : List Chunk
  chunks = tape.chunks

  abbrev first : ℕ
  first = due_count tape.chunks from

  abbrev end : ℕ
  end = kept_end tape.chunks from to

  abbrev xs : List Chunk
  xs = front chunks from

  abbrev ys : List Chunk
  ys = middle chunks first end

  abbrev zs : List Chunk
  zs = drop end chunks

  three : IsParted chunks xs ys zs from (until chunks from to)
  three = parted_kept chunks from to

  left_is : ys ++ zs ≡ drop first chunks
  left_is = append_cancel_left xs (ys ++ zs) (drop first chunks) (three.whole ∙ sym (take-append-drop first chunks))

  pub excerpt_made : edited_all tape (excerpt_edits from to text tape) ≡ with_chunks (kept_chunks xs ys (pieces text) from) tape
  unfolding excerpt_edits
  excerpt_made =
      let put = pieces text in
      let within = kept_within chunks from to in
      let delay = due_time chunks first - from in
      let behind = deleting end (length chunks) in
      let before = deleting 0 first in
      let in_text = inserting 0 0 put in
      let zero : length put ≡ 0 + length put = omega arith in
      let fronts : take end chunks ++ drop (length chunks) chunks ≡ take end chunks =
      ap (λ cs. take end chunks ++ cs) (nothing_behind chunks) ∙ append-nil (take end chunks) in
      ap (λ n. edited_all tape (behind ++ before ++ in_text ++ retiming ys n delay)) zero
      ∙ ap (edited_all tape) (append_assoc (behind ++ before) in_text (retiming ys (0 + length put) delay))
      ∙ edited-append tape (behind ++ before) (in_text ++ retiming ys (0 + length put) delay)
      ∙ ap (λ t. edited_all t (in_text ++ retiming ys (0 + length put) delay))
      (edited-append tape behind before
      ∙ ap (λ t. edited_all t before) (delete_makes tape end (length chunks) within.1 ∙ ap (λ cs. with_chunks cs tape) fronts)
      ∙ delete_makes (with_chunks (take end chunks) tape) 0 first (omega arith))
      ∙ replaced_by put (with_chunks ys tape) [] ys 0 0 delay refl refl
      ∙ ap (λ n. with_chunks (placed 0 put ++ headed (n - from) ys) tape) (due_time-head chunks first)
      ∙ ap (λ cs. with_chunks (placed 0 put ++ cs) tape) (headed_alike (play_length xs) from ys zs (drop first chunks) left_is)

  pub excerpt_keeps : HasBytes (pieces text ++ bytes_of ys) tape (with_chunks (kept_chunks xs ys (pieces text) from) tape)
  excerpt_keeps =
      let put = placed 0 (pieces text) in
      let rest = headed (play_length xs + head_delay ys - from) ys in
      record {
        header = refl;
        trailer = refl;
        chunks = map-append (λ (c : Chunk). c.bytes) put rest
            ∙ ap₂ (λ (a b : List (List ℕ)). a ++ b) (bytes-placed 0 (pieces text)) (bytes-headed (play_length xs + head_delay ys - from) ys);
      }

  pub excerpt_is : excerpt_of from to text tape ≡ with_chunks (kept_chunks xs ys (pieces text) from) tape
  unfolding excerpt_of
  excerpt_is =
      let put = pieces text in
      let start = play_length xs in
      let rest : List Timed = map (earlier from) (timed start ys) in
      let at_zero = before_zero put in
      let made : chunks_of 0 (text_at 0 text ++ map (earlier from) (filter (is_kept from to) (timed 0 chunks))) ≡ kept_chunks xs ys put from =
      ap (λ ts. chunks_of 0 (text_at 0 text ++ map (earlier from) ts)) (kept_timed to from chunks)
      ∙ chunks_of-pieces put 0 0 rest (omega arith)
      ∙ ap (λ n. placed 0 put ++ chunks_of n rest) at_zero
      ∙ ap (λ cs. placed 0 put ++ cs) (chunks_of-earlier from from 0 start ys (omega arith) (late_front (from - start) ys zs three.later)
      ∙ ap (λ n. headed n ys) (less_zero (start + head_delay ys - from))) in
      ap (λ cs. with_chunks cs tape) made
    where
      before_zero : (parts : List (List ℕ)) → before_next parts 0 0 ≡ 0
      before_zero [] = refl
      before_zero (part ∷ parts) = refl

      less_zero : (n : ℕ) → n - 0 ≡ n
      less_zero n = omega arith

  -- ---- moments

  new_due : (t : ℕ) → due (kept_chunks xs ys (pieces text) from) t ≡ text ++ due ys (from + t - play_length xs)
  new_due t =
      let p = three in
      kept_at xs ys zs (pieces text) from (until chunks from to) (until_rises chunks from to) p.early p.later p.by p.last t
      ∙ ap (λ bs. bs ++ due ys (from + t - play_length xs)) (pieces_joined text)

old_due : (to : Option ℕ) (from : ℕ) (chunks : List Chunk) (t : ℕ)
    → due chunks (moment_kept from to t)
    ≡ due chunks from ++ due (middle chunks (due_count chunks from) (kept_end chunks from to)) (from + t - play_length (front chunks from))
old_due None from chunks t =
    let p = parted_all chunks from in
    let xs = front chunks from in
    let ys = middle chunks (due_count chunks from) (length chunks) in
    ap (λ cs. due cs (from + t)) (sym p.whole)
    ∙ old_kept_all xs ys (drop (length chunks) chunks) from t (nothing_behind chunks) p.early
    ∙ ap (λ bs. bs ++ due ys (from + t - play_length xs)) (sym (due_first chunks from))
old_due (Some to) from chunks t =
    let until = max from to in
    let p = parted chunks from until (omega arith) in
    let xs = front chunks from in
    let ys = middle chunks (due_count chunks from) (due_count chunks until) in
    ap (λ cs. due cs (min (from + t) until)) (sym p.whole)
    ∙ old_kept xs ys (drop (due_count chunks until) chunks) [] from until (omega arith) p.early p.later p.by p.last t
    ∙ ap (λ bs. bs ++ due ys (from + t - play_length xs)) (sym (due_first chunks from))

-- ---- the laws

pub excerpt_made_law : ExcerptIsMade
excerpt_made_law from to text tape = excerpt_made from to text tape ∙ sym (excerpt_is from to text tape)

pub excerpt_keeps_law : ExcerptKeepsTheRest
excerpt_keeps_law from to text tape =
    subst (HasBytes _ tape) (sym (excerpt_made from to text tape)) (excerpt_keeps from to text tape)

pub excerpt_unseen : {T P K : Type 0} (p : Ghosts T P K) (made : P → List ℕ → List ℕ) → MakesAnyThis p made → SendsInParts p
    → ((profile : P) → p.sent profile [] ≡ [])
    → (profile : P) (from : ℕ) (to : Option ℕ) (tape : Tape)
    → ExcerptIsUnseen p profile from to tape (edited_all tape (excerpt_edits from to (made profile (due tape.chunks from)) tape))
excerpt_unseen p made makes parts nothing profile from to tape =
    let bytes = due tape.chunks from in
    let text = made profile bytes in
    let rest = λ (t : ℕ). due (middle tape.chunks (due_count tape.chunks from) (kept_end tape.chunks from to)) (from + t - play_length (front tape.chunks from)) in
    subst (ExcerptIsUnseen p profile from to tape) (sym (excerpt_made from to text tape)) record {
      seen = λ t. seen_along p profile _ _ _ _ (new_due from to text tape t) (old_due to from tape.chunks t) (makes.seen profile [] bytes (rest t));
      reports = λ t.
          ap (p.sent profile) (new_due from to text tape t)
          ∙ parts profile text (rest t)
          ∙ ap₂ (λ (a b : List ℕ). a ++ b)
          (parts profile [] text ∙ ap₂ (λ (a b : List ℕ). a ++ b) (nothing profile) (makes.silent profile [] bytes))
          (makes.answers profile [] bytes (rest t))
          ∙ sym (ap (λ bs. drop (length (p.sent profile bytes)) (p.sent profile bs)) (old_due to from tape.chunks t) ∙ sent_behind p parts profile bytes (rest t));
    }
