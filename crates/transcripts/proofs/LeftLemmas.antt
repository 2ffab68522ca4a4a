-- The rows that left by the first chunks, from one count to another.
use Rattle.std.proofs.Common.{◌≡◌, ℕ, zero, suc, ◌+◌, ◌-◌, ◌≤◌, List, [], ◌++◌, Option, length, drop, ap, ap₂, sym, subst, ◌∙◌, append_assoc, append-nil, arith}
use Rattle.std.proofs.Math.Seq.{drop-append_seam, drop-length}
use Rattle.tape_core.specs.Due.{bytes_at, first}
use Rattle.tape_core.specs.Tape.{Tape}
use Rattle.tape_core.proofs.FirstLemmas.{first-more}
use Rattle.transcripts.specs.Law.{ChunksMakeNoDifference, TellsTheRest}
use Rattle.transcripts.specs.Transcript.{Leaving, Standing, end_of, left_between, left_by, rows_told, start_of, text_of, transcript}

module _ {P : Type 0} (leaving : Leaving P) (profile : P)
    (parts : (before first second : List ℕ) → leaving profile before (first ++ second) ≡ leaving profile before first ++ leaving profile (before ++ first) second)
    (tape : Tape) where
  -- one chunk more
  left_more : (n : ℕ) (bytes : List ℕ) → first tape.chunks (n + 1) ≡ first tape.chunks n ++ bytes
      → left_by leaving profile tape (n + 1) ≡ left_by leaving profile tape n ++ leaving profile (first tape.chunks n) bytes
  left_more n bytes is = ap (leaving profile []) is ∙ parts [] (first tape.chunks n) bytes

  pub record LeftFront (start end : ℕ) : Type 0 where
    pub rest : List (List ℕ)
    pub is : left_by leaving profile tape end ≡ left_by leaving profile tape start ++ rest

  -- what left by a count left by each later one
  left_after : (start k : ℕ) → LeftFront start (start + k)
  left_after start zero = record {
    rest = [];
    is = ap (left_by leaving profile tape) (omega arith) ∙ sym (append-nil (left_by leaving profile tape start));
  }
  left_after start (suc k) =
      let before = left_after start k in
      let at : start + suc k ≡ start + k + 1 = omega arith in
      let more = leaving profile (first tape.chunks (start + k)) (bytes_at tape.chunks (start + k)) in
      record {
        rest = before.rest ++ more;
        is = ap (left_by leaving profile tape) at ∙ left_more (start + k) (bytes_at tape.chunks (start + k)) (first-more tape.chunks (start + k))
            ∙ ap (λ l. l ++ more) before.is ∙ append_assoc (left_by leaving profile tape start) before.rest more;
      }

  pub left_front : (start end : ℕ) → start ≤ end → LeftFront start end
  left_front start end le =
      let at : start + (end - start) ≡ end = omega arith in
      subst (LeftFront start) at (left_after start (end - start))

  between_is : (start end : ℕ) (rest : List (List ℕ)) → left_by leaving profile tape end ≡ left_by leaving profile tape start ++ rest
      → left_between leaving profile tape start end ≡ rest
  unfolding left_between
  between_is start end rest is =
      ap (drop (length (left_by leaving profile tape start))) is ∙ drop-append_seam (left_by leaving profile tape start) rest

  -- nothing leaves between a count and itself
  pub between_none : (start : ℕ) → left_between leaving profile tape start start ≡ []
  unfolding left_between
  between_none start = drop-length (left_by leaving profile tape start)

  -- one chunk more
  pub between_more : (start n : ℕ) (bytes : List ℕ) → start ≤ n → first tape.chunks (n + 1) ≡ first tape.chunks n ++ bytes
      → left_between leaving profile tape start (n + 1) ≡ left_between leaving profile tape start n ++ leaving profile (first tape.chunks n) bytes
  between_more start n bytes le is =
      let front = left_front start n le in
      let more = leaving profile (first tape.chunks n) bytes in
      between_is start (n + 1) (front.rest ++ more)
      (left_more n bytes is ∙ ap (λ l. l ++ more) front.is ∙ append_assoc (left_by leaving profile tape start) front.rest more)
      ∙ ap (λ l. l ++ more) (sym (between_is start n front.rest front.is))

  -- up to a later count there is more
  pub record BetweenFront (start mid end : ℕ) : Type 0 where
    pub rest : List (List ℕ)
    pub is : left_between leaving profile tape start end ≡ left_between leaving profile tape start mid ++ rest

  pub between_front : (start mid end : ℕ) → start ≤ mid → mid ≤ end → BetweenFront start mid end
  between_front start mid end low high =
      let one = left_front start mid low in
      let other = left_front mid end high in
      record {
        rest = other.rest;
        is = between_is start end (one.rest ++ other.rest)
            (other.is ∙ ap (λ l. l ++ other.rest) one.is ∙ append_assoc (left_by leaving profile tape start) one.rest other.rest)
            ∙ ap (λ l. l ++ other.rest) (sym (between_is start mid one.rest one.is));
      }

  pub tells_the_rest : (standing : Standing P) (start end : ℕ) → start ≤ end → TellsTheRest leaving standing profile tape start end
  tells_the_rest standing start end le =
      let front = left_front start end le in
      record {
        rest = front.rest;
        behind = front.is;
        told = ap (λ l. l ++ standing profile (first tape.chunks end)) (between_is start end front.rest front.is);
      }

pub chunks_make_no_difference : {P : Type 0} (leaving : Leaving P) (standing : Standing P) → ChunksMakeNoDifference leaving standing
unfolding transcript left_between
chunks_make_no_difference leaving standing profile one other from to other_from other_to same_end same_start =
    let f : List ℕ → List ℕ → List ℕ = λ s e. text_of (drop (length (leaving profile [] s)) (leaving profile [] e) ++ standing profile e) in
    ap₂ f same_start same_end

-- the transcript by the counts
pub transcript_is : {P : Type 0} (leaving : Leaving P) (standing : Standing P) (profile : P) (tape : Tape) (from to : Option ℕ) (start end : ℕ)
    → end ≡ end_of tape to → start ≡ start_of tape from end
    → text_of (rows_told leaving standing profile tape start end) ≡ transcript leaving standing profile tape from to
unfolding transcript
transcript_is leaving standing profile tape from to start end end_is start_is =
    ap (λ n. text_of (rows_told leaving standing profile tape n end)) start_is
    ∙ ap (λ n. text_of (rows_told leaving standing profile tape (start_of tape from n) n)) end_is
