-- Chunks in whose place others stand: pieces of a text, all due at one moment, before a chunk with another delay.
use Rattle.std.proofs.Common.{◌≡◌, ℕ, ◌+◌, ◌-◌, ◌<◌, ◌≤◌, min, List, [], ◌∷◌, ◌++◌, refl, ap, sym, ◌∙◌, arith, append-nil, inl, inr}
use Rattle.std.proofs.lemmas.Bool.{cases_lt}
use Rattle.std.proofs.lemmas.List.Sums.{sum_by-cons}
use Rattle.tape_core.specs.declared.chunk.Chunk.{Chunk}
use Rattle.tape_core.specs.Tape.{body}
use Rattle.tape_core.specs.Due.{due, play_length}
use Rattle.tape_cut.specs.Cuts.{before_next}
use Rattle.tape_cut.proofs.DueParts.{IsLate, due_before, due_behind, due_more, late_before, nothing_due}
use Rattle.tape_cut.proofs.PieceLemmas.{joined}

-- the pieces as chunks: the first with this delay
abbrev pub placed : ℕ → List (List ℕ) → List Chunk
placed delay [] = []
placed delay (piece ∷ more) = record { delay = delay; bytes = piece } ∷ placed 0 more

-- the chunks, the first with another delay
abbrev pub headed : ℕ → List Chunk → List Chunk
headed delay [] = []
headed delay (c ∷ cs) = record { delay = delay; bytes = c.bytes } ∷ cs

-- the delay of the first
abbrev pub head_delay : List Chunk → ℕ
head_delay [] = 0
head_delay (c ∷ cs) = c.delay

pub body_placed : (delay : ℕ) (parts : List (List ℕ)) → body (placed delay parts) ≡ joined parts
body_placed delay [] = refl
body_placed delay (part ∷ parts) = ap (λ bytes. part ++ bytes) (body_placed 0 parts)

at_once : (parts : List (List ℕ)) → play_length (placed 0 parts) ≡ 0
at_once [] = refl
at_once (part ∷ parts) =
    omega (arith, sum_by-cons (λ (c : Chunk). c.delay) (record { delay = 0; bytes = part }) (placed 0 parts), at_once parts)

pub placed_end : (parts : List (List ℕ)) (start moment : ℕ) → start ≤ moment
    → start + play_length (placed (moment - start) parts) ≡ before_next parts start moment
placed_end [] start moment le = omega arith
placed_end (part ∷ parts) start moment le =
    omega (arith, sum_by-cons (λ (c : Chunk). c.delay) (record { delay = moment - start; bytes = part }) (placed 0 parts), at_once parts)

pub end_within : (parts : List (List ℕ)) (start moment : ℕ) → start ≤ moment
    → (start ≤ before_next parts start moment) × (before_next parts start moment ≤ moment)
end_within [] start moment le = (omega arith, le)
end_within (part ∷ parts) start moment le = (le, omega arith)

-- with another delay the same is due so much later
pub due_shifted : (zs : List Chunk) (delay s t : ℕ) → delay + t ≡ head_delay zs + s → due (headed delay zs) s ≡ due zs t
due_shifted [] delay s t same = nothing_due s [] tt ∙ sym (nothing_due t [] tt)
due_shifted (z ∷ zs) delay s t same =
    let moved : Chunk = record { delay = delay; bytes = z.bytes } in
    elim (cases_lt s delay) [
      | inl late ↦
          let too : t < z.delay = omega arith in
          nothing_due s (moved ∷ zs) late ∙ sym (nothing_due t (z ∷ zs) too)
      | inr le ↦
          let too : z.delay ≤ t = omega arith in
          let left : s - delay ≡ t - z.delay = omega arith in
          due_more moved zs s le ∙ ap (λ u. z.bytes ++ due zs u) left ∙ sym (due_more z zs t too)
    ]

late_head : (u : ℕ) (zs : List Chunk) (delay s : ℕ) → IsLate u zs → (u < head_delay zs → s < delay) → IsLate s (headed delay zs)
late_head u [] delay s late then = tt
late_head u (z ∷ zs) delay s late then = then late

-- the delay of the first chunk behind a cut, and all chunks then
abbrev pub next_delay : List Chunk → List Chunk → List Chunk → List (List ℕ) → ℕ → ℕ → ℕ
next_delay xs ys zs parts from to =
    (play_length xs + play_length ys) + head_delay zs - (to - from) - before_next parts (play_length xs) from

abbrev pub cut_chunks : List Chunk → List Chunk → List Chunk → List (List ℕ) → ℕ → ℕ → List Chunk
cut_chunks xs ys zs parts from to =
    xs ++ (placed (from - play_length xs) parts ++ headed (next_delay xs ys zs parts from to) zs)

-- and those of an excerpt
abbrev pub kept_chunks : List Chunk → List Chunk → List (List ℕ) → ℕ → List Chunk
kept_chunks xs ys parts from = placed 0 parts ++ headed (play_length xs + head_delay ys - from) ys

-- Chunks xs are due by `from`, chunks ys after it and by `to`, chunks zs after that. In the place of ys come pieces, due
-- at `from`, and zs so much earlier.
module _ (xs ys zs : List Chunk) (parts : List (List ℕ)) (from to : ℕ) (rising : from < to)
    (early : play_length xs ≤ from) (later : IsLate (from - play_length xs) (ys ++ zs))
    (by : play_length xs + play_length ys ≤ to) (last : IsLate (to - (play_length xs + play_length ys)) zs) where
  abbrev start : ℕ
  start = play_length xs

  abbrev next : ℕ
  next = next_delay xs ys zs parts from to

  late_parts : (ps : List (List ℕ)) (t : ℕ) → ps ≡ parts → t < from → start ≤ t → IsLate (t - start) (placed (from - start) ps ++ headed next zs)
  late_parts [] t is lt le =
      late_head (to - (start + play_length ys)) zs next (t - start) last (λ below.
      let at = ap (λ p. before_next p start from) is in omega (arith, at))
  late_parts (p ∷ ps) t is lt le = omega arith

  -- before `from` the same is due
  pub cut_before : (t : ℕ) → t < from → due (cut_chunks xs ys zs parts from to) t ≡ due (xs ++ (ys ++ zs)) t
  cut_before t lt =
      let rest = placed (from - start) parts ++ headed next zs in
      elim (cases_lt t start) [
        | inl soon ↦ due_before xs rest t soon ∙ sym (due_before xs (ys ++ zs) t soon)
        | inr le ↦
            due_behind xs rest t le
            ∙ ap (λ bytes. body xs ++ bytes) (nothing_due (t - start) rest (late_parts parts t refl lt le)
            ∙ sym (nothing_due (t - start) (ys ++ zs) (late_before (t - start) (from - start) (ys ++ zs) (omega arith) later)))
            ∙ sym (due_behind xs (ys ++ zs) t le)
      ]

  -- what is due of zs by a moment of the new recording
  abbrev pub rest_at : ℕ → List ℕ
  rest_at t = due zs (t + (to - from) - (start + play_length ys))

  rest_moved : (ws : List Chunk) (t : ℕ) → ws ≡ zs → IsLate (to - (start + play_length ys)) ws → from ≤ t
      → due (headed ((start + play_length ys) + head_delay ws - (to - from) - before_next parts start from) ws) (t - before_next parts start from)
      ≡ due ws (t + (to - from) - (start + play_length ys))
  rest_moved [] t is late le = nothing_due (t - before_next parts start from) [] tt ∙ sym (nothing_due (t + (to - from) - (start + play_length ys)) [] tt)
  rest_moved (w ∷ ws) t is late le =
      let within = end_within parts start from early in
      due_shifted (w ∷ ws) _ _ _ (omega (arith, within.0, within.1))

  -- from `from` on: what was due by it, the pieces, and what is due so much later behind what went
  pub cut_after : (t : ℕ) → from ≤ t → due (cut_chunks xs ys zs parts from to) t ≡ body xs ++ (joined parts ++ rest_at t)
  cut_after t le =
      let rest = headed next zs in
      let pieces = placed (from - start) parts in
      let end = placed_end parts start from early in
      let within = end_within parts start from early in
      let left : t - start - play_length pieces ≡ t - before_next parts start from = omega (arith, end) in
      due_behind xs (pieces ++ rest) t (omega arith)
      ∙ ap (λ bytes. body xs ++ bytes) (due_behind pieces rest (t - start) (omega (arith, end, within.1))
      ∙ ap (λ bytes. bytes ++ due rest (t - start - play_length pieces)) (body_placed (from - start) parts)
      ∙ ap (λ bytes. joined parts ++ bytes) (ap (due rest) left ∙ rest_moved zs t refl last le))

  -- and of the old recording so much later
  pub old_after : (t : ℕ) → from ≤ t → due (xs ++ (ys ++ zs)) (t + (to - from)) ≡ body xs ++ (body ys ++ rest_at t)
  old_after t le =
      let late = t + (to - from) in
      let left : late - start - play_length ys ≡ late - (start + play_length ys) = omega arith in
      due_behind xs (ys ++ zs) late (omega arith)
      ∙ ap (λ bytes. body xs ++ bytes) (due_behind ys zs (late - start) (omega arith) ∙ ap (λ s. body ys ++ due zs s) left)

pub due_all : (xs : List Chunk) (t : ℕ) → play_length xs ≤ t → due xs t ≡ body xs
due_all xs t le =
    ap (λ cs. due cs t) (sym (append-nil xs)) ∙ due_behind xs [] t le
    ∙ ap (λ bytes. body xs ++ bytes) (nothing_due (t - play_length xs) [] tt) ∙ append-nil (body xs)

-- as long as nothing of what follows is due, it makes no difference
due_alone : (xs ys : List Chunk) (t : ℕ) → IsLate (t - play_length xs) ys → due (xs ++ ys) t ≡ due xs t
due_alone xs ys t late =
    elim (cases_lt t (play_length xs)) [
      | inl lt ↦ due_before xs ys t lt
      | inr le ↦
          due_behind xs ys t le ∙ ap (λ bytes. body xs ++ bytes) (nothing_due (t - play_length xs) ys late)
          ∙ append-nil (body xs) ∙ sym (due_all xs t le)
    ]

-- Chunks xs are due by `from`, chunks ys after it and by `until`, chunks zs after that. Pieces, which are due at once, come
-- before ys, which come so much earlier.
module _ (xs ys zs : List Chunk) (parts : List (List ℕ)) (from until : ℕ) (rising : from ≤ until)
    (early : play_length xs ≤ from) (later : IsLate (from - play_length xs) (ys ++ zs))
    (by : play_length xs + play_length ys ≤ until) (last : IsLate (until - (play_length xs + play_length ys)) zs) where
  kept_moved : (ws : List Chunk) (t : ℕ) → IsLate (from - play_length xs) (ws ++ zs)
      → due (headed (play_length xs + head_delay ws - from) ws) t ≡ due ws (from + t - play_length xs)
  kept_moved [] t late = nothing_due t [] tt ∙ sym (nothing_due (from + t - play_length xs) [] tt)
  kept_moved (w ∷ ws) t late = due_shifted (w ∷ ws) _ _ _ (omega arith)

  -- the pieces, and what is due so much later
  pub kept_at : (t : ℕ) → due (kept_chunks xs ys parts from) t ≡ joined parts ++ due ys (from + t - play_length xs)
  kept_at t =
      let pieces = placed 0 parts in
      let rest = headed (play_length xs + head_delay ys - from) ys in
      let none = at_once parts in
      let same : t - play_length pieces ≡ t = omega arith in
      due_behind pieces rest t (omega arith)
      ∙ ap (λ bytes. bytes ++ due rest (t - play_length pieces)) (body_placed 0 parts)
      ∙ ap (λ bytes. joined parts ++ bytes) (ap (due rest) same ∙ kept_moved ys t later)

  until_then : (s : ℕ) → s ≤ until → due (ys ++ zs) (s - play_length xs) ≡ due ys (s - play_length xs)
  until_then s le =
      due_alone ys zs (s - play_length xs)
      (late_before (s - play_length xs - play_length ys) (until - (play_length xs + play_length ys)) zs (omega arith) last)

  no_more : (t : ℕ) → due ys (min (from + t) until - play_length xs) ≡ due ys (from + t - play_length xs)
  no_more t =
      elim (cases_lt until (from + t)) [
        | inl lt ↦
            due_all ys (min (from + t) until - play_length xs) (omega arith)
            ∙ sym (due_all ys (from + t - play_length xs) (omega arith))
        | inr le ↦ let same : min (from + t) until ≡ from + t = omega arith in ap (λ s. due ys (s - play_length xs)) same
      ]

  -- and of the old recording so much later, but not past `until`
  pub old_kept : (t : ℕ) → due (xs ++ (ys ++ zs)) (min (from + t) until) ≡ body xs ++ due ys (from + t - play_length xs)
  old_kept t =
      let s = min (from + t) until in
      due_behind xs (ys ++ zs) s (omega arith)
      ∙ ap (λ bytes. body xs ++ bytes) (until_then s (omega arith) ∙ no_more t)

-- the same where nothing follows
pub old_kept_all : (xs ys zs : List Chunk) (from t : ℕ) → zs ≡ [] → play_length xs ≤ from
    → due (xs ++ (ys ++ zs)) (from + t) ≡ body xs ++ due ys (from + t - play_length xs)
old_kept_all xs ys zs from t none early =
    ap (λ cs. due (xs ++ cs) (from + t)) (ap (λ cs. ys ++ cs) none ∙ append-nil ys) ∙ due_behind xs ys (from + t) (omega arith)

pub late_front : (s : ℕ) (ys zs : List Chunk) → IsLate s (ys ++ zs) → IsLate s ys
late_front s [] zs late = tt
late_front s (y ∷ ys) zs late = late
