-- Chunks by their moments: those that are due by a moment, and those that come later.
use Rattle.std.proofs.Common.{◌≡◌, ℕ, ◌+◌, ◌-◌, ◌<◌, ◌≤◌, Bool, true, false, cond, List, [], ◌∷◌, ◌++◌, map, filter, refl, ap, ap₂, sym, ◌∙◌, arith, append-nil}
use Rattle.std.proofs.lemmas.Bool.{le-leb, le-ltb, lt-leb, lt-ltb}
use Rattle.std.proofs.lemmas.List.Elements.{filter-append}
use Rattle.std.proofs.lemmas.List.Sums.{sum_by-cons}
use Rattle.tape_core.specs.declared.chunk.Chunk.{Chunk}
use Rattle.tape_core.specs.Due.{play_length}
use Rattle.tape_cut.specs.Cuts.{Timed, before_next, chunks_of, earlier, is_after, is_between, is_by, timed}
use Rattle.tape_cut.proofs.DueParts.{IsLate}
use Rattle.tape_cut.proofs.Shapes.{head_delay, headed, late_front, placed}
use Rattle.tape_cut.proofs.PartLemmas.{IsParted}

pub timed-append : (start : ℕ) (xs ys : List Chunk) → timed start (xs ++ ys) ≡ timed start xs ++ timed (start + play_length xs) ys
timed-append start [] ys = let same : start ≡ start + 0 = omega arith in ap (λ s. timed s ys) same
timed-append start (x ∷ xs) ys =
    let len = sum_by-cons (λ c. c.delay) x xs in
    let same : start + x.delay + play_length xs ≡ start + play_length (x ∷ xs) = omega arith in
    ap (λ rest. record { moment = start + x.delay; bytes = x.bytes } ∷ rest)
    (timed-append (start + x.delay) xs ys ∙ ap (λ s. timed (start + x.delay) xs ++ timed s ys) same)

-- the first of them, if there is one, comes at this moment or later
abbrev pub ComesFrom : ℕ → ℕ → List Chunk → Type 0
ComesFrom low start [] = Unit {0}
ComesFrom low start (c ∷ cs) = low ≤ start + c.delay

comes_on : (low start : ℕ) (xs : List Chunk) → low ≤ start → ComesFrom low start xs
comes_on low start [] le = tt
comes_on low start (x ∷ xs) le = omega arith

pub comes_later : (start moment : ℕ) (xs : List Chunk) → start ≤ moment → IsLate (moment - start) xs → ComesFrom (moment + 1) start xs
comes_later start moment [] le late = tt
comes_later start moment (x ∷ xs) le late = omega arith

-- a test that comes out alike at all their moments keeps all or none
pub filter_timed : (p : Timed → Bool) (b : Bool) (low start : ℕ) (xs : List Chunk) → ComesFrom low start xs
    → ((at : Timed) → low ≤ at.moment → at.moment ≤ start + play_length xs → p at ≡ b)
    → filter p (timed start xs) ≡ cond b (timed start xs) []
filter_timed p true low start [] from alike = refl
filter_timed p false low start [] from alike = refl
filter_timed p true low start (x ∷ xs) from alike =
    let len = sum_by-cons (λ c. c.delay) x xs in
    let here = alike (record { moment = start + x.delay; bytes = x.bytes }) from (omega arith) in
    rw here (ap (λ rest. record { moment = start + x.delay; bytes = x.bytes } ∷ rest)
    (filter_timed p true low (start + x.delay) xs (comes_on low (start + x.delay) xs from) (λ at high within. alike at high (omega arith))))
filter_timed p false low start (x ∷ xs) from alike =
    let len = sum_by-cons (λ c. c.delay) x xs in
    let here = alike (record { moment = start + x.delay; bytes = x.bytes }) from (omega arith) in
    rw here (filter_timed p false low (start + x.delay) xs (comes_on low (start + x.delay) xs from) (λ at high within. alike at high (omega arith)))

-- ---- and back

pub chunks_of-timed : (start : ℕ) (xs : List Chunk) (rest : List Timed)
    → chunks_of start (timed start xs ++ rest) ≡ xs ++ chunks_of (start + play_length xs) rest
chunks_of-timed start [] rest = let same : start ≡ start + 0 = omega arith in ap (λ s. chunks_of s rest) same
chunks_of-timed start (x ∷ xs) rest =
    let len = sum_by-cons (λ c. c.delay) x xs in
    let delay : start + x.delay - start ≡ x.delay = omega arith in
    let same : start + x.delay + play_length xs ≡ start + play_length (x ∷ xs) = omega arith in
    ap (λ d. record { delay = d; bytes = x.bytes } ∷ chunks_of (start + x.delay) (timed (start + x.delay) xs ++ rest)) delay
    ∙ ap (λ cs. x ∷ cs) (chunks_of-timed (start + x.delay) xs rest ∙ ap (λ s. xs ++ chunks_of s rest) same)

pub chunks_of-pieces : (parts : List (List ℕ)) (start moment : ℕ) (rest : List Timed) → start ≤ moment
    → chunks_of start (map (λ part. record { moment = moment; bytes = part }) parts ++ rest)
    ≡ placed (moment - start) parts ++ chunks_of (before_next parts start moment) rest
chunks_of-pieces [] start moment rest le = refl
chunks_of-pieces (part ∷ parts) start moment rest le =
    ap (λ cs. record { delay = moment - start; bytes = part } ∷ cs)
    (pieces_at_once parts moment rest)
  where
    pieces_at_once : (ps : List (List ℕ)) (at : ℕ) (more : List Timed)
        → chunks_of at (map (λ part. record { moment = at; bytes = part }) ps ++ more) ≡ placed 0 ps ++ chunks_of at more
    pieces_at_once [] at more = refl
    pieces_at_once (p ∷ ps) at more =
        let none : at - at ≡ 0 = omega arith in
        ap (λ d. record { delay = d; bytes = p } ∷ chunks_of at (map (λ part. record { moment = at; bytes = part }) ps ++ more)) none
        ∙ ap (λ cs. record { delay = 0; bytes = p } ∷ cs) (pieces_at_once ps at more)

earlier_alike : (by start : ℕ) (xs : List Chunk) → by ≤ start → chunks_of (start - by) (map (earlier by) (timed start xs)) ≡ xs
earlier_alike by start [] le = refl
earlier_alike by start (x ∷ xs) le =
    let delay : start + x.delay - by - (start - by) ≡ x.delay = omega arith in
    ap (λ d. record { delay = d; bytes = x.bytes } ∷ chunks_of (start + x.delay - by) (map (earlier by) (timed (start + x.delay) xs))) delay
    ∙ ap (λ cs. x ∷ cs) (earlier_alike by (start + x.delay) xs (omega arith))

-- chunks that come earlier keep their delays, but the first of them
pub chunks_of-earlier : (by to before start : ℕ) (xs : List Chunk) → by ≤ to → IsLate (to - start) xs
    → chunks_of before (map (earlier by) (timed start xs)) ≡ headed (start + head_delay xs - by - before) xs
chunks_of-earlier by to before start [] le late = refl
chunks_of-earlier by to before start (x ∷ xs) le late =
    ap (λ cs. record { delay = start + x.delay - by - before; bytes = x.bytes } ∷ cs) (earlier_alike by (start + x.delay) xs (omega arith))

-- ---- chunks in three parts

module _ (chunks xs ys zs : List Chunk) (from to : ℕ) (rising : from ≤ to) (p : IsParted chunks xs ys zs from to) where
  abbrev start : ℕ
  start = play_length xs

  abbrev end : ℕ
  end = play_length xs + play_length ys

  in_parts : (q : Timed → Bool) → filter q (timed 0 chunks) ≡ filter q (timed 0 xs) ++ (filter q (timed start ys) ++ filter q (timed end zs))
  in_parts q =
      let zero : 0 + start ≡ start = omega arith in
      ap (λ cs. filter q (timed 0 cs)) (sym p.whole)
      ∙ ap (filter q) (timed-append 0 xs (ys ++ zs) ∙ ap (λ s. timed 0 xs ++ timed s (ys ++ zs)) zero ∙ ap (λ ts. timed 0 xs ++ ts) (timed-append start ys zs))
      ∙ filter-append q (timed 0 xs) (timed start ys ++ timed end zs)
      ∙ ap (λ ts. filter q (timed 0 xs) ++ ts) (filter-append q (timed start ys) (timed end zs))

  in_two : (q : Timed → Bool) → filter q (timed 0 chunks) ≡ filter q (timed 0 xs) ++ filter q (timed start (ys ++ zs))
  in_two q =
      let zero : 0 + start ≡ start = omega arith in
      ap (λ cs. filter q (timed 0 cs)) (sym p.whole)
      ∙ ap (filter q) (timed-append 0 xs (ys ++ zs) ∙ ap (λ s. timed 0 xs ++ timed s (ys ++ zs)) zero)
      ∙ filter-append q (timed 0 xs) (timed start (ys ++ zs))

  early_comes : ComesFrom 0 0 xs
  early_comes = comes_on 0 0 xs (omega arith)

  middle_comes : ComesFrom (from + 1) start ys
  middle_comes = comes_later start from ys p.early (late_front (from - start) ys zs p.later)

  rest_comes : ComesFrom (from + 1) start (ys ++ zs)
  rest_comes = comes_later start from (ys ++ zs) p.early p.later

  last_comes : ComesFrom (to + 1) end zs
  last_comes = comes_later end to zs p.by p.last

  pub by_from : filter (is_by from) (timed 0 chunks) ≡ timed 0 xs
  by_from =
      let early = p.early in
      in_two (is_by from)
      ∙ ap₂ (λ (a b : List Timed). a ++ b)
      (filter_timed (is_by from) true 0 0 xs early_comes (λ at low high. le-leb at.moment from (omega arith)))
      (filter_timed (is_by from) false (from + 1) start (ys ++ zs) rest_comes (λ at low high. lt-leb at.moment from (omega arith)))
      ∙ append-nil (timed 0 xs)

  pub after_to : filter (is_after to) (timed 0 chunks) ≡ timed end zs
  after_to =
      let early = p.early in
      let by = p.by in
      in_parts (is_after to)
      ∙ ap₂ (λ (a b : List Timed). a ++ b)
      (filter_timed (is_after to) false 0 0 xs early_comes (λ at low high. le-ltb to at.moment (omega arith)))
      (ap₂ (λ (a b : List Timed). a ++ b)
      (filter_timed (is_after to) false (from + 1) start ys middle_comes (λ at low high. le-ltb to at.moment (omega arith)))
      (filter_timed (is_after to) true (to + 1) end zs last_comes (λ at low high. lt-ltb to at.moment (omega arith))))

  after_from : (at : Timed) → from < at.moment → is_after from at ≡ true
  after_from at lt = lt-ltb from at.moment lt

  pub between : filter (is_between from to) (timed 0 chunks) ≡ timed start ys
  between =
      let early = p.early in
      let by = p.by in
      in_parts (is_between from to)
      ∙ ap₂ (λ (a b : List Timed). a ++ b)
      (filter_timed (is_between from to) false 0 0 xs early_comes (λ at low high. rw (le-ltb from at.moment (omega arith)) refl))
      (ap₂ (λ (a b : List Timed). a ++ b)
      (filter_timed (is_between from to) true (from + 1) start ys middle_comes (λ at low high. rw (lt-ltb from at.moment (omega arith)) (le-leb at.moment to (omega arith))))
      (filter_timed (is_between from to) false (to + 1) end zs last_comes (λ at low high. rw (lt-ltb from at.moment (omega arith)) (lt-leb at.moment to (omega arith)))))
      ∙ append-nil (timed start ys)

  -- where nothing is left behind them
  pub all_after : zs ≡ [] → filter (is_after from) (timed 0 chunks) ≡ timed start ys
  all_after none =
      let early = p.early in
      in_two (is_after from)
      ∙ ap₂ (λ (a b : List Timed). a ++ b)
      (filter_timed (is_after from) false 0 0 xs early_comes (λ at low high. le-ltb from at.moment (omega arith)))
      (filter_timed (is_after from) true (from + 1) start (ys ++ zs) rest_comes (λ at low high. lt-ltb from at.moment (omega arith)))
      ∙ ap (timed start) (ap (λ cs. ys ++ cs) none ∙ append-nil ys)
