-- Occurrences, and what is written over them.
use Rattle.std.proofs.Common.{◌≡◌, ℕ, zero, suc, ◌+◌, ◌-◌, ◌<◌, ◌≤◌, Bool, true, false, ◌==◌, List, [], ◌∷◌, ◌++◌, length, get_or, set, map, drop, take, nat_eq, nat_lt, add-zero, refl, ap, sym, ◌∙◌, arith, inl, inr, zero-add, cond, append_assoc, length-append, length-drop}
use Rattle.std.specs.List.{All, count_by, list_any, range_with_len, starts_with}
use Rattle.std.proofs.lemmas.Bool.{both_ways, cases_Bool, cases_order, cond-false, cond-true, eqb-false, false_from_ne_true, le-ltb, lt-ltb, or_cases, or_left, or_right}
use Rattle.std.proofs.lemmas.Bool.Decides.{Decides-eqb}
use Rattle.std.proofs.lemmas.List.{drop_at, get_or_append_left, get_or_default, length-take, get_or-drop, get_or-map, get_or-take, length-map, length-take-le, same_lists, drop-set-lt, drop-drop, map-id, take_more, take_more_set}
use Rattle.std.proofs.lemmas.List.FromFn.{get_or-range_with_len, length-range_with_len, map-range_with_len_more}
use Rattle.std.proofs.lemmas.List.Sums.{count_by-le-length, sum_by_push}
use Rattle.std.proofs.lemmas.Slice.Eq.{slice_eq-Decides}
use Rattle.tape_redact.specs.Law.{HidesAll, LinesStay, NoneIsLeft}
use Rattle.tape_redact.specs.Redacted.{begins_at, byte_at, is_covered, redacted}

-- ---- some number in a row of them

any_to : (p : ℕ → Bool) (a n : ℕ) → list_any p (range_with_len a n) ≡ true → (i : ℕ) × (a ≤ i) × (i < a + n) × (p i ≡ true)
any_to p a zero h = cc
any_to p a (suc n) h = elim (or_cases (p a) (list_any p (range_with_len (a + 1) n)) h) [
  | inl here ↦ (a, omega arith, omega arith, here)
  | inr there ↦
      let it = any_to p (a + 1) n there in
      (it.0, omega (arith, it.1), omega (arith, it.2), it.3)
]

any_from : (p : ℕ → Bool) (a n i : ℕ) → a ≤ i → i < a + n → p i ≡ true → list_any p (range_with_len a n) ≡ true
any_from p a zero i low high h = absurd (omega arith)
any_from p a (suc n) zero low high h = or_left (p a) (list_any p (range_with_len (a + 1) n)) (ap p (omega arith) ∙ h)
any_from p a (suc n) (suc i) low high h =
    elim (cases_order a (suc i)) [
      | inl e ↦ or_left (p a) (list_any p (range_with_len (a + 1) n)) (ap p e ∙ h)
      | inr rest ↦ elim rest [
        | inl lt ↦ or_right (p a) (list_any p (range_with_len (a + 1) n)) (any_from p (a + 1) n (suc i) (omega arith) (omega arith) h)
        | inr gt ↦ absurd (omega arith)
      ]
    ]

-- ---- occurrences

pub record Occurs (text bytes : List ℕ) (b : ℕ) : Type 0 where
  pub fits : length text ≤ length bytes - b
  pub reads : (k : ℕ) → k < length text → get_or bytes (b + k) 0 ≡ get_or text k 0

pub occurs_from : (text bytes : List ℕ) (b : ℕ) → begins_at text bytes b ≡ true → Occurs text bytes b
occurs_from text bytes b is =
    let there = take (length text) (drop b bytes) in
    let same : text ≡ there = (slice_eq-Decides Decides-eqb text there (begins_at text bytes b) refl).0 is in
    record {
      fits = grind (arith, ap (λ (l : List ℕ). length l) same, length-take (length text) (drop b bytes), length-drop b bytes);
      reads = λ k lt. sym (get_or-drop b bytes k 0) ∙ sym (get_or-take (length text) (drop b bytes) k 0 lt) ∙ sym (ap (λ (l : List ℕ). get_or l k 0) same);
    }

pub occurs_to : (text bytes : List ℕ) (b : ℕ) → length text ≤ length bytes - b → ((k : ℕ) → k < length text → get_or bytes (b + k) 0 ≡ get_or text k 0)
    → begins_at text bytes b ≡ true
occurs_to text bytes b fits reads =
    let there = take (length text) (drop b bytes) in
    let whole : length text ≤ length (drop b bytes) = omega (arith, length-drop b bytes) in
    let len : length there ≡ length text = length-take-le (length text) (drop b bytes) whole in
    let same : text ≡ there = same_lists text there (sym len)
    (λ k d lt. get_or_default text k d 0 lt ∙ sym (reads k lt) ∙ sym (get_or-drop b bytes k 0) ∙ sym (get_or-take (length text) (drop b bytes) k 0 lt) ∙ get_or_default there k 0 d (omega (arith, len))) in
    (slice_eq-Decides Decides-eqb text there (begins_at text bytes b) refl).1 same

-- ---- places in occurrences

pub covered_from : (text bytes : List ℕ) (at b : ℕ) → b ≤ at → at < b + length text → begins_at text bytes b ≡ true → is_covered text bytes at ≡ true
unfolding is_covered
covered_from text bytes at b low high is =
    any_from (begins_at text bytes) (at + 1 - length text) (at + 1 - (at + 1 - length text)) b (omega arith) (omega arith) is

pub covered_to : (text bytes : List ℕ) (at : ℕ) → is_covered text bytes at ≡ true → (b : ℕ) × (b ≤ at) × (at < b + length text) × (begins_at text bytes b ≡ true)
unfolding is_covered
covered_to text bytes at is =
    let it = any_to (begins_at text bytes) (at + 1 - length text) (at + 1 - (at + 1 - length text)) is in
    (it.0, omega (arith, it.1, it.2), omega (arith, it.1, it.2), it.3)

-- ---- what is written

pub length-redacted : (text bytes : List ℕ) → length (redacted text bytes) ≡ length bytes
unfolding redacted
length-redacted text bytes = length-map (range_with_len 0 (length bytes)) (byte_at text bytes) ∙ length-range_with_len 0 (length bytes)

pub redacted_at : (text bytes : List ℕ) (at : ℕ) → at < length bytes → get_or (redacted text bytes) at 0 ≡ byte_at text bytes at
unfolding redacted
redacted_at text bytes at lt =
    let within : at < length (range_with_len 0 (length bytes)) = omega (arith, length-range_with_len 0 (length bytes)) in
    get_or-map (byte_at text bytes) (range_with_len 0 (length bytes)) at 0 0 within
    ∙ ap (byte_at text bytes) (get_or-range_with_len 0 (length bytes) at 0 lt ∙ zero-add at)

hidden_at : (text bytes : List ℕ) (at : ℕ) → at < length bytes → is_covered text bytes at ≡ true → get_or (redacted text bytes) at 0 ≡ 42
hidden_at text bytes at lt is = redacted_at text bytes at lt ∙ cond-true (is_covered text bytes at) 42 (get_or bytes at 0) is

kept_at : (text bytes : List ℕ) (at : ℕ) → at < length bytes → is_covered text bytes at ≡ false → get_or (redacted text bytes) at 0 ≡ get_or bytes at 0
kept_at text bytes at lt is = redacted_at text bytes at lt ∙ cond-false (is_covered text bytes at) 42 (get_or bytes at 0) is

pub hides_all : (text bytes : List ℕ) → HidesAll text bytes
hides_all text bytes = record {
  long = length-redacted text bytes;
  hidden = λ at b is lt within. hidden_at text bytes (b + at) within (covered_from text bytes (b + at) b (omega arith) (omega arith) is);
  kept = kept_at text bytes;
}

-- a place of an occurrence among the new bytes lay in none among the old ones
none_begins : (text bytes : List ℕ) (b : ℕ) → 0 < length text → All (λ c. (c == 42) ≡ false) text → Occurs text (redacted text bytes) b → ⊥
none_begins text bytes b some clean occurs =
    let long = length-redacted text bytes in
    let fits : length text ≤ length bytes - b = omega (arith, occurs.fits) in
    let bare : (k : ℕ) → k < length text → is_covered text bytes (b + k) ≡ false = λ k lt.
    false_from_ne_true (is_covered text bytes (b + k))
    (λ is. eqb-false (get_or text k 0) 42 (clean k 0 lt) (sym (occurs.reads k lt) ∙ hidden_at text bytes (b + k) (omega arith) is)) in
    let before : begins_at text bytes b ≡ true = occurs_to text bytes b fits (λ k lt. sym (kept_at text bytes (b + k) (omega arith) (bare k lt)) ∙ occurs.reads k lt) in
    let zero' : is_covered text bytes (b + 0) ≡ false = bare 0 some in
    both_ways (is_covered text bytes (b + 0)) zero' (covered_from text bytes (b + 0) b (omega arith) (omega arith) before)

pub none_is_left : NoneIsLeft
none_is_left text bytes front rest some clean is =
    let new = redacted text bytes in
    let from : drop (length front) new ≡ text ++ rest =
    ap (drop (length front)) (is ∙ append_assoc front text rest) ∙ drop_at front (text ++ rest) (length front) refl in
    let lens = ap (λ (l : List ℕ). length l) is in
    none_begins text bytes (length front) some clean (record {
      fits = omega (arith, lens, length-append (front ++ text) rest, length-append front text);
      reads = λ k lt. sym (get_or-drop (length front) new k 0) ∙ ap (λ (l : List ℕ). get_or l k 0) from ∙ get_or_append_left text rest 0 k lt;
    })

-- ---- lines

not_lf : (text bytes : List ℕ) (at : ℕ) → All (λ b. (b == 10) ≡ false) text → at < length bytes → is_covered text bytes at ≡ true → (get_or bytes at 0 == 10) ≡ false
not_lf text bytes at clean lt is =
    let it = covered_to text bytes at is in
    let k = at - it.0 in
    let here : it.0 + k ≡ at = omega (arith, it.1) in
    let within : k < length text = omega (arith, it.1, it.2) in
    ap (λ b. b == 10) (ap (λ i. get_or bytes i 0) (sym here) ∙ (occurs_from text bytes it.0 it.3).reads k within) ∙ clean k 0 within

pub lines_stay : LinesStay
lines_stay text bytes clean =
    let new = redacted text bytes in
    let lf : ℕ → Bool = λ b. b == 10 in
    let long = length-redacted text bytes in
    record {
      long = long;
      ends = same_lists (map lf new) (map lf bytes) (length-map new lf ∙ long ∙ sym (length-map bytes lf))
          (λ k d lt.
          let within : k < length bytes = omega (arith, long, length-map new lf) in
          let within' : k < length new = omega (arith, long) in
          get_or-map lf new k 0 d within' ∙ elim (cases_Bool (is_covered text bytes k)) [
            | inl t ↦ ap lf (hidden_at text bytes k within t) ∙ sym (not_lf text bytes k clean within t)
            | inr f ↦ ap lf (kept_at text bytes k within f)
          ] ∙ sym (get_or-map lf bytes k 0 d within));
    }

-- ---- one place after another

-- how many occurrences begin before a place
abbrev pub begun_before : List ℕ → List ℕ → ℕ → ℕ
begun_before text bytes at = count_by (begins_at text bytes) (range_with_len 0 at)

-- so many places from this one on lie in an occurrence that began before
pub record Reach (text bytes : List ℕ) (at left : ℕ) : Type 0 where
  pub below : (b : ℕ) → b < at → begins_at text bytes b ≡ true → b + length text ≤ at + left
  pub from : 0 < left → (b : ℕ) × (b < at) × (begins_at text bytes b ≡ true) × (b + length text ≡ at + left)

pub no_reach : (text bytes : List ℕ) → Reach text bytes 0 0
no_reach text bytes = record {
  below = λ b lt is. absurd (omega arith);
  from = λ some. absurd (omega arith);
}

-- whether the place itself does
pub is_reached : (text bytes : List ℕ) (at left : ℕ) (begun : Bool) → Reach text bytes at left → 0 < length text → begun ≡ begins_at text bytes at
    → is_covered text bytes at ≡ nat_lt 0 (cond begun (length text) left)
is_reached text bytes at left true reach some is =
    covered_from text bytes at at (omega arith) (omega arith) (sym is) ∙ sym (lt-ltb 0 (length text) some)
is_reached text bytes at zero false reach some is =
    false_from_ne_true (is_covered text bytes at) (λ covered.
    let it = covered_to text bytes at covered in
    elim (cases_order it.0 at) [
      | inl e ↦ both_ways (begins_at text bytes at) (sym is) (ap (begins_at text bytes) (sym e) ∙ it.3)
      | inr rest ↦ elim rest [
        | inl lt ↦ let near = reach.below it.0 lt it.3 in absurd (omega (arith, near, it.2))
        | inr gt ↦ absurd (omega (arith, gt, it.1))
      ]
    ]) ∙ sym (le-ltb 0 0 (omega arith))
is_reached text bytes at (suc left) false reach some is =
    let it = reach.from (omega arith) in
    covered_from text bytes at it.0 (omega (arith, it.1)) (omega (arith, it.3)) it.2 ∙ sym (lt-ltb 0 (suc left) (omega arith))

pub reach_more : (text bytes : List ℕ) (at left next : ℕ) (begun : Bool) → Reach text bytes at left → 0 < length text → begun ≡ begins_at text bytes at
    → next ≡ cond begun (length text) left - 1 → Reach text bytes (at + 1) next
reach_more text bytes at left next true reach some is e = record {
  below = λ b lt begins. omega arith;
  from = λ more. (at, omega arith, sym is, omega arith);
}
reach_more text bytes at left next false reach some is e = record {
  below = λ b lt begins. elim (cases_order b at) [
    | inl same ↦ absurd (both_ways (begins_at text bytes at) (sym is) (ap (begins_at text bytes) (sym same) ∙ begins))
    | inr rest ↦ elim rest [
      | inl less ↦ let near = reach.below b less begins in omega (arith, near)
      | inr gt ↦ absurd (omega arith)
    ]
  ];
  from = λ more.
      let it = reach.from (omega arith) in
      (it.0, omega (arith, it.1), it.2, omega (arith, it.3));
}

-- the new bytes, one more
pub hidden_more : (text bytes now : List ℕ) (at v : ℕ) → at < length bytes → length now ≡ length bytes → take at now ≡ take at (redacted text bytes)
    → v ≡ byte_at text bytes at → take (at + 1) (set now at v) ≡ take (at + 1) (redacted text bytes)
hidden_more text bytes now at v lt long before here =
    take_more_set now at v (omega arith)
    ∙ ap (λ l. l ++ v ∷ []) before
    ∙ ap (λ b. take at (redacted text bytes) ++ b ∷ []) (here ∙ sym (redacted_at text bytes at lt))
    ∙ sym (take_more (redacted text bytes) at 0 (omega (arith, length-redacted text bytes)))

-- the old ones, one fewer
pub rest_more : (bytes now : List ℕ) (at v : ℕ) → drop at now ≡ drop at bytes → drop (at + 1) (set now at v) ≡ drop (at + 1) bytes
rest_more bytes now at v same =
    drop-set-lt (at + 1) now at v (omega arith) ∙ sym (drop-drop 1 at now) ∙ ap (drop 1) same ∙ drop-drop 1 at bytes

pub here_is : (bytes now : List ℕ) (at : ℕ) → drop at now ≡ drop at bytes → get_or now at 0 ≡ get_or bytes at 0
here_is bytes now at same =
    ap (λ i. get_or now i 0) (sym (add-zero at)) ∙ sym (get_or-drop at now 0 0) ∙ ap (λ (l : List ℕ). get_or l 0 0) same ∙ get_or-drop at bytes 0 0
    ∙ ap (λ i. get_or bytes i 0) (add-zero at)

range_more : (n : ℕ) → range_with_len 0 (n + 1) ≡ range_with_len 0 n ++ n ∷ []
range_more n =
    sym (map-id (range_with_len 0 (n + 1))) ∙ map-range_with_len_more (λ i. i) 0 n n (zero-add n) ∙ ap (λ l. l ++ n ∷ []) (map-id (range_with_len 0 n))

pub begun_more : (text bytes : List ℕ) (at : ℕ) → begun_before text bytes (at + 1) ≡ begun_before text bytes at + cond (begins_at text bytes at) 1 0
begun_more text bytes at =
    ap (count_by (begins_at text bytes)) (range_more at)
    ∙ sum_by_push (λ i. cond (begins_at text bytes i) 1 0) (range_with_len 0 at) at

pub begun_few : (text bytes : List ℕ) (at : ℕ) → begun_before text bytes at ≤ at
begun_few text bytes at = omega (arith, count_by-le-length (begins_at text bytes) (range_with_len 0 at), length-range_with_len 0 at)

pub begins_same : (text bytes now : List ℕ) (at : ℕ) → drop at now ≡ drop at bytes → begins_at text now at ≡ begins_at text bytes at
begins_same text bytes now at same = ap (λ l. starts_with nat_eq l text) same
