-- What is known of the places ahead, and of those that are passed over.
use Rattle.std.proofs.Common.{◌≡◌, ℕ, zero, suc, ◌+◌, ◌-◌, ◌*◌, ◌/◌, ◌%◌, ◌^◌, ◌<◌, ◌≤◌, ◌==◌, Bool, true, false, cond, eqb, List, [], ◌∷◌, ◌++◌, length, min, get_or, set, map, drop, take, nat_lt, replicate, add-zero, add_assoc, refl, ap, ap₂, subst, sym, ◌∙◌, arith, inl, inr, length-drop, w8}
use Rattle.std.specs.Int.{bit_at}
use Rattle.std.specs.Simd.Lanes.{zip2, sel_l, mask_l, top}
use Rattle.std.proofs.Math.ListN.{get_or-map}
use Rattle.std.proofs.lemmas.Bool.{cases_Bool, cases_lt, cond-false, cond-true, eq-eqb, eqb-false, eqb-true, false_from_ne_true, false≢true, le-ltb, lt-ltb}
use Rattle.std.proofs.lemmas.List.{drop-drop, get_or-drop, get_or-take, length-take-le, take_all, take_more, take_rest}
use Rattle.std.proofs.lemmas.Nat.{shr-shr}
use Rattle.std.proofs.lemmas.Nat.Bits.{bit_at_lowest, bit_at-suc}
use Rattle.std.proofs.lemmas.Simd.{bit_mask_l, bitmask_splat, get_or-replicate, get_or-sel_l, get_or-zip2, length-sel_l, length-zip2, tops_compared}
use lib.Count.{count_trailing_zeros, under}
use mir.Val.{bool_byte}
use Rattle.tape_redact.specs.Ahead.{HasLanes, Tells, places_from}
use Rattle.tape_redact.specs.Redacted.{begins_at, byte_at, is_covered, redacted}
use Rattle.tape_redact.proofs.RedactLemmas.{Reach, begins_same, begun_before, begun_more, here_is, hidden_more, is_reached, occurs_from, occurs_to, reach_more, redacted_at, length-redacted, rest_more}

-- ---- lanes

pub bit_of_lane : (lanes : List ℕ) (k : ℕ) → length lanes ≡ 64
    → bit_at (mask_l (map (top 7) (zip2 (λ a b. cond (eqb a b) 255 0) lanes (replicate 64 1))) % 2 ^ 64) k ≡ cond (eqb (get_or lanes k 0) 1) 1 0
bit_of_lane lanes k long =
    ap (λ n. bit_at n k) (bitmask_splat w8 eqb lanes 64 1 long (omega arith))
    ∙ bit_mask_l (map (λ x. eqb x 1) lanes) k
    ∙ ap (λ b. cond b 1 0) (get_or-map (λ x. eqb x 1) lanes k 0)

pub kept_lanes : (lanes bytes : List ℕ) (byte : ℕ) → length lanes ≡ 64 → 64 ≤ length bytes
    → HasLanes (sel_l (map (top 7) (zip2 (λ a b. cond (eqb a b) 255 0) (take 64 bytes) (replicate 64 byte))) lanes (replicate 64 0))
    (λ k. cond (eqb (get_or bytes k 0) byte) (get_or lanes k 0) 0)
kept_lanes lanes bytes byte long room =
    let there = take 64 bytes in
    let at_hand : length there ≡ 64 = length-take-le 64 bytes room in
    let same = zip2 eqb there (replicate 64 byte) in
    let same_long : length same ≡ 64 = length-zip2 eqb there (replicate 64 byte) at_hand ∙ at_hand in
    subst (λ ms. HasLanes (sel_l ms lanes (replicate 64 0)) (λ k. cond (eqb (get_or bytes k 0) byte) (get_or lanes k 0) 0))
    (sym (tops_compared w8 eqb there (replicate 64 byte)))
    (record {
      long = length-sel_l same lanes (replicate 64 0) (same_long ∙ sym long) same_long ∙ same_long;
      each = λ k l.
          get_or-sel_l same lanes (replicate 64 0) k 0 (omega arith) (omega arith) l
          ∙ ap₂ (λ m z. cond m (get_or lanes k 0) z)
          (get_or-zip2 eqb there (replicate 64 byte) k 0 0 false (omega arith) l ∙ ap₂ eqb (get_or-take 64 bytes k 0 l) (get_or-replicate 64 k byte 0 l))
          (get_or-replicate 64 k 0 0 l);
    })

-- ---- fronts of a text

agree : (a b : Bool) → (a ≡ true → b ≡ true) → (b ≡ true → a ≡ true) → a ≡ b
agree true b to from = sym (to refl)
agree false b to from = sym (false_from_ne_true b (λ is. false≢true (from is)))

record Reads (text bytes : List ℕ) (n b : ℕ) : Type 0 where
  fits : n ≤ length bytes - b
  reads : (j : ℕ) → j < n → get_or bytes (b + j) 0 ≡ get_or text j 0

front_from : (text bytes : List ℕ) (n b : ℕ) → n ≤ length text → begins_at (take n text) bytes b ≡ true → Reads text bytes n b
front_from text bytes n b le is =
    let it = occurs_from (take n text) bytes b is in
    let long : length (take n text) ≡ n = length-take-le n text le in
    record { fits = omega (arith, it.fits, long); reads = λ j lt. it.reads j (omega (arith, long)) ∙ get_or-take n text j 0 lt }

front_to : (text bytes : List ℕ) (n b : ℕ) → n ≤ length text → Reads text bytes n b → begins_at (take n text) bytes b ≡ true
front_to text bytes n b le it =
    let long : length (take n text) ≡ n = length-take-le n text le in
    occurs_to (take n text) bytes b (omega (arith, it.fits, long))
    (λ j lt. it.reads j (omega (arith, long)) ∙ sym (get_or-take n text j 0 (omega (arith, long))))

reads_less : (text bytes : List ℕ) (n b : ℕ) → Reads text bytes (n + 1) b → Reads text bytes n b
reads_less text bytes n b it = record { fits = omega (arith, it.fits); reads = λ j lt. it.reads j (omega arith) }

reads_more : (text bytes : List ℕ) (n b : ℕ) → b + n < length bytes → get_or bytes (b + n) 0 ≡ get_or text n 0 → Reads text bytes n b → Reads text bytes (n + 1) b
reads_more text bytes n b room here it = record {
  fits = omega (arith, it.fits);
  reads = λ j lt. elim (cases_lt j n) [
    | inl before ↦ it.reads j before
    | inr there ↦ let e : n ≡ j = omega arith in subst (λ m. get_or bytes (b + m) 0 ≡ get_or text m 0) e here
  ];
}

-- the front that is one byte longer
front_more : (text bytes : List ℕ) (n b : ℕ) → n < length text → b + n < length bytes
    → begins_at (take (n + 1) text) bytes b ≡ cond (eqb (get_or bytes (b + n) 0) (get_or text n 0)) (begins_at (take n text) bytes b) false
front_more text bytes n b lt room =
    let x = get_or bytes (b + n) 0 in
    let y = get_or text n 0 in
    let more : n + 1 ≤ length text = omega arith in
    let less : n ≤ length text = omega arith in
    elim (cases_Bool (eqb x y)) [
      | inl t ↦
          agree (begins_at (take (n + 1) text) bytes b) (begins_at (take n text) bytes b)
          (λ is. front_to text bytes n b less (reads_less text bytes n b (front_from text bytes (n + 1) b more is)))
          (λ is. front_to text bytes (n + 1) b more (reads_more text bytes n b room (eqb-true x y t) (front_from text bytes n b less is)))
          ∙ sym (cond-true (eqb x y) (begins_at (take n text) bytes b) false t)
      | inr f ↦
          false_from_ne_true (begins_at (take (n + 1) text) bytes b)
          (λ is. eqb-false x y f ((front_from text bytes (n + 1) b more is).reads n (omega arith)))
          ∙ sym (cond-false (eqb x y) (begins_at (take n text) bytes b) false f)
    ]

join : (a b : Bool) (v : ℕ) → v ≡ cond b 1 0 → cond a v 0 ≡ cond (cond a b false) 1 0
join true b v e = e
join false b v e = refl

pub lanes_more : (text bytes lanes new : List ℕ) (n : ℕ) → n < length text → 64 + length text ≤ length bytes
    → HasLanes lanes (λ k. cond (begins_at (take n text) bytes k) 1 0)
    → HasLanes new (λ k. cond (eqb (get_or (take (length bytes - n) (drop n bytes)) k 0) (get_or text n 0)) (get_or lanes k 0) 0)
    → HasLanes new (λ k. cond (begins_at (take (n + 1) text) bytes k) 1 0)
lanes_more text bytes lanes new n lt room before now = record {
  long = now.long;
  each = λ k l.
      let there : get_or (take (length bytes - n) (drop n bytes)) k 0 ≡ get_or bytes (k + n) 0 =
      ap (λ (bs : List ℕ). get_or bs k 0) (take_rest bytes n) ∙ get_or-drop n bytes k 0 ∙ ap (λ i. get_or bytes i 0) (omega arith) in
      now.each k l
      ∙ ap (λ x. cond (eqb x (get_or text n 0)) (get_or lanes k 0) 0) there
      ∙ join (eqb (get_or bytes (k + n) 0) (get_or text n 0)) (begins_at (take n text) bytes k) (get_or lanes k 0) (before.each k l)
      ∙ ap (λ b. cond b 1 0) (sym (front_more text bytes n k lt (omega arith)));
}

pub lanes_first : (text bytes : List ℕ) → HasLanes (replicate 64 1) (λ k. cond (begins_at (take 0 text) bytes k) 1 0)
lanes_first text bytes = record { long = refl; each = λ k l. get_or-replicate 64 k 1 0 l }

-- the bits of the lanes
pub bit_of_begun : (text bytes lanes : List ℕ) (bits k : ℕ) → k < 64 → HasLanes lanes (λ j. cond (begins_at text bytes j) 1 0)
    → bit_at bits k ≡ cond (eqb (get_or lanes k 0) 1) 1 0 → bit_at bits k ≡ cond (begins_at text bytes k) 1 0
bit_of_begun text bytes lanes bits k lt has is =
    is ∙ ap (λ x. cond (eqb x 1) 1 0) (has.each k lt) ∙ once (begins_at text bytes k)
  where
    once : (b : Bool) → cond {A = ℕ} (eqb (cond b 1 0) 1) 1 0 ≡ cond b 1 0
    once true = refl
    once false = refl

-- a text goes on behind its front
pub behind_front : (text bytes : List ℕ) (n at : ℕ) → n < length text → begins_at (take n text) bytes at ≡ true
    → begins_at (drop n text) bytes (at + n) ≡ begins_at text bytes at
behind_front text bytes n at lt is =
    let front = front_from text bytes n at (omega arith) is in
    agree (begins_at (drop n text) bytes (at + n)) (begins_at text bytes at)
    (λ rest.
    let it = occurs_from (drop n text) bytes (at + n) rest in
    occurs_to text bytes at (omega (arith, it.fits, front.fits, length-drop n text))
    (λ j le. elim (cases_lt j n) [
      | inl before ↦ front.reads j before
      | inr there ↦
          let e : at + n + (j - n) ≡ at + j = omega arith in
          let e' : n + (j - n) ≡ j = omega arith in
          ap (λ i. get_or bytes i 0) (sym e)
          ∙ it.reads (j - n) (omega (arith, length-drop n text))
          ∙ get_or-drop n text (j - n) 0 ∙ ap (λ i. get_or text i 0) e'
    ]))
    (λ whole.
    let it = occurs_from text bytes at whole in
    occurs_to (drop n text) bytes (at + n) (omega (arith, it.fits, length-drop n text))
    (λ j le.
    let within : n + j < length text = omega (arith, length-drop n text) in
    ap (λ i. get_or bytes i 0) (add_assoc at n j) ∙ it.reads (n + j) within ∙ sym (get_or-drop n text j 0)))

pub front_fits : (text bytes : List ℕ) (n at : ℕ) → n ≤ length text → begins_at (take n text) bytes at ≡ true → n ≤ length bytes - at
front_fits text bytes n at le is = (front_from text bytes n at le is).fits

-- no text without its front
pub no_front : (text bytes : List ℕ) (n at : ℕ) → begins_at (take n text) bytes at ≡ false → begins_at text bytes at ≡ false
no_front text bytes n at none =
    false_from_ne_true (begins_at text bytes at) (λ is.
    let it = occurs_from text bytes at is in
    elim (cases_lt (length text) n) [
      | inl short ↦ false≢true (sym none ∙ ap (λ t. begins_at t bytes at) (take_all n text (omega arith)) ∙ is)
      | inr long ↦ false≢true (sym none ∙ front_to text bytes n at long (record { fits = omega (arith, it.fits); reads = λ j lt. it.reads j (omega arith) }))
    ])

-- ---- bits

low_digit : (r t n j : ℕ) → r ≡ n % 2 → ((i : ℕ) → i < t → bit_at (n / 2) i ≡ 0) → j < under r t → bit_at n j ≡ 0
low_digit zero t n zero e rest lt = bit_at_lowest n ∙ sym e
low_digit zero t n (suc j) e rest lt = bit_at-suc n j ∙ rest j (omega arith)
low_digit (suc r) t n j e rest lt = absurd (omega arith)

below_trailing : (k n j : ℕ) → j < count_trailing_zeros k n → bit_at n j ≡ 0
unfolding count_trailing_zeros
below_trailing zero n j lt = absurd (omega arith)
below_trailing (suc k) n j lt = low_digit (n % 2) (count_trailing_zeros k (n / 2)) n j refl (λ i below. below_trailing k (n / 2) i below) lt

stands_not : (b : Bool) → cond {A = ℕ} b 1 0 ≡ 0 → b ≡ false
stands_not true e = absurd (omega (arith, e))
stands_not false e = refl

-- the bits of the places behind some
pub tells_on : (bits from end n : ℕ) (stands : ℕ → Bool) → Tells bits from end stands → Tells (bits / 2 ^ n) (from + n) end stands
tells_on bits from end n stands tells = record {
  each = λ k lt.
      let there : from + (n + k) ≡ from + n + k = omega arith in
      ap (λ m. m % 2) (shr-shr bits n k) ∙ tells.each (n + k) (omega arith) ∙ ap (λ m. cond (stands m) 1 0) there;
}

pub left_one : (bits from end rest to : ℕ) (stands : ℕ → Bool) → Tells bits from end stands → rest ≡ bits / 2 → to ≡ end → Tells rest (from + 1) to stands
left_one bits from end rest to stands tells half same =
    subst (λ m. Tells rest (from + 1) m stands) (sym same)
    (subst (λ n. Tells n (from + 1) end stands) (sym half) (tells_on bits from end 1 stands tells))

-- where they are 0 it doesn't stand
pub passed : (bits at end k : ℕ) (stands : ℕ → Bool) → Tells bits at end stands → at ≤ k → k < end → k - at < count_trailing_zeros 64 bits → stands k ≡ false
passed bits at end k stands tells le lt zeros =
    let here : at + (k - at) ≡ k = omega arith in
    stands_not (stands k)
    (ap (λ m. cond (stands m) 1 0) (sym here) ∙ sym (tells.each (k - at) (omega arith)) ∙ below_trailing 64 bits (k - at) zeros)

-- the first bit
pub told_first : (bits at end : ℕ) (stands : ℕ → Bool) (b : Bool) → Tells bits at end stands → at < end → b ≡ eqb (bit_at bits 0) 1 → b ≡ stands at
told_first bits at end stands b tells lt is =
    is ∙ ap (λ n. eqb n 1) (tells.each 0 (omega arith)) ∙ is_set (stands (at + 0)) ∙ ap stands (add-zero at)
  where
    is_set : (b : Bool) → eqb (cond b 1 0) 1 ≡ b
    is_set true = refl
    is_set false = refl

pub few_places : (left text_len : ℕ) → left < 64 + min text_len 64 → places_from left text_len ≡ 1
few_places left text_len few = cond-true (nat_lt left (64 + min text_len 64)) 1 64 (lt-ltb left (64 + min text_len 64) few)

pub many_places : (left text_len : ℕ) → 64 + min text_len 64 ≤ left → places_from left text_len ≡ 64
many_places left text_len many = cond-false (nat_lt left (64 + min text_len 64)) 1 64 (le-ltb left (64 + min text_len 64) many)

pub front_is : (text : List ℕ) (n : ℕ) → n ≡ min (length text) 64 → take n text ≡ take 64 text
front_is text n e = elim (cases_lt (length text) 64) [
  | inl short ↦ take_all n text (omega (arith, e)) ∙ sym (take_all 64 text (omega arith))
  | inr long ↦ let same : n ≡ 64 = omega (arith, e) in ap (λ m. take m text) same
]

pub tells_one : (at bits : ℕ) (stands : ℕ → Bool) (b : Bool) → b ≡ stands at → bits ≡ bool_byte b → Tells bits at (at + 1) stands
tells_one at bits stands b is e = record { each = each }
  where
    bit : (b : Bool) → bit_at (bool_byte b) 0 ≡ cond {A = ℕ} b 1 0
    bit true = refl
    bit false = refl

    each : (k : ℕ) → at + k < at + 1 → bit_at bits k ≡ cond (stands (at + k)) 1 0
    each zero lt = ap (λ n. bit_at n 0) e ∙ bit b ∙ ap (λ c. cond c 1 0) (is ∙ ap stands (sym (add-zero at)))
    each (suc k) lt = absurd (omega arith)

begins_ahead : (text bytes : List ℕ) (at k : ℕ) → begins_at text (take (length bytes - at) (drop at bytes)) k ≡ begins_at text bytes (at + k)
begins_ahead text bytes at k =
    ap (λ l. begins_at text l k) (take_rest bytes at) ∙ begins_same' (drop k (drop at bytes)) (drop (at + k) bytes) (drop-drop k at bytes)
  where
    begins_same' : (a b : List ℕ) → a ≡ b → begins_at text a 0 ≡ begins_at text b 0
    begins_same' a b e = ap (λ l. begins_at text l 0) e

-- bits of the bytes from a place on
pub tells_ahead : (text bytes : List ℕ) (at bits : ℕ)
    → ((k : ℕ) → k < 64 → bit_at bits k ≡ cond (begins_at text (take (length bytes - at) (drop at bytes)) k) 1 0) → Tells bits at (at + 64) (begins_at text bytes)
tells_ahead text bytes at bits each = record {
  each = λ k lt. each k (omega arith) ∙ ap (λ b. cond b 1 0) (begins_ahead text bytes at k);
}

pub tells_as : (bits from end : ℕ) (told stands : ℕ → Bool) → Tells bits from end told → ((k : ℕ) → from ≤ k → told k ≡ stands k) → Tells bits from end stands
tells_as bits from end told stands tells same = record {
  each = λ k lt. tells.each k lt ∙ ap (λ b. cond b 1 0) (same (from + k) (omega arith));
}

-- ---- the bytes so far

-- those before a place are the new ones, the others are the old ones
pub record IsAt (text old now : List ℕ) (at left count : ℕ) : Type 0 where
  pub done : take at now ≡ take at (redacted text old)
  pub rest : drop at now ≡ drop at old
  pub reach : Reach text old at left
  pub counted : count ≡ begun_before text old at

-- behind the place they are the old ones too
pub rest_on : (old now : List ℕ) (at k : ℕ) → at ≤ k → drop at now ≡ drop at old → drop k now ≡ drop k old
rest_on old now at k le same =
    let there : at + (k - at) ≡ k = omega arith in
    ap (λ i. drop i now) (sym there) ∙ sym (drop-drop (k - at) at now) ∙ ap (drop (k - at)) same ∙ drop-drop (k - at) at old ∙ ap (λ i. drop i old) there

pub gone_on : (text old now : List ℕ) (at left next count one v : ℕ) (begun : Bool) → 0 < length text → at < length old → length now ≡ length old
    → begun ≡ begins_at text old at → v ≡ cond (nat_lt 0 (cond begun (length text) left)) 42 (get_or now at 0) → next ≡ cond begun (length text) left - 1
    → one ≡ cond begun 1 0 → IsAt text old now at left count → IsAt text old (set now at v) (at + 1) next (count + one)
gone_on text old now at left next count one v begun some lt long is written reached once so_far =
    let covered = is_reached text old at left begun so_far.reach some is in
    let byte : v ≡ byte_at text old at =
    written ∙ ap (λ b. cond b 42 (get_or now at 0)) (sym covered) ∙ ap (cond (is_covered text old at) 42) (here_is old now at so_far.rest) in
    record {
      done = hidden_more text old now at v lt long so_far.done byte;
      rest = rest_more old now at v so_far.rest;
      reach = reach_more text old at left next begun so_far.reach some is reached;
      counted = ap (λ n. n + one) so_far.counted
          ∙ ap (λ n. begun_before text old at + n) (once ∙ ap (λ b. cond b 1 0) is)
          ∙ sym (begun_more text old at);
    }

pass_one : (text old now : List ℕ) (at count : ℕ) → 0 < length text → at < length old → length now ≡ length old → begins_at text old at ≡ false
    → IsAt text old now at 0 count → IsAt text old now (at + 1) 0 count
pass_one text old now at count some lt long none so_far =
    let covered = is_reached text old at 0 false so_far.reach some (sym none) in
    let byte : get_or now at 0 ≡ byte_at text old at =
    here_is old now at so_far.rest ∙ sym (cond-false (is_covered text old at) 42 (get_or old at 0) covered) in
    record {
      done = take_more now at 0 (omega arith)
          ∙ ap (λ l. l ++ get_or now at 0 ∷ []) so_far.done
          ∙ ap (λ b. take at (redacted text old) ++ b ∷ []) (byte ∙ sym (redacted_at text old at lt))
          ∙ sym (take_more (redacted text old) at 0 (omega (arith, length-redacted text old)));
      rest = sym (drop-drop 1 at now) ∙ ap (drop 1) so_far.rest ∙ drop-drop 1 at old;
      reach = reach_more text old at 0 0 false so_far.reach some (sym none) refl;
      counted = so_far.counted ∙ sym (begun_more text old at ∙ ap (λ b. begun_before text old at + cond b 1 0) none ∙ add-zero (begun_before text old at));
    }

pass_some : (text old now : List ℕ) (at n count : ℕ) → 0 < length text → at + n ≤ length old → length now ≡ length old
    → ((k : ℕ) → at ≤ k → k < at + n → begins_at text old k ≡ false) → IsAt text old now at 0 count → IsAt text old now (at + n) 0 count
pass_some text old now at zero count some within long none so_far = subst (λ m. IsAt text old now m 0 count) (sym (add-zero at)) so_far
pass_some text old now at (suc n) count some within long none so_far =
    let next : at + n + 1 ≡ at + suc n = omega arith in
    subst (λ m. IsAt text old now m 0 count) next
    (pass_one text old now (at + n) count some (omega arith) long (none (at + n) (omega arith) (omega arith))
    (pass_some text old now at n count some (omega arith) long (λ k low high. none k low (omega arith)) so_far))

-- where no occurrence reaches over a place, those up to another are passed in which none begins
pub pass : (text old now : List ℕ) (at to left count : ℕ) → 0 < length text → at ≤ to → to ≤ length old → length now ≡ length old
    → ((k : ℕ) → at ≤ k → k < to → begins_at text old k ≡ false) → left ≡ 0 → IsAt text old now at left count → IsAt text old now to left count
pass text old now at to left count some le within long none zero' so_far =
    let there : at + (to - at) ≡ to = omega arith in
    subst (λ l. IsAt text old now to l count) (sym zero')
    (subst (λ m. IsAt text old now m 0 count) there
    (pass_some text old now at (to - at) count some (omega arith) long (λ k low high. none k low (omega arith))
    (subst (λ l. IsAt text old now at l count) zero' so_far)))

-- the front of the text stands nowhere between the two places, and the text doesn't begin at the first
pub none_between : (text old : List ℕ) (at to : ℕ) → begins_at text old at ≡ false → ((k : ℕ) → at < k → k < to → begins_at (take 64 text) old k ≡ false)
    → (k : ℕ) → at ≤ k → k < to → begins_at text old k ≡ false
none_between text old at to here none k low high = elim (cases_lt at k) [
  | inl behind ↦ no_front text old 64 k (none k behind high)
  | inr there ↦ let same : at ≡ k = omega arith in subst (λ i. begins_at text old i ≡ false) same here
]
