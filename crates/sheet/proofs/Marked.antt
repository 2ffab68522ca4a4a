-- Marks, some at a time.
use Rattle.std.proofs.Common.{◌≡◌, ℕ, zero, suc, ◌+◌, ◌-◌, ◌/◌, ◌^◌, ◌<◌, ◌≤◌, Bool, true, false, not, List, [], ◌∷◌, map, length, length-drop, get_or, set, take, drop, ◌%◌, cond, eqb, w8, replicate, refl, inl, inr, subst, sym, ap, ◌∙◌, arith}
use Rattle.std.proofs.lemmas.Bool.{not-true, not-false, cases_eq, cases_lt}
use Rattle.std.proofs.lemmas.List.{get_or-drop, get_or-take, get_or-map, get_or-set_same, get_or-set_other, get_or_default, same_lists, length-map, length-take, map-id}
use Rattle.std.proofs.lemmas.List.Sums.{prefix_len_passes, prefix_len_stops, prefix_len-le-length}
use Rattle.std.proofs.lemmas.Simd.{bitmask_splat, leading_from_mask_l, trailing_mask_l}
use Rattle.std.proofs.Math.Nat.{zero-div, div-one, pow-suc, mul_comm, div-div-eq-div-mul}
use Rattle.std.specs.List.{prefix_len}
use lib.Lanes.{mask_l, top, zip2}
use mir.Val.{bool_byte}
use lib.Count.{count_trailing_zeros}
use Rattle.std.specs.Prelude.{◌==◌}
use Rattle.sheet.specs.Grid.{is_touched, origin_of}
use Rattle.sheet.specs.Marked.{IsNext, marks_from, marks_of}
use Rattle.sheet.proofs.Tables.{get_or-table, length-table, nth_next}
use Rattle.sheet.specs.Numbers.{bit}

-- ---- a piece of them

-- a mark of a piece, by where it stands in all
mark_in : (marks : List Bool) (at count k : ℕ) → at ≤ k → k < at + count → get_or (take count (drop at marks)) (k - at) true ≡ get_or marks k true
mark_in marks at count k low high =
    get_or-take count (drop at marks) (k - at) true (omega arith) ∙ get_or-drop at marks (k - at) true
    ∙ ap (λ (i : ℕ). get_or marks i true) (omega arith)

-- as many as were asked for
pub length_piece : (marks : List Bool) (at count : ℕ) → at + count ≤ length marks → length (take count (drop at marks)) ≡ count
length_piece marks at count room = simp (length-take, length-drop) (omega arith)

module _ (marks : List Bool) (at count from next : ℕ) (room : at + count ≤ length marks) (is : IsNext (take count (drop at marks)) from next) where
  long : length (take count (drop at marks)) ≡ count
  long = length_piece marks at count room

  pub piece_high : next ≤ count
  piece_high = omega (arith, is.high, long)

  pub piece_between : (k : ℕ) → at + from ≤ k → k < at + next → get_or marks k true ≡ false
  piece_between k low high =
      sym (mark_in marks at count k (omega arith) (omega (arith, piece_high))) ∙ is.between (k - at) (omega arith) (omega arith)

  pub piece_found : next < count → get_or marks (at + next) true ≡ true
  piece_found short =
      let same : at + next - at ≡ next = omega arith in
      sym (mark_in marks at count (at + next) (omega arith) (omega arith))
      ∙ ap (λ (k : ℕ). get_or (take count (drop at marks)) k true) same ∙ is.found (omega (arith, long))

-- the next one of a piece is the next one of all, behind what was passed
pub next_in_piece : (marks : List Bool) (from at count next : ℕ) → at + count ≤ length marks
    → from ≤ at → ((k : ℕ) → from ≤ k → k < at → get_or marks k true ≡ false)
    → IsNext (take count (drop at marks)) 0 next → at + next < at + count → IsNext marks from (at + next)
next_in_piece marks from at count next room low passed is short = record {
  low = omega arith;
  high = omega arith;
  between = λ k klow khigh. elim (cases_lt k at) [
    | inl before ↦ passed k klow before
    | inr there ↦ piece_between marks at count 0 next room is k (omega arith) khigh
  ];
  found = λ below. piece_found marks at count 0 next room is (omega arith);
}

-- a piece without one is passed
pub piece_passed : (marks : List Bool) (from at count next : ℕ) → at + count ≤ length marks
    → ((k : ℕ) → from ≤ k → k < at → get_or marks k true ≡ false)
    → IsNext (take count (drop at marks)) 0 next → at + count ≤ at + next
    → (k : ℕ) → from ≤ k → k < at + count → get_or marks k true ≡ false
piece_passed marks from at count next room passed is whole k low high = elim (cases_lt k at) [
  | inl before ↦ passed k low before
  | inr there ↦ piece_between marks at count 0 next room is k (omega arith) (omega arith)
]

-- behind what was passed the next one is the next one of all
pub next_later : (marks : List Bool) (from at next : ℕ) → from ≤ at → ((k : ℕ) → from ≤ k → k < at → get_or marks k true ≡ false)
    → IsNext marks at next → IsNext marks from next
next_later marks from at next low passed is = record {
  low = omega (arith, is.low);
  high = is.high;
  between = λ k klow khigh. elim (cases_lt k at) [
    | inl before ↦ passed k klow before
    | inr there ↦ is.between k there khigh
  ];
  found = is.found;
}

-- the next one of the piece at the end is the next one of all
pub next_in_end : (marks : List Bool) (at count from next : ℕ) → at + count ≡ length marks → at ≤ from
    → IsNext (take count (drop at marks)) (from - at) next → IsNext marks from (at + next)
next_in_end marks at count from next all low is = record {
  low = omega (arith, is.low);
  high = omega (arith, piece_high marks at count (from - at) next (omega arith) is);
  between = λ k klow khigh. piece_between marks at count (from - at) next (omega arith) is k (omega arith) khigh;
  found = λ below. piece_found marks at count (from - at) next (omega arith) is (omega arith);
}

-- ---- their numbers

-- what a cast makes of a mark
number_is : (mark : Bool) → bool_byte mark ≡ bit mark
number_is true = refl
number_is false = refl

-- a number more is written
pub number_more : (marks : List Bool) (numbers : List ℕ) (i : ℕ) → i < length marks → i < length numbers
    → ((k : ℕ) → k < i → get_or numbers k 0 ≡ bit (get_or marks k true))
    → (k : ℕ) → k < i + 1 → get_or (set numbers i (bool_byte (get_or marks i false))) k 0 ≡ bit (get_or marks k true)
number_more marks numbers i below room each k high = elim (cases_lt k i) [
  | inl before ↦ get_or-set_other numbers i k (bool_byte (get_or marks i false)) 0 (λ (e : k ≡ i). absurd (omega arith)) ∙ each k before
  | inr there ↦
      let same : k ≡ i = omega arith in
      ap (λ (j : ℕ). get_or (set numbers i (bool_byte (get_or marks i false))) j 0) same
      ∙ get_or-set_same numbers i (bool_byte (get_or marks i false)) 0 room ∙ number_is (get_or marks i false)
      ∙ ap bit (get_or_default marks i false true below) ∙ ap (λ (j : ℕ). bit (get_or marks j true)) (sym same)
]

-- the numbers of all
pub numbers_are : (marks : List Bool) (numbers : List ℕ) → length numbers ≡ length marks
    → ((k : ℕ) → k < length marks → get_or numbers k 0 ≡ bit (get_or marks k true)) → numbers ≡ map bit marks
numbers_are marks numbers long each =
    same_lists numbers (map bit marks) (long ∙ sym (length-map marks bit)) (λ k d below.
    get_or_default numbers k d 0 below ∙ each k (omega arith) ∙ sym (get_or-map bit marks k true d (omega arith)))

-- the numbers that aren't 0 are those of the true ones
numbers_differ : (marks : List Bool) → map (λ (n : ℕ). not (eqb n 0)) (map bit marks) ≡ marks
numbers_differ [] = refl
numbers_differ (true ∷ marks) = ap (λ (rest : List Bool). true ∷ rest) (numbers_differ marks)
numbers_differ (false ∷ marks) = ap (λ (rest : List Bool). false ∷ rest) (numbers_differ marks)

-- the bits of the numbers that aren't 0
pub numbers_mask : (marks : List Bool) → length marks ≡ 16
    → mask_l (map (top 7) (zip2 (λ (a b : ℕ). cond (not (eqb a b)) 255 0) (map bit marks) (replicate 16 0))) % 18446744073709551616 ≡ mask_l marks
numbers_mask marks long =
    bitmask_splat w8 (λ (a b : ℕ). not (eqb a b)) (map bit marks) 16 0 (length-map marks bit ∙ long) (omega arith) ∙ ap mask_l (numbers_differ marks)

-- ---- their bits

-- half of the bits are those behind the first one
one_off : (mark : Bool) (marks : List Bool) → mask_l (mark ∷ marks) / 2 ≡ mask_l marks
one_off true marks = omega arith
one_off false marks = omega arith

-- a shift drops the first ones
mask_later : (marks : List Bool) (from : ℕ) → mask_l marks / 2 ^ from ≡ mask_l (drop from marks)
mask_later marks zero = div-one (mask_l marks)
mask_later [] (suc from) = zero-div (2 ^ suc from)
mask_later (mark ∷ marks) (suc from) =
    ap (λ (n : ℕ). mask_l (mark ∷ marks) / n) (pow-suc 2 from ∙ mul_comm (2 ^ from) 2)
    ∙ sym (div-div-eq-div-mul (mask_l (mark ∷ marks)) 2 (2 ^ from)) ∙ ap (λ (n : ℕ). n / 2 ^ from) (one_off mark marks) ∙ mask_later marks from

-- the next one is behind the false ones that lead
leading_next : (marks : List Bool) (from n : ℕ) → from ≤ length marks → n ≡ prefix_len (λ (b : Bool). not b) (drop from marks) → IsNext marks from (from + n)
leading_next marks from n within is =
    let rest = drop from marks in
    let p = λ (b : Bool). not b in
    let bound : n ≤ length rest = omega (arith, is, prefix_len-le-length p rest) in
    let few : n ≤ length marks - from = omega (arith, bound, length-drop from marks) in
    record {
      low = omega arith;
      high = omega arith;
      between = λ k low high.
          let same : from + (k - from) ≡ k = omega arith in
          sym (get_or-drop from marks (k - from) true ∙ ap (λ (i : ℕ). get_or marks i true) same)
          ∙ not-true _ (prefix_len_passes p rest (k - from) true (omega (arith, is)));
      found = λ below.
          sym (get_or-drop from marks n true) ∙ ap (λ (i : ℕ). get_or rest i true) is
          ∙ not-false _ (prefix_len_stops p rest true (omega (arith, is, length-drop from marks)));
    }

-- the bits of the marks as they are
same_mask : (marks : List Bool) → mask_l (map (λ (b : Bool). b) marks) ≡ mask_l marks
same_mask marks = ap mask_l (map-id marks)

-- no bit from one on
pub next_of_none : (marks : List Bool) (from : ℕ) → from ≤ length marks → mask_l marks / 2 ^ from ≡ 0 → IsNext marks from (length marks)
next_of_none marks from within none =
    let rest = drop from marks in
    let all = leading_from_mask_l (λ (b : Bool). b) rest (same_mask rest ∙ sym (mask_later marks from) ∙ none) in
    let whole : from + length rest ≡ length marks = omega (arith, length-drop from marks) in
    subst (IsNext marks from) whole (leading_next marks from (length rest) within (sym all))

-- the lowest bit from one on
pub next_of_some : (marks : List Bool) (from : ℕ) → from ≤ length marks → length marks ≤ 64 → 0 < mask_l marks / 2 ^ from
    → IsNext marks from (from + count_trailing_zeros 64 (mask_l marks / 2 ^ from))
next_of_some marks from within short some =
    let rest = drop from marks in
    let later : mask_l marks / 2 ^ from ≡ mask_l (map (λ (b : Bool). b) rest) = mask_later marks from ∙ sym (same_mask rest) in
    leading_next marks from (count_trailing_zeros 64 (mask_l marks / 2 ^ from)) within
    (ap (count_trailing_zeros 64) later ∙ trailing_mask_l (λ (b : Bool). b) 64 rest (omega (arith, length-drop from marks)) (omega (arith, later)))

-- no bit at all
pub all_of_none : (marks : List Bool) → mask_l marks ≡ 0 → IsNext marks 0 (length marks)
all_of_none marks none = next_of_none marks 0 (omega arith) (div-one (mask_l marks) ∙ none)

-- the lowest bit of all
pub all_of_some : (marks : List Bool) → length marks ≤ 64 → 0 < mask_l marks → IsNext marks 0 (count_trailing_zeros 64 (mask_l marks))
all_of_some marks short some =
    let whole : mask_l marks / 2 ^ 0 ≡ mask_l marks = div-one (mask_l marks) in
    let same : 0 + count_trailing_zeros 64 (mask_l marks / 2 ^ 0) ≡ count_trailing_zeros 64 (mask_l marks) = omega (arith, ap (count_trailing_zeros 64) whole) in
    subst (IsNext marks 0) same (next_of_some marks 0 (omega arith) short (omega (arith, whole)))

-- where all are false no bit is set
none_marked : (marks : List Bool) → prefix_len (λ (b : Bool). not b) marks ≡ length marks → mask_l marks ≡ 0
none_marked [] whole = refl
none_marked (true ∷ marks) whole = absurd (omega arith)
none_marked (false ∷ marks) whole = omega (arith, none_marked marks (omega arith))

-- the lowest bit is one of theirs
pub some_within : (marks : List Bool) → length marks ≤ 64 → 0 < mask_l marks → count_trailing_zeros 64 (mask_l marks) < length marks
some_within marks short some =
    let p = λ (b : Bool). not b in
    let is : count_trailing_zeros 64 (mask_l marks) ≡ prefix_len p marks =
    ap (count_trailing_zeros 64) (sym (same_mask marks)) ∙ trailing_mask_l (λ (b : Bool). b) 64 marks short (omega (arith, same_mask marks)) in
    elim (cases_eq (prefix_len p marks) (length marks)) [
      | inl whole ↦ absurd (omega (arith, none_marked marks whole))
      | inr part ↦ omega (arith, is, prefix_len-le-length p marks)
    ]

-- ---- lines

-- a line's mark, by what is read of it
pub mark_read : (origins : List ℕ) (k : ℕ) → k < length origins → get_or (marks_of origins) k true ≡ not (get_or origins k 0 == k + 1)
mark_read origins k below =
    get_or-table (length origins) (is_touched origins) k true below ∙ ap (λ (origin : ℕ). not (origin == k + 1)) (nth_next 0 origins k)

-- as many as lines
pub length_marks : (origins : List ℕ) → length (marks_of origins) ≡ length origins
length_marks origins = length-table (length origins) (is_touched origins)

-- the marks of a piece of the lines are a piece of the marks
pub marks_in : (origins : List ℕ) (at count : ℕ) → at + count ≤ length origins → marks_from (at + 1) (take count (drop at origins)) ≡ take count (drop at (marks_of origins))
marks_in origins at count room =
    let piece = take count (drop at origins) in
    let long : length piece ≡ count = simp (length-take, length-drop) (omega arith) in
    let length_all = length_marks origins in
    let step : ℕ → Bool = λ k. not (origin_of piece k == at + 1 + k - 1) in
    same_lists (marks_from (at + 1) piece) (take count (drop at (marks_of origins)))
    (length-table (length piece) step ∙ long ∙ sym (length_piece (marks_of origins) at count (omega (arith, length_all)))) (λ k d below.
    let within : k < count = omega (arith, length-table (length piece) step, long) in
    let there : get_or piece k 0 ≡ get_or origins (at + k) 0 = get_or-take count (drop at origins) k 0 within ∙ get_or-drop at origins k 0 in
    let same : at + 1 + (k + 1) - 1 ≡ at + k + 1 = omega arith in
    get_or-table (length piece) step k d (omega (arith, long))
    ∙ ap (λ (origin : ℕ). not (origin == at + 1 + (k + 1) - 1)) (nth_next 0 piece k ∙ there)
    ∙ ap (λ (line : ℕ). not (get_or origins (at + k) 0 == line)) same
    ∙ sym (mark_read origins (at + k) (omega arith))
    ∙ get_or_default (marks_of origins) (at + k) true d (omega (arith, length_all))
    ∙ sym (get_or-take count (drop at (marks_of origins)) k d within ∙ get_or-drop at (marks_of origins) k d))

-- marks that are those of some lines, one by one
pub marks_are : (first : ℕ) (origins : List ℕ) (marks : List Bool) → length marks ≡ length origins
    → ((k : ℕ) → k < length origins → get_or marks k true ≡ not (get_or origins k 0 == first + k)) → marks ≡ marks_from first origins
marks_are first origins marks long each =
    let step : ℕ → Bool = λ k. not (origin_of origins k == first + k - 1) in
    same_lists marks (marks_from first origins) (long ∙ sym (length-table (length origins) step)) (λ k d below.
    let within : k < length origins = omega (arith, long) in
    get_or_default marks k d true below ∙ each k within
    ∙ ap (λ (line : ℕ). not (get_or origins k 0 == line)) (omega arith)
    ∙ ap (λ (origin : ℕ). not (origin == first + (k + 1) - 1)) (sym (nth_next 0 origins k))
    ∙ sym (get_or-table (length origins) step k d within))

-- the bits of a piece
pub bits_in : (origins : List ℕ) (at count bits : ℕ) (marks : List Bool) → at + count ≤ length origins → bits ≡ mask_l marks
    → marks ≡ marks_from (at + 1) (take count (drop at origins)) → bits ≡ mask_l (take count (drop at (marks_of origins)))
bits_in origins at count bits marks room are is = are ∙ ap mask_l (is ∙ marks_in origins at count room)

-- the first line that was touched, looked for one by one
pub next_here : (origins : List ℕ) (from at : ℕ) → from ≤ at → at < length origins
    → ((k : ℕ) → from ≤ k → k < at → get_or (marks_of origins) k true ≡ false) → not (get_or origins at 0 == at + 1) ≡ true → IsNext (marks_of origins) from at
next_here origins from at low below passed here = record {
  low = low;
  high = omega (arith, length_marks origins);
  between = passed;
  found = λ _. mark_read origins at below ∙ here;
}

pub next_nowhere : (origins : List ℕ) (from : ℕ) → from ≤ length origins
    → ((k : ℕ) → from ≤ k → k < length origins → get_or (marks_of origins) k true ≡ false) → IsNext (marks_of origins) from (length origins)
next_nowhere origins from low passed = record {
  low = low;
  high = omega (arith, length_marks origins);
  between = passed;
  found = λ below. absurd (omega (arith, below, length_marks origins));
}
