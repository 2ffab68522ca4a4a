-- Groups of neighbours, told by where they begin.
use Rattle.std.proofs.Common.{◌≡◌, ℕ, zero, suc, ◌+◌, ◌-◌, ◌≤◌, ◌<◌, Bool, true, false, not, cond, List, [], ◌∷◌, ◌++◌, ap, refl, ◌∙◌, filter, arith, add-zero, append-nil, sym}
use Rattle.std.specs.List.{flat_map, prefix_len, range_with_len}
use Rattle.std.proofs.lemmas.List.Elements.{filter-append}
use Rattle.std.proofs.lemmas.List.Concat.{flat_map-append}
use Rattle.xterm_rows.specs.Groups.{group_end, starts}
use Rattle.xterm_rows.proofs.RangeLemmas.{range_first, range_split}

-- ---- how far none begins

-- how many places from one on, to before another, go on with the group before them
abbrev pub reach : (ℕ → Bool) → ℕ → ℕ → ℕ
reach begins at end = prefix_len (λ k. not (begins k)) (range_with_len at (end - at))

-- one more where none begins ..
pub reach_more : (begins : ℕ → Bool) (at end : ℕ) → at < end → begins at ≡ false
    → at + reach begins at end ≡ at + 1 + reach begins (at + 1) end
reach_more begins at end within none =
    let count : end - at ≡ end - (at + 1) + 1 = omega arith in
    ap (λ l. at + prefix_len (λ k. not (begins k)) l) (range_first at (end - at) (end - (at + 1)) count)
    ∙ ap (λ b. at + cond (not b) (1 + reach begins (at + 1) end) 0) none
    ∙ omega arith

-- .. as many more as there are at which none begins ..
pub reach_by : (begins : ℕ → Bool) (n at end : ℕ) → at + n ≤ end → ((k : ℕ) → at ≤ k → k < at + n → begins k ≡ false)
    → at + reach begins at end ≡ at + n + reach begins (at + n) end
reach_by begins zero at end within none = ap (λ m. m + reach begins m end) (sym (add-zero at))
reach_by begins (suc n) at end within none =
    let next : at + 1 + n ≡ at + suc n = omega arith in
    reach_more begins at end (omega (arith, within)) (none at (omega arith) (omega arith))
    ∙ reach_by begins n (at + 1) end (omega (arith, within)) (λ k low high. none k (omega (arith, low)) (omega (arith, high)))
    ∙ ap (λ m. m + reach begins m end) next

pub reach_to : (begins : ℕ → Bool) (at to end : ℕ) → at ≤ to → to ≤ end → ((k : ℕ) → at ≤ k → k < to → begins k ≡ false)
    → at + reach begins at end ≡ to + reach begins to end
reach_to begins at to end low within none =
    let there : at + (to - at) ≡ to = omega (arith, low) in
    reach_by begins (to - at) at end (omega (arith, there, within)) (λ k from below. none k from (omega (arith, below, there)))
    ∙ ap (λ m. m + reach begins m end) there

-- .. none where one does ..
pub reach_ends : (begins : ℕ → Bool) (at end : ℕ) → at < end → begins at ≡ true → reach begins at end ≡ 0
reach_ends begins at end within one =
    let count : end - at ≡ end - (at + 1) + 1 = omega arith in
    ap (prefix_len (λ k. not (begins k))) (range_first at (end - at) (end - (at + 1)) count)
    ∙ ap (λ b. cond (not b) (1 + reach begins (at + 1) end) 0) one

-- .. and none at the end
pub reach_none : (begins : ℕ → Bool) (at end : ℕ) → end ≤ at → reach begins at end ≡ 0
reach_none begins at end past =
    let none : end - at ≡ 0 = omega arith in
    ap (λ n. prefix_len (λ k. not (begins k)) (range_with_len at n)) none

-- ---- the groups

-- among the places passed over none begins
none_begin : (begins : ℕ → Bool) (a n : ℕ)
    → filter begins (range_with_len a (prefix_len (λ k. not (begins k)) (range_with_len a n))) ≡ []
none_begin begins a zero = refl
none_begin begins a (suc n) =
    let m = prefix_len (λ k. not (begins k)) (range_with_len (a + 1) n) in
    let rest : filter begins (range_with_len (a + 1) m) ≡ [] = none_begin begins (a + 1) n in
    let step : (here : Bool) → begins a ≡ here → filter begins (range_with_len a (cond (not here) (1 + m) 0)) ≡ [] =
    λ here is. elim here as (λ h. begins a ≡ h → filter begins (range_with_len a (cond (not h) (1 + m) 0)) ≡ []) [
      | true ↦ λ one. refl
      | false ↦ λ none. let more : 1 + m ≡ m + 1 = omega arith in
          ap (filter begins) (range_first a (1 + m) m more) ∙ rw none rest
    ] is in
    step (begins a) refl

-- a group reaches to the end at most
reach_high : (begins : ℕ → Bool) (a n : ℕ) → prefix_len (λ k. not (begins k)) (range_with_len a n) ≤ n
reach_high begins a zero = omega arith
reach_high begins a (suc n) =
    let rest = reach_high begins (a + 1) n in
    elim (begins a) as (λ b. cond (not b) (1 + prefix_len (λ k. not (begins k)) (range_with_len (a + 1) n)) 0 ≤ suc n) [
      | true ↦ omega arith
      | false ↦ omega arith
    ]

pub end_high : (begins : ℕ → Bool) (at end : ℕ) → at < end → group_end begins at end ≤ end
end_high begins at end within = omega (arith, reach_high begins (at + 1) (end - (at + 1)))

-- where it ends, the next one begins
stops : (begins : ℕ → Bool) (a n : ℕ) → prefix_len (λ k. not (begins k)) (range_with_len a n) < n
    → begins (a + prefix_len (λ k. not (begins k)) (range_with_len a n)) ≡ true
stops begins a zero short = absurd (omega (arith, short))
stops begins a (suc n) short =
    let m = prefix_len (λ k. not (begins k)) (range_with_len (a + 1) n) in
    let rest : m < n → begins (a + 1 + m) ≡ true = stops begins (a + 1) n in
    let step : (here : Bool) → begins a ≡ here → cond (not here) (1 + m) 0 < suc n
    → begins (a + cond (not here) (1 + m) 0) ≡ true =
    λ here is. elim here as (λ h. begins a ≡ h → cond (not h) (1 + m) 0 < suc n → begins (a + cond (not h) (1 + m) 0) ≡ true) [
      | true ↦ λ one low. ap begins (add-zero a) ∙ one
      | false ↦ λ none low. let at : a + (1 + m) ≡ a + 1 + m = omega arith in ap begins at ∙ rest (omega (arith, low))
    ] is in
    step (begins a) refl short

pub next_begins : (begins : ℕ → Bool) (at end : ℕ) → at < end → group_end begins at end < end
    → begins (group_end begins at end) ≡ true
next_begins begins at end within more =
    stops begins (at + 1) (end - (at + 1)) (omega (arith, more))

-- the groups to its end are those before it, and it
pub group_added : (begins : ℕ → Bool) (from at end : ℕ) → from ≤ at → at < end → begins at ≡ true
    → starts begins from (group_end begins at end) ≡ starts begins from at ++ at ∷ []
group_added begins from at end low within here =
    let m = prefix_len (λ k. not (begins k)) (range_with_len (at + 1) (end - (at + 1))) in
    let parts : at + 1 + m - from ≡ at - from + (1 + m) = omega arith in
    let there : from + (at - from) ≡ at = omega arith in
    let more : 1 + m ≡ m + 1 = omega arith in
    let one : filter begins (range_with_len at (1 + m)) ≡ at ∷ [] =
    ap (filter begins) (range_first at (1 + m) m more)
    ∙ ap (λ b. cond b (at ∷ filter begins (range_with_len (at + 1) m)) (filter begins (range_with_len (at + 1) m))) here
    ∙ ap (λ l. at ∷ l) (none_begin begins (at + 1) (end - (at + 1))) in
    ap (λ n. filter begins (range_with_len from n)) parts
    ∙ ap (filter begins) (range_split from (at - from) (1 + m))
    ∙ filter-append begins (range_with_len from (at - from)) (range_with_len (from + (at - from)) (1 + m))
    ∙ ap (λ (a : ℕ). starts begins from at ++ filter begins (range_with_len a (1 + m))) there
    ∙ ap (λ l. starts begins from at ++ l) one

-- the texts of the groups that begin so far
abbrev pub groups_to : (ℕ → List ℕ) → (ℕ → Bool) → ℕ → ℕ → List ℕ
groups_to text begins from at = flat_map text (starts begins from at)

-- one group more
pub groups_more : (text : ℕ → List ℕ) (begins : ℕ → Bool) (from at end : ℕ) → from ≤ at → at < end → begins at ≡ true
    → groups_to text begins from (group_end begins at end) ≡ groups_to text begins from at ++ text at
groups_more text begins from at end low within here =
    ap (flat_map text) (group_added begins from at end low within here)
    ∙ flat_map-append text (starts begins from at) (at ∷ [])
    ∙ ap (λ t. groups_to text begins from at ++ t) (append-nil (text at))
