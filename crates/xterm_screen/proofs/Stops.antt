-- Tab stops right and left of a column.
use Rattle.std.proofs.Common.{◌≡◌, ℕ, zero, suc, ◌+◌, ◌-◌, ◌<◌, ◌≤◌, Bool, true, false, cond, List, get_or, refl, sym, ap, ◌∙◌, arith}
use Rattle.std.specs.Prelude.{find, unwrap_or, Option, Some, map}
use Rattle.std.specs.List.{range_with_len}
use Rattle.sheet.specs.Table.{table}
use Rattle.xterm_screen.proofs.Tables.{nth_is}
use Rattle.xterm_screen.specs.Tabs.{stop_at, stop_after, stop_before, times}

-- what is found keeps a bound that each number tried and the default have
bounded_choice : (P : ℕ → Type 0) (b : Bool) (a : ℕ) (others : Option ℕ) (d : ℕ) → P a → P (unwrap_or others d)
    → P (unwrap_or (cond b (Some a) others) d)
bounded_choice P true a others d here rest = here
bounded_choice P false a others d here rest = rest

found_low : (test : ℕ → Bool) (low a n d : ℕ) → low ≤ a → low ≤ d → low ≤ unwrap_or (find test (range_with_len a n)) d
found_low test low a zero d below below_d = below_d
found_low test low a (suc n) d below below_d =
    bounded_choice (λ k. low ≤ k) (test a) a (find test (range_with_len (a + 1) n)) d below (found_low test low (a + 1) n d (omega arith) below_d)

found_high : (test : ℕ → Bool) (a n d : ℕ) → a + n ≤ d + 1 → unwrap_or (find test (range_with_len a n)) d ≤ d
found_high test a zero d fits = omega arith
found_high test a (suc n) d fits =
    bounded_choice (λ k. k ≤ d) (test a) a (find test (range_with_len (a + 1) n)) d (omega arith) (found_high test (a + 1) n d (omega arith))

pub stop_low : (tabs : List Bool) (columns column : ℕ) → column ≤ columns → column ≤ stop_after tabs columns column
stop_low tabs columns column within = found_low (stop_at tabs) column (column + 1) (columns - column) columns (omega arith) within

pub stop_high : (tabs : List Bool) (columns column : ℕ) → column ≤ columns → stop_after tabs columns column ≤ columns
stop_high tabs columns column within = found_high (stop_at tabs) (column + 1) (columns - column) columns (omega arith)

pub stop_on : (tabs : List Bool) (columns column : ℕ) → column < columns → column + 1 ≤ stop_after tabs columns column
stop_on tabs columns column below = found_low (stop_at tabs) (column + 1) (column + 1) (columns - column) columns (omega arith) (omega arith)

-- at the last column there is none
pub stop_none : (tabs : List Bool) (columns : ℕ) → stop_after tabs columns columns ≡ columns
stop_none tabs columns =
    ap (λ (n : ℕ). unwrap_or (find (stop_at tabs) (range_with_len (columns + 1) n)) columns) (let e : columns - columns ≡ 0 = omega arith in e)

-- one more column tried: a stop, or none
found_next : (test : ℕ → Bool) (a n d : ℕ) → test a ≡ false
    → unwrap_or (find test (range_with_len a (suc n))) d ≡ unwrap_or (find test (range_with_len (a + 1) n)) d
found_next test a n d free = ap (λ (b : Bool). unwrap_or (cond b (Some a) (find test (range_with_len (a + 1) n))) d) free

found_here : (test : ℕ → Bool) (a n d : ℕ) → test a ≡ true → unwrap_or (find test (range_with_len a (suc n))) d ≡ a
found_here test a n d there = ap (λ (b : Bool). unwrap_or (cond b (Some a) (find test (range_with_len (a + 1) n))) d) there

stop_more : (tabs : List Bool) (columns column : ℕ) → column < columns → stop_at tabs (column + 1) ≡ false
    → stop_after tabs columns column ≡ stop_after tabs columns (column + 1)
stop_more tabs columns column below free =
    ap (λ (n : ℕ). unwrap_or (find (stop_at tabs) (range_with_len (column + 1) n)) columns)
    (let e : columns - column ≡ suc (columns - (column + 1)) = omega arith in e)
    ∙ found_next (stop_at tabs) (column + 1) (columns - (column + 1)) columns free

stop_found : (tabs : List Bool) (columns column : ℕ) → column < columns → stop_at tabs (column + 1) ≡ true
    → stop_after tabs columns column ≡ column + 1
stop_found tabs columns column below there =
    ap (λ (n : ℕ). unwrap_or (find (stop_at tabs) (range_with_len (column + 1) n)) columns)
    (let e : columns - column ≡ suc (columns - (column + 1)) = omega arith in e)
    ∙ found_here (stop_at tabs) (column + 1) (columns - (column + 1)) columns there

-- the same as a loop meets them, at the column stop
pub stop_here : (tabs : List Bool) (columns column stop : ℕ) → 1 ≤ stop → stop ≤ columns
    → stop_after tabs columns (stop - 1) ≡ stop_after tabs columns column → get_or tabs (stop - 1) false ≡ true
    → stop ≡ stop_after tabs columns column
stop_here tabs columns column stop low high so_far there =
    let next : stop - 1 + 1 ≡ stop = omega arith in
    sym (stop_found tabs columns (stop - 1) (omega arith) (ap (stop_at tabs) next ∙ nth_is false tabs stop low ∙ there) ∙ next) ∙ so_far

pub stop_not_here : (tabs : List Bool) (columns column stop : ℕ) → 1 ≤ stop → stop ≤ columns
    → stop_after tabs columns (stop - 1) ≡ stop_after tabs columns column → get_or tabs (stop - 1) false ≡ false
    → stop_after tabs columns (stop + 1 - 1) ≡ stop_after tabs columns column
stop_not_here tabs columns column stop low high so_far free =
    let next : stop - 1 + 1 ≡ stop = omega arith in
    let same : stop + 1 - 1 ≡ stop - 1 + 1 = omega arith in
    ap (λ (k : ℕ). stop_after tabs columns k) same
    ∙ sym (stop_more tabs columns (stop - 1) (omega arith) (ap (stop_at tabs) next ∙ nth_is false tabs stop low ∙ free)) ∙ so_far

pub stop_nowhere : (tabs : List Bool) (columns column stop : ℕ) → stop - 1 ≡ columns
    → stop_after tabs columns (stop - 1) ≡ stop_after tabs columns column → columns ≡ stop_after tabs columns column
stop_nowhere tabs columns column stop all so_far =
    sym (ap (λ (k : ℕ). stop_after tabs columns k) all ∙ stop_none tabs columns) ∙ so_far

-- something done n times keeps what each time keeps
pub times_keeps : {X : Type 0} (P : X → Type 0) (n : ℕ) (f : X → X) (x : X) → ((y : X) → P y → P (f y)) → P x → P (times n f x)
unfolding times
times_keeps P zero f x keeps holds = holds
times_keeps P (suc n) f x keeps holds = keeps (times n f x) (times_keeps P n f x keeps holds)

pub times_none : {X : Type 0} (f : X → X) (x : X) → times 0 f x ≡ x
unfolding times
times_none f x = refl

pub times_more : {X : Type 0} (n : ℕ) (f : X → X) (x : X) → times (n + 1) f x ≡ f (times n f x)
unfolding times
times_more n f x = ap (λ (k : ℕ). times k f x) (let e : n + 1 ≡ suc n = omega arith in e)

-- where it comes to a rest, it stays there
pub times_rest : {X : Type 0} (n : ℕ) (f : X → X) (x : X) → f x ≡ x → times n f x ≡ x
unfolding times
times_rest zero f x rests = refl
times_rest (suc n) f x rests = ap f (times_rest n f x rests) ∙ rests

pub times_from : {X : Type 0} (more n : ℕ) (f : X → X) (x : X) → f (times n f x) ≡ times n f x → times (more + n) f x ≡ times n f x
unfolding times
times_from zero n f x rests = ap (λ (k : ℕ). times k f x) (let e : 0 + n ≡ n = omega arith in e)
times_from (suc more) n f x rests =
    ap (λ (k : ℕ). times k f x) (let e : suc more + n ≡ suc (more + n) = omega arith in e)
    ∙ ap f (times_from more n f x rests) ∙ rests

pub on_within : (n : ℕ) (tabs : List Bool) (columns column : ℕ) → 1 ≤ column → column ≤ columns
    → (1 ≤ times n (stop_after tabs columns) column) × (times n (stop_after tabs columns) column ≤ columns)
on_within n tabs columns column low high =
    times_keeps (λ k. (1 ≤ k) × (k ≤ columns)) n (stop_after tabs columns) column
    (λ k within. (omega (arith, within.0, within.1, stop_low tabs columns k within.1), stop_high tabs columns k within.1)) (low, high)

pub on_low : (n : ℕ) (tabs : List Bool) (columns column : ℕ) → 1 ≤ column → column ≤ columns → 1 ≤ times n (stop_after tabs columns) column
on_low n tabs columns column low high = (on_within n tabs columns column low high).0

pub on_high : (n : ℕ) (tabs : List Bool) (columns column : ℕ) → column ≤ columns → times n (stop_after tabs columns) column ≤ columns
on_high n tabs columns column high =
    times_keeps (λ k. k ≤ columns) n (stop_after tabs columns) column (λ k within. stop_high tabs columns k within) high

-- the stops left of a column that are steps away or more
abbrev pub stops_left : List Bool → ℕ → ℕ → ℕ
stops_left tabs column steps = unwrap_or (find (stop_at tabs) (map (λ k. column - k) (range_with_len steps (column - steps)))) 1

pub left_first : (tabs : List Bool) (column : ℕ) → stops_left tabs column 1 ≡ stop_before tabs column
unfolding table
left_first tabs column = refl

pub left_more : (tabs : List Bool) (column steps : ℕ) → steps < column → stop_at tabs (column - steps) ≡ false
    → stops_left tabs column steps ≡ stops_left tabs column (steps + 1)
left_more tabs column steps below free =
    ap (λ (n : ℕ). unwrap_or (find (stop_at tabs) (map (λ k. column - k) (range_with_len steps n))) 1)
    (let e : column - steps ≡ suc (column - (steps + 1)) = omega arith in e)
    ∙ ap (λ (b : Bool). unwrap_or (cond b (Some (column - steps)) (find (stop_at tabs) (map (λ k. column - k) (range_with_len (steps + 1) (column - (steps + 1)))))) 1) free

pub left_found : (tabs : List Bool) (column steps : ℕ) → steps < column → stop_at tabs (column - steps) ≡ true
    → stops_left tabs column steps ≡ column - steps
left_found tabs column steps below there =
    ap (λ (n : ℕ). unwrap_or (find (stop_at tabs) (map (λ k. column - k) (range_with_len steps n))) 1)
    (let e : column - steps ≡ suc (column - (steps + 1)) = omega arith in e)
    ∙ ap (λ (b : Bool). unwrap_or (cond b (Some (column - steps)) (find (stop_at tabs) (map (λ k. column - k) (range_with_len (steps + 1) (column - (steps + 1)))))) 1) there

pub left_none : (tabs : List Bool) (column : ℕ) → stops_left tabs column column ≡ 1
left_none tabs column =
    ap (λ (n : ℕ). unwrap_or (find (stop_at tabs) (map (λ k. column - k) (range_with_len column n))) 1) (let e : column - column ≡ 0 = omega arith in e)

-- where a stop is found among some numbers, it is what one of them gives, or the default
found_among : (P : ℕ → Type 0) (test : ℕ → Bool) (f : ℕ → ℕ) (a n d : ℕ) → ((k : ℕ) → a ≤ k → k < a + n → P (f k)) → P d
    → P (unwrap_or (find test (map f (range_with_len a n))) d)
found_among P test f a zero d each otherwise = otherwise
found_among P test f a (suc n) d each otherwise =
    bounded_choice P (test (f a)) (f a) (find test (map f (range_with_len (a + 1) n))) d (each a (omega arith) (omega arith))
    (found_among P test f (a + 1) n d (λ k low high. each k (omega arith) (omega arith)) otherwise)

pub before_low : (tabs : List Bool) (column : ℕ) → 1 ≤ stop_before tabs column
unfolding table
before_low tabs column =
    found_among (λ k. 1 ≤ k) (stop_at tabs) (λ k. column - k) 1 (column - 1) 1 (λ k low high. omega arith) (omega arith)

pub before_high : (tabs : List Bool) (column : ℕ) → 1 ≤ column → stop_before tabs column ≤ column
unfolding table
before_high tabs column low =
    found_among (λ k. k ≤ column) (stop_at tabs) (λ k. column - k) 1 (column - 1) 1 (λ k low' high. omega arith) low

pub back_low : (n : ℕ) (tabs : List Bool) (column : ℕ) → 1 ≤ column → 1 ≤ times n (stop_before tabs) column
back_low n tabs column low = times_keeps (λ k. 1 ≤ k) n (stop_before tabs) column (λ k within. before_low tabs k) low

pub back_high : (n : ℕ) (tabs : List Bool) (column : ℕ) → 1 ≤ column → times n (stop_before tabs) column ≤ column
back_high n tabs column low =
    (times_keeps (λ k. (1 ≤ k) × (k ≤ column)) n (stop_before tabs) column
    (λ k within. (before_low tabs k, omega (arith, within.0, within.1, before_high tabs k within.0))) (low, omega arith)).1

-- the same as a loop meets them, so many steps left
pub left_here : (tabs : List Bool) (column steps : ℕ) → 1 ≤ steps → steps < column
    → stops_left tabs column steps ≡ stop_before tabs column → get_or tabs (column - steps - 1) false ≡ true
    → column - steps ≡ stop_before tabs column
left_here tabs column steps low below so_far there =
    sym (left_found tabs column steps below (nth_is false tabs (column - steps) (omega arith) ∙ there)) ∙ so_far

pub left_not_here : (tabs : List Bool) (column steps : ℕ) → 1 ≤ steps → steps < column
    → stops_left tabs column steps ≡ stop_before tabs column → get_or tabs (column - steps - 1) false ≡ false
    → stops_left tabs column (steps + 1) ≡ stop_before tabs column
left_not_here tabs column steps low below so_far free =
    sym (left_more tabs column steps below (nth_is false tabs (column - steps) (omega arith) ∙ free)) ∙ so_far

pub left_nowhere : (tabs : List Bool) (column steps : ℕ) → steps ≡ column
    → stops_left tabs column steps ≡ stop_before tabs column → 1 ≡ stop_before tabs column
left_nowhere tabs column steps all so_far = sym (ap (λ (k : ℕ). stops_left tabs column k) all ∙ left_none tabs column) ∙ so_far

-- at column 1 there is none
pub before_none : (tabs : List Bool) → stop_before tabs 1 ≡ 1
before_none tabs = sym (left_first tabs 1) ∙ left_none tabs 1

-- a walk that has come to a rest is at its end
pub rested : (n step : ℕ) (f : ℕ → ℕ) (x stop : ℕ) → step ≤ n → stop ≡ times step f x → f stop ≡ stop → stop ≡ times n f x
rested n step f x stop within so_far rests =
    so_far
    ∙ sym (times_from (n - step) step f x (ap f (sym so_far) ∙ rests ∙ so_far))
    ∙ ap (λ (k : ℕ). times k f x) (let e : n - step + step ≡ n = omega arith in e)
