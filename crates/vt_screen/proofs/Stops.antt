-- The next tab stop.
use Rattle.std.proofs.Common.{◌≡◌, ℕ, zero, suc, ◌+◌, ◌-◌, ◌<◌, ◌≤◌, Bool, true, false, cond, List, get_or, sym, ap, ◌∙◌, arith}
use Rattle.std.specs.Prelude.{find, unwrap_or, Option, Some}
use Rattle.std.specs.List.{range_with_len}
use Rattle.vt_screen.proofs.Tables.{nth_is}
use Rattle.vt_screen.specs.Tabs.{stop_at, stop_after}

-- one more column without a stop
pub find_next : (test : ℕ → Bool) (a n d : ℕ) → test a ≡ false
    → unwrap_or (find test (range_with_len a (suc n))) d ≡ unwrap_or (find test (range_with_len (a + 1) n)) d
find_next test a n d free = ap (λ (b : Bool). unwrap_or (cond b (Some a) (find test (range_with_len (a + 1) n))) d) free

pub find_here : (test : ℕ → Bool) (a n d : ℕ) → test a ≡ true → unwrap_or (find test (range_with_len a (suc n))) d ≡ a
find_here test a n d there = ap (λ (b : Bool). unwrap_or (cond b (Some a) (find test (range_with_len (a + 1) n))) d) there

chosen_low : (low : ℕ) (b : Bool) (a : ℕ) (others : Option ℕ) (d : ℕ) → low ≤ a → low ≤ unwrap_or others d
    → low ≤ unwrap_or (cond b (Some a) others) d
chosen_low low true a others d below rest = below
chosen_low low false a others d below rest = rest

chosen_high : (b : Bool) (a : ℕ) (others : Option ℕ) (d : ℕ) → a ≤ d → unwrap_or others d ≤ d → unwrap_or (cond b (Some a) others) d ≤ d
chosen_high true a others d within rest = within
chosen_high false a others d within rest = rest

found_low : (test : ℕ → Bool) (low a n d : ℕ) → low ≤ a → low ≤ d → low ≤ unwrap_or (find test (range_with_len a n)) d
found_low test low a zero d below below_d = below_d
found_low test low a (suc n) d below below_d = chosen_low low (test a) a (find test (range_with_len (a + 1) n)) d below (found_low test low (a + 1) n d (omega arith) below_d)

found_high : (test : ℕ → Bool) (a n d : ℕ) → a + n ≤ d + 1 → unwrap_or (find test (range_with_len a n)) d ≤ d
found_high test a zero d fits = omega arith
found_high test a (suc n) d fits = chosen_high (test a) a (find test (range_with_len (a + 1) n)) d (omega arith) (found_high test (a + 1) n d (omega arith))

pub stop_low : (tabs : List Bool) (column margin : ℕ) → column ≤ margin → column ≤ stop_after tabs column margin
stop_low tabs column margin within = found_low (stop_at tabs) column (column + 1) (margin - column) margin (omega arith) within

pub stop_high : (tabs : List Bool) (column margin : ℕ) → column ≤ margin → stop_after tabs column margin ≤ margin
stop_high tabs column margin within = found_high (stop_at tabs) (column + 1) (margin - column) margin (omega arith)

-- a walk to the right: no stop at the next column, a stop there, the margin
pub stop_more : (tabs : List Bool) (column margin : ℕ) → column < margin → stop_at tabs (column + 1) ≡ false
    → stop_after tabs column margin ≡ stop_after tabs (column + 1) margin
stop_more tabs column margin below free =
    ap (λ (n : ℕ). unwrap_or (find (stop_at tabs) (range_with_len (column + 1) n)) margin) (let e : margin - column ≡ suc (margin - (column + 1)) = omega arith in e)
    ∙ find_next (stop_at tabs) (column + 1) (margin - (column + 1)) margin free

pub stop_found : (tabs : List Bool) (column margin : ℕ) → column < margin → stop_at tabs (column + 1) ≡ true
    → stop_after tabs column margin ≡ column + 1
stop_found tabs column margin below there =
    ap (λ (n : ℕ). unwrap_or (find (stop_at tabs) (range_with_len (column + 1) n)) margin) (let e : margin - column ≡ suc (margin - (column + 1)) = omega arith in e)
    ∙ find_here (stop_at tabs) (column + 1) (margin - (column + 1)) margin there

pub stop_none : (tabs : List Bool) (margin : ℕ) → stop_after tabs margin margin ≡ margin
stop_none tabs margin = ap (λ (n : ℕ). unwrap_or (find (stop_at tabs) (range_with_len (margin + 1) n)) margin) (let e : margin - margin ≡ 0 = omega arith in e)

-- the same as the loop meets them, at the column stop
pub stop_here : (tabs : List Bool) (column margin stop : ℕ) → 1 ≤ stop → stop ≤ margin
    → stop_after tabs (stop - 1) margin ≡ stop_after tabs column margin → get_or tabs (stop - 1) false ≡ true
    → stop ≡ stop_after tabs column margin
stop_here tabs column margin stop low high so_far there =
    let next : stop - 1 + 1 ≡ stop = omega arith in
    sym (stop_found tabs (stop - 1) margin (omega arith) (ap (stop_at tabs) next ∙ nth_is false tabs stop ∙ there) ∙ next) ∙ so_far

pub stop_not_here : (tabs : List Bool) (column margin stop : ℕ) → 1 ≤ stop → stop ≤ margin
    → stop_after tabs (stop - 1) margin ≡ stop_after tabs column margin → get_or tabs (stop - 1) false ≡ false
    → stop_after tabs (stop + 1 - 1) margin ≡ stop_after tabs column margin
stop_not_here tabs column margin stop low high so_far free =
    let next : stop - 1 + 1 ≡ stop = omega arith in
    let same : stop + 1 - 1 ≡ stop - 1 + 1 = omega arith in
    ap (λ (k : ℕ). stop_after tabs k margin) same
    ∙ sym (stop_more tabs (stop - 1) margin (omega arith) (ap (stop_at tabs) next ∙ nth_is false tabs stop ∙ free)) ∙ so_far

pub stop_nowhere : (tabs : List Bool) (column margin stop : ℕ) → stop - 1 ≡ margin
    → stop_after tabs (stop - 1) margin ≡ stop_after tabs column margin → margin ≡ stop_after tabs column margin
stop_nowhere tabs column margin stop all so_far =
    sym (ap (λ (k : ℕ). stop_after tabs k margin) all ∙ stop_none tabs margin) ∙ so_far
