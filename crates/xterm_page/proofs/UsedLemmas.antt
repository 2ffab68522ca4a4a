-- Rows behind so many cells of which all are blank.
use Rattle.std.proofs.Common.{◌≡◌, ◌≢◌, ℕ, zero, suc, ◌+◌, ◌-◌, ◌<◌, ◌≤◌, Bool, true, false, List, [], get_or, length, take, drop, refl, ap, ap₂, sym, ◌∙◌, arith, inl, inr}
use Rattle.std.specs.List.{suffix_len}
use Rattle.std.proofs.lemmas.Bool.{cases_Bool, cases_lt}
use Rattle.std.proofs.lemmas.List.{drop_all, drop_more, get_or-drop, get_or-take, length-drop, length-take-le, take_all, take-take}
use Rattle.std.proofs.lemmas.List.Sums.{suffix_len-le-length, suffix_len-take_yes}
use Rattle.sheet.specs.declared.rendition.Colour.TheVariants.{Default}
use Rattle.sheet.specs.Cells.{Cell, blank}
use Rattle.sheet.specs.Grid.{IsUsed}
use Rattle.sheet.specs.Mixed.{mixed}
use Rattle.sheet.specs.Numbers.{attribute_number, colour_number, style_number, text_number}
use Rattle.sheet.specs.Table.{nth}
use Rattle.xterm_rows.specs.Ink.{inked, is_blank}
use Rattle.xterm_rows.proofs.LetterLemmas.{blank_is}
use Rattle.xterm_page.specs.Same.{row_number, same_row}
use Rattle.xterm_page.proofs.EqualLemmas.{lists_equal, rows_equal}
use Rattle.xterm_page.proofs.SameLemmas.{row_itself}

-- a cell behind them
pub blank_read : (row : List Cell) (used k : ℕ) → IsUsed row used → used ≤ k → get_or row k (blank Default) ≡ blank Default
unfolding nth
blank_read row used k is past = is.tail (suc k) (omega (arith, past))

-- rows that agree up to where both are in use are equal
pub used_equal : (one other : List Cell) (end used used' : ℕ) → length one ≡ length other → IsUsed one used → IsUsed other used'
    → used ≤ end → used' ≤ end → take end one ≡ take end other → one ≡ other
used_equal one other end used used' long is is' low low' same =
    lists_equal (blank Default) one other long (λ k below. elim (cases_lt k end) [
      | inl within ↦ sym (get_or-take end one k (blank Default) within) ∙ ap (λ l. get_or l k (blank Default)) same ∙ get_or-take end other k (blank Default) within
      | inr past ↦ blank_read one used k is (omega (arith, low, past)) ∙ sym (blank_read other used' k is' (omega (arith, low', past)))
    ])

-- what is behind them then
pub used_behind : (one other : List Cell) (end used used' : ℕ) → length one ≡ length other → IsUsed one used → IsUsed other used'
    → used ≤ end → used' ≤ end → drop end one ≡ drop end other
used_behind one other end used used' long is is' low low' =
    lists_equal (blank Default) (drop end one) (drop end other) (length-drop end one ∙ ap (λ n. n - end) long ∙ sym (length-drop end other))
    (λ k below. get_or-drop end one k (blank Default) ∙ blank_read one used (end + k) is (omega (arith, low))
    ∙ sym (blank_read other used' (end + k) is' (omega (arith, low'))) ∙ sym (get_or-drop end other k (blank Default)))

-- rows of other lengths aren't the same
pub other_lengths : (one other : List Cell) → length one ≢ length other → false ≡ same_row one other
other_lengths one other apart = elim (cases_Bool (same_row one other)) [
  | inl t ↦ absurd (apart (ap length (rows_equal one other t)))
  | inr f ↦ sym f
]

-- so they are the same if these parts are
pub used_same : (one other : List Cell) (end used used' : ℕ) (result : Bool) → length one ≡ length other → IsUsed one used → IsUsed other used'
    → used ≤ end → used' ≤ end → (result ≡ true → take end one ≡ take end other) → (result ≡ false → take end one ≢ take end other)
    → result ≡ same_row one other
used_same one other end used used' result long is is' low low' same apart = elim (cases_Bool result) [
  | inl t ↦ t ∙ sym (ap (same_row one) (sym (used_equal one other end used used' long is is' low low' (same t))) ∙ row_itself one)
  | inr f ↦ elim (cases_Bool (same_row one other)) [
    | inl equal ↦ absurd (apart f (ap (take end) (rows_equal one other equal)))
    | inr differ ↦ f ∙ sym differ
  ]
]

-- ---- their numbers

-- a blank cell adds nothing
blank_adds : mixed (row_number []) (blank Default) ≡ row_number []
unfolding mixed blank style_number attribute_number colour_number text_number
blank_adds = refl

-- one cell more
pub number_more : (row : List Cell) (at : ℕ) (d : Cell) → at < length row
    → row_number (drop at row) ≡ mixed (row_number (drop (at + 1) row)) (get_or row at d)
number_more row at d within = ap row_number (drop_more row at d within)

-- one cell more may be in use
still_used : (row : List Cell) (used : ℕ) → IsUsed row used → used < length row → IsUsed row (used + 1)
still_used row used is below = record { within = omega (arith, below); tail = λ column past. is.tail column (omega (arith, past)) }

-- nor do those behind the ones in use
pub nothing_behind : (row : List Cell) (k used : ℕ) → used + k ≡ length row → IsUsed row used → row_number (drop used row) ≡ row_number []
nothing_behind row zero used all is = ap row_number (drop_all used row (omega (arith, all)))
nothing_behind row (suc k) used all is =
    let below : used < length row = omega (arith, all) in
    number_more row used (blank Default) below
    ∙ ap₂ (λ (n : ℕ) (c : Cell). mixed n c) (nothing_behind row k (used + 1) (omega (arith, all)) (still_used row used is below)) (blank_read row used used is (omega arith))
    ∙ blank_adds

-- ---- their ink

passed : (row : List Cell) (k used : ℕ) → used + k ≡ length row → IsUsed row used
    → used + suffix_len is_blank row ≡ length row + suffix_len is_blank (take used row)
passed row zero used all is =
    let whole : take used row ≡ row = take_all used row (omega (arith, all)) in
    omega (arith, all, ap (suffix_len is_blank) whole)
passed row (suc k) used all is =
    let below : used < length row = omega (arith, all) in
    let rest = passed row k (used + 1) (omega (arith, all)) (still_used row used is below) in
    let there : used + 1 - 1 ≡ used = omega arith in
    let last : is_blank (get_or row (used + 1 - 1) (blank Default)) ≡ true =
    ap (λ n. is_blank (get_or row n (blank Default))) there ∙ blank_is (get_or row used (blank Default)) (blank_read row used used is (omega arith)) in
    let one : suffix_len is_blank (take (used + 1) row) ≡ 1 + suffix_len is_blank (take used row) =
    suffix_len-take_yes is_blank row (used + 1) (blank Default) (omega arith) (omega (arith, below)) last
    ∙ ap (λ n. 1 + suffix_len is_blank (take n row)) there in
    omega (arith, rest, one)

pub inked_used : (row : List Cell) (used : ℕ) → IsUsed row used → inked (take used row) ≡ inked row
unfolding inked
inked_used row used is =
    let long : length (take used row) ≡ used = length-take-le used row is.within in
    let most = suffix_len-le-length is_blank row in
    let some = suffix_len-le-length is_blank (take used row) in
    let all = passed row (length row - used) used (omega (arith, is.within)) is in
    let ink : length row - suffix_len is_blank row ≡ used - suffix_len is_blank (take used row) = omega (arith, all, most, some, long) in
    let few : used - suffix_len is_blank (take used row) ≤ used = omega arith in
    ap (λ n. take (n - suffix_len is_blank (take used row)) (take used row)) long
    ∙ take-take (used - suffix_len is_blank (take used row)) used row few
    ∙ ap (λ n. take n row) (sym ink)
