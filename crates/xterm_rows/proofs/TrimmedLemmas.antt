-- Rows without the spaces at their end, behind so many cells of which all are blank.
use Rattle.std.proofs.Common.{◌≡◌, ℕ, zero, suc, ◌+◌, ◌-◌, ◌<◌, ◌≤◌, true, List, get_or, length, take, refl, ap, sym, ◌∙◌, arith}
use Rattle.std.specs.List.{suffix_len}
use Rattle.std.proofs.lemmas.List.{length-take-le, take_all, take-take}
use Rattle.std.proofs.lemmas.List.Sums.{suffix_len-le-length, suffix_len-take_yes}
use Rattle.sheet.specs.declared.rendition.Colour.TheVariants.{Default}
use Rattle.sheet.specs.Cells.{Cell, blank, is_covered}
use Rattle.sheet.specs.Grid.{IsUsed}
use Rattle.sheet.specs.Table.{nth}
use Rattle.xterm_rows.specs.RowText.{is_space, trimmed}

-- a blank cell is a space
blank_is_space : is_space (blank Default) ≡ true
unfolding is_space blank is_covered
blank_is_space = refl

-- a cell behind those in use
blank_read : (row : List Cell) (used k : ℕ) → IsUsed row used → used ≤ k → get_or row k (blank Default) ≡ blank Default
unfolding nth
blank_read row used k is past = is.tail (suc k) (omega (arith, past))

-- one cell more may be in use
still_used : (row : List Cell) (used : ℕ) → IsUsed row used → used < length row → IsUsed row (used + 1)
still_used row used is below = record { within = omega (arith, below); tail = λ column past. is.tail column (omega (arith, past)) }

-- what is cut off of those in use, and of all
passed : (row : List Cell) (k used : ℕ) → used + k ≡ length row → IsUsed row used
    → used + suffix_len is_space row ≡ length row + suffix_len is_space (take used row)
passed row zero used all is =
    let whole : take used row ≡ row = take_all used row (omega (arith, all)) in
    omega (arith, all, ap (suffix_len is_space) whole)
passed row (suc k) used all is =
    let below : used < length row = omega (arith, all) in
    let rest = passed row k (used + 1) (omega (arith, all)) (still_used row used is below) in
    let there : used + 1 - 1 ≡ used = omega arith in
    let last : is_space (get_or row (used + 1 - 1) (blank Default)) ≡ true =
    ap (λ n. is_space (get_or row n (blank Default))) there
    ∙ ap is_space (blank_read row used used is (omega arith)) ∙ blank_is_space in
    let one : suffix_len is_space (take (used + 1) row) ≡ 1 + suffix_len is_space (take used row) =
    suffix_len-take_yes is_space row (used + 1) (blank Default) (omega arith) (omega (arith, below)) last
    ∙ ap (λ n. 1 + suffix_len is_space (take n row)) there in
    omega (arith, rest, one)

-- so the cells in use are cut as the whole row is
pub trimmed_used : (row : List Cell) (used : ℕ) → IsUsed row used → trimmed (take used row) ≡ trimmed row
trimmed_used row used is =
    let long : length (take used row) ≡ used = length-take-le used row is.within in
    let most = suffix_len-le-length is_space row in
    let some = suffix_len-le-length is_space (take used row) in
    let all = passed row (length row - used) used (omega (arith, is.within)) is in
    let kept : length row - suffix_len is_space row ≡ used - suffix_len is_space (take used row) = omega (arith, all, most, some, long) in
    let few : used - suffix_len is_space (take used row) ≤ used = omega arith in
    ap (λ n. take (n - suffix_len is_space (take used row)) (take used row)) long
    ∙ take-take (used - suffix_len is_space (take used row)) used row few
    ∙ ap (λ n. take n row) (sym kept)
