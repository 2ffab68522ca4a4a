-- Rows by line.
use Rattle.std.proofs.Common.{◌≡◌, ◌≢◌, ℕ, ◌+◌, ◌-◌, ◌<◌, ◌≤◌, List, length, get_or, set, refl, ap, sym, ◌∙◌, arith, get_or-set_same, get_or-set_other}
use Rattle.std.proofs.lemmas.List.{get_or_default}
use Rattle.std.proofs.lemmas.List.FromFn.{fill_by_all}
use Rattle.vt_screen.specs.declared.cell.Row.{Row}
use Rattle.vt_screen.specs.Cells.{blank_row, row_at}
use Rattle.vt_screen.specs.Table.{nth}

pub nth_is : (rows : List Row) (line : ℕ) → row_at rows line ≡ get_or rows (line - 1) blank_row
unfolding nth
nth_is rows line = refl

-- a row that is written
pub row_set_same : (rows : List Row) (line : ℕ) (row : Row) → 1 ≤ line → line ≤ length rows → row_at (set rows (line - 1) row) line ≡ row
row_set_same rows line row low high =
    let within : line - 1 < length rows = omega arith in
    nth_is (set rows (line - 1) row) line ∙ get_or-set_same rows (line - 1) row blank_row within

pub row_set_other : (rows : List Row) (line k : ℕ) (row : Row) → 1 ≤ line → 1 ≤ k → k ≢ line → row_at (set rows (line - 1) row) k ≡ row_at rows k
row_set_other rows line k row low here other =
    let apart : k - 1 ≢ line - 1 = omega arith in
    nth_is (set rows (line - 1) row) k ∙ get_or-set_other rows (line - 1) (k - 1) row blank_row apart ∙ sym (nth_is rows k)

row_next : (rows : List Row) (k : ℕ) → row_at rows (k + 1) ≡ get_or rows k blank_row
row_next rows k = nth_is rows (k + 1) ∙ ap (λ (i : ℕ). get_or rows i blank_row) (omega arith)

-- rows that are the same line by line
pub rows_by_line : (rows these : List Row) → length rows ≡ 24 → length these ≡ 24
    → ((line : ℕ) → 1 ≤ line → line ≤ 24 → row_at rows line ≡ row_at these line) → rows ≡ these
rows_by_line rows these whole whole' same =
    fill_by_all (λ k. get_or these k blank_row) rows 24 blank_row whole
    (λ k lt. sym (row_next rows k) ∙ same (k + 1) (omega arith) (omega arith) ∙ row_next these k)
    ∙ sym (fill_by_all (λ k. get_or these k blank_row) these 24 blank_row whole' (λ k lt. refl))

-- a row that is read
pub row_read : (rows : List Row) (line : ℕ) (d : Row) → 1 ≤ line → line ≤ length rows → row_at rows line ≡ get_or rows (line - 1) d
row_read rows line d low high =
    let within : line - 1 < length rows = omega arith in
    nth_is rows line ∙ get_or_default rows (line - 1) blank_row d within
