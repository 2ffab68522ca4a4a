-- Tab stops at columns 1 to 132.
use Rattle.std.specs.Prelude.{ℕ, ◌+◌, ◌-◌, Bool, false, List, ◌==◌, find, unwrap_or, if◌then◌else◌}
use Rattle.std.specs.List.{range_with_len}
use Rattle.vt_screen.specs.Table.{table, nth}
use Rattle.vt_screen.specs.Picture.{Picture, right_margin}
use Rattle.vt_screen.specs.Limits.{wide_columns}

-- whether a tab stops at a column (EK-VT100-UG chapter 3, HTS)
abbrev pub stop_at : List Bool → ℕ → Bool
stop_at tabs column = nth false tabs column

-- the first stop right of a column and up to the margin, or the margin where there is none (ours)
abbrev pub stop_after : List Bool → ℕ → ℕ → ℕ
stop_after tabs column margin =
    unwrap_or (find (stop_at tabs) (range_with_len (column + 1) (margin - column))) margin

-- HT (EK-VT100-UG chapter 3; at most to the right margin: ours)
abbrev pub tabbed : Picture → Picture
tabbed p = record p { column = stop_after p.tabs p.column (right_margin p p.line); wrap = false }

-- HTS, or TBC at the cursor's column: whether a tab stops there (EK-VT100-UG chapter 3)
abbrev pub tab_made : Bool → Picture → Picture
tab_made stops p =
    record p { tabs = table wide_columns (λ column. if column == p.column then stops else stop_at p.tabs column) }

-- TBC of all stops (EK-VT100-UG chapter 3, TBC)
abbrev pub tabs_cleared : Picture → Picture
tabs_cleared p = record p { tabs = table wide_columns (λ _. false) }
