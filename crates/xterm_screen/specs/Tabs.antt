-- Tab stops, one for each column. To go on to a stop leaves a pending wrap, to go back to one clears it (xterm).
use Rattle.std.specs.Prelude.{ℕ, zero, suc, ◌+◌, ◌-◌, Bool, false, List, ◌==◌, find, unwrap_or, if◌then◌else◌}
use Rattle.std.specs.List.{range_with_len}
use Rattle.sheet.specs.Table.{table, nth}
use Rattle.xterm_screen.specs.Picture.{Picture}

-- whether a tab stops at a column (ECMA-48 8.3.62, HTS)
abbrev pub stop_at : List Bool → ℕ → Bool
stop_at tabs column = nth false tabs column

-- the first stop right of a column and up to the last one, or the last one where there is none (ours)
abbrev pub stop_after : List Bool → ℕ → ℕ → ℕ
stop_after tabs columns column =
    unwrap_or (find (stop_at tabs) (range_with_len (column + 1) (columns - column))) columns

-- the first stop left of a column, seen from it, or column 1 where there is none (xterm)
abbrev pub stop_before : List Bool → ℕ → ℕ
stop_before tabs column =
    unwrap_or (find (stop_at tabs) (table (column - 1) (λ steps. column - steps))) 1

-- something done n times
unfoldable pub times : {X : Type 0} → ℕ → (X → X) → X → X
times zero f x = x
times (suc n) f x = f (times n f x)

-- HT (ECMA-48 8.3.60; at most to the last column: ours)
abbrev pub tabbed : Picture → Picture
tabbed p = record p { column = stop_after p.tabs p.columns p.column }

-- CHT: HT n times (ECMA-48 8.3.10)
abbrev pub tabbed_on : ℕ → Picture → Picture
tabbed_on n p = record p { column = times n (stop_after p.tabs p.columns) p.column }

-- CBT: n times back to the stop left of the cursor (ECMA-48 8.3.7)
abbrev pub tabbed_back : ℕ → Picture → Picture
tabbed_back n p = record p { column = times n (stop_before p.tabs) p.column; wrap = false }

-- HTS, or TBC at the cursor's column: whether a tab stops there (ECMA-48 8.3.62, 8.3.154)
abbrev pub tab_made : Bool → Picture → Picture
tab_made stops p =
    record p { tabs = table p.columns (λ column. if column == p.column then stops else stop_at p.tabs column) }

-- TBC of all stops (ECMA-48 8.3.154)
abbrev pub tabs_cleared : Picture → Picture
tabs_cleared p = record p { tabs = table p.columns (λ _. false) }
