-- The runs of cells.
use Rattle.std.proofs.Common.{◌≡◌, ℕ, zero, suc, ◌==◌, append-nil, ◌+◌, ◌-◌, ◌<◌, ◌≤◌, Bool, true, false, List, [], ◌∷◌, ◌++◌, ap, sym, refl, ◌∙◌, length, get_or, map, filter, drop, take, cond, arith}
use Rattle.std.specs.List.{prefix_len, range_with_len}
use Rattle.std.proofs.lemmas.Bool.Decides.{nat_tests}
use Rattle.std.proofs.lemmas.List.{drop_more, get_or-drop, get_or_default, length-drop, map-append, take_all}
use Rattle.std.proofs.lemmas.List.Elements.{filter-append}
use Rattle.std.proofs.lemmas.List.Sums.{prefix_len_passes, prefix_len_stops}
use Rattle.vt_screen.specs.declared.cell.Cell.{Cell}
use Rattle.vt_screen.specs.Cells.{blank}
use Rattle.screen_rows.specs.declared.runs.Run.{Run}
use Rattle.screen_rows.specs.Runs.{begins, cell_behind, is_like, kind_number, kind_of, run_at}
use Rattle.screen_rows.proofs.RangeLemmas.{range_split}

prefix_short : {X : Type 0} (p : X → Bool) (xs : List X) → prefix_len p xs ≤ length xs
prefix_short p [] = omega arith
prefix_short p (x ∷ xs) =
    let rest = prefix_short p xs in
    elim (p x) as (λ b. cond b (1 + prefix_len p xs) 0 ≤ suc (length xs)) [ true ↦ omega arith | false ↦ omega arith ]

is_like_itself : (cell : Cell) → is_like cell cell ≡ true
is_like_itself cell = grind (arith, nat_tests)

some_prefix : {X : Type 0} (p : X → Bool) (x : X) (xs : List X) → p x ≡ true → 1 ≤ prefix_len p (x ∷ xs)
some_prefix p x xs passes = rw passes (omega arith)

-- a run has a cell, and ends with the cells at most
pub run_low : (cells : List Cell) (before : ℕ) → before < length cells → 1 ≤ (run_at cells before).len
run_low cells before within =
    rw (drop_more cells before blank within) (some_prefix (is_like (cell_behind cells before)) (cell_behind cells before) (drop (before + 1) cells) (is_like_itself (cell_behind cells before)))

pub run_high : (cells : List Cell) (before : ℕ) → before < length cells → before + (run_at cells before).len ≤ length cells
run_high cells before within =
    let short = prefix_short (is_like (cell_behind cells before)) (drop before cells) in
    omega (arith, length-drop before cells)

-- its length as it is counted
pub run_len_is : (cells : List Cell) (before : ℕ) (first : Cell) → before < length cells → first ≡ get_or cells before first
    → prefix_len (is_like first) (take (length cells - before) (drop before cells)) ≡ (run_at cells before).len
run_len_is cells before first within is =
    let here : first ≡ cell_behind cells before = is ∙ get_or_default cells before first blank within in
    ap (λ one. prefix_len (is_like one) (take (length cells - before) (drop before cells))) here
    ∙ ap (prefix_len (is_like (cell_behind cells before))) (take_all (length cells - before) (drop before cells) (omega (arith, length-drop before cells)))

-- the runs of one cell more
run_one : (cells : List Cell) (before : ℕ) (here : Bool) → here ≡ begins cells before
    → map (run_at cells) (filter (begins cells) (before ∷ [])) ≡ cond here (run_at cells before ∷ []) []
run_one cells before true is = rw (sym is) refl
run_one cells before false is = rw (sym is) refl

abbrev pub first_runs : List Cell → ℕ → List Run
first_runs cells n = map (run_at cells) (filter (begins cells) (range_with_len 0 n))

pub runs_more : (cells : List Cell) (before : ℕ) (here : Bool) → here ≡ begins cells before
    → first_runs cells (before + 1) ≡ first_runs cells before ++ cond here (run_at cells before ∷ []) []
runs_more cells before here is =
    ap (λ l. map (run_at cells) (filter (begins cells) l)) (range_split 0 before 1)
    ∙ ap (map (run_at cells)) (filter-append (begins cells) (range_with_len 0 before) ((0 + before) ∷ []))
    ∙ map-append (run_at cells) (filter (begins cells) (range_with_len 0 before)) (filter (begins cells) ((0 + before) ∷ []))
    ∙ ap (λ (k : ℕ). first_runs cells before ++ map (run_at cells) (filter (begins cells) (k ∷ []))) (omega arith)
    ∙ ap (λ l. first_runs cells before ++ l) (run_one cells before here is)

-- ---- the cells of a run

-- cells are of one kind where the numbers of their kinds are the same
abbrev kind_behind : List Cell → ℕ → ℕ
kind_behind cells at = kind_number (kind_of (cell_behind cells at))

same_kind : (a b : ℕ) → (a == b) ≡ true → a ≡ b
same_kind a b is = grind (arith, nat_tests)

other_kind : (a b : ℕ) → (a == b) ≡ false → a ≡ b → ⊥
other_kind a b isnt is = grind (arith, nat_tests)

-- those of a run are of its first one's kind ..
run_like : (cells : List Cell) (before k : ℕ) → k < (run_at cells before).len
    → kind_behind cells before ≡ kind_behind cells (before + k)
run_like cells before k within =
    let passes = prefix_len_passes (is_like (cell_behind cells before)) (drop before cells) k blank within in
    same_kind (kind_behind cells before) (kind_behind cells (before + k)) (rw (sym (get_or-drop before cells k blank)) passes)

-- .. so that none begins inside it ..
none_begins : (cells : List Cell) (before k : ℕ) → k + 1 < (run_at cells before).len → false ≡ begins cells (before + 1 + k)
none_begins cells before k within =
    let here : kind_behind cells before ≡ kind_behind cells (before + k) = run_like cells before k (omega arith) in
    let next : kind_behind cells before ≡ kind_behind cells (before + (k + 1)) = run_like cells before (k + 1) within in
    let at : before + 1 + k - 1 ≡ before + k = omega arith in
    let behind : before + (k + 1) ≡ before + 1 + k = omega arith in
    let same : kind_behind cells (before + 1 + k - 1) ≡ kind_behind cells (before + 1 + k) =
    ap (kind_behind cells) at ∙ sym here ∙ next ∙ ap (kind_behind cells) behind in
    grind (arith, nat_tests, same)

none_inside : (cells : List Cell) (before n : ℕ) → n + 1 ≤ (run_at cells before).len
    → first_runs cells (before + 1 + n) ≡ first_runs cells (before + 1)
none_inside cells before zero within = ap (first_runs cells) (omega arith)
none_inside cells before (suc n) within =
    let more = runs_more cells (before + 1 + n) false (none_begins cells before n (omega arith)) in
    let at : before + 1 + suc n ≡ before + 1 + n + 1 = omega arith in
    ap (first_runs cells) at ∙ more ∙ append-nil (first_runs cells (before + 1 + n)) ∙ none_inside cells before n (omega arith)

-- .. and the runs to its end are those before it, and it
pub run_added : (cells : List Cell) (before : ℕ) → before < length cells → begins cells before ≡ true
    → first_runs cells (before + (run_at cells before).len) ≡ first_runs cells before ++ run_at cells before ∷ []
run_added cells before within here =
    let len = (run_at cells before).len in
    let low : 1 ≤ len = run_low cells before within in
    let at : before + len ≡ before + 1 + (len - 1) = omega arith in
    ap (first_runs cells) at
    ∙ none_inside cells before (len - 1) (omega arith)
    ∙ runs_more cells before true (sym here)

-- the next one begins behind it
pub next_begins : (cells : List Cell) (before : ℕ) → before < length cells
    → before + (run_at cells before).len < length cells → begins cells (before + (run_at cells before).len) ≡ true
next_begins cells before within more =
    let len = (run_at cells before).len in
    let low : 1 ≤ len = run_low cells before within in
    let stops = prefix_len_stops (is_like (cell_behind cells before)) (drop before cells) blank (omega (arith, length-drop before cells)) in
    let last : kind_behind cells before ≡ kind_behind cells (before + (len - 1)) = run_like cells before (len - 1) (omega arith) in
    let at : before + (len - 1) ≡ before + len - 1 = omega arith in
    let other : kind_behind cells before ≡ kind_behind cells (before + len) → ⊥ =
    other_kind (kind_behind cells before) (kind_behind cells (before + len)) (rw (sym (get_or-drop before cells len blank)) stops) in
    let before_it : kind_behind cells before ≡ kind_behind cells (before + len - 1) = last ∙ ap (kind_behind cells) at in
    grind (arith, nat_tests, low, before_it, other)
