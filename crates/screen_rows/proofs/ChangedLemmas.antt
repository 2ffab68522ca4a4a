-- The lines that differ.
use Rattle.std.proofs.Common.{◌≡◌, ℕ, ◌+◌, ◌-◌, ◌≤◌, Bool, List, [], ◌∷◌, ◌++◌, filter, refl, ap, sym, ◌∙◌, arith, cond}
use Rattle.std.specs.List.{range_with_len}
use Rattle.std.proofs.lemmas.List.Elements.{filter-append}
use Rattle.vt_screen.specs.declared.cell.Row.{Row}
use Rattle.screen_rows.proofs.RangeLemmas.{range_more}
use Rattle.screen_rows.specs.SameRows.{changed_lines, is_changed}

-- one line more of those that differ
pub changed_more : (before after : List Row) (line : ℕ) (here : Bool) → 1 ≤ line → here ≡ is_changed before after line
    → filter (is_changed before after) (range_with_len 1 line) ≡ filter (is_changed before after) (range_with_len 1 (line - 1)) ++ cond here (line ∷ []) []
changed_more before after line here low is =
    let n = line - 1 in
    let at : line ≡ n + 1 = omega arith in
    let next : 1 + n ≡ line = omega arith in
    ap (λ m. filter (is_changed before after) (range_with_len 1 m)) at
    ∙ ap (filter (is_changed before after)) (range_more 1 n)
    ∙ filter-append (is_changed before after) (range_with_len 1 n) ((1 + n) ∷ [])
    ∙ ap (λ m. filter (is_changed before after) (range_with_len 1 n) ++ filter (is_changed before after) (m ∷ [])) next
    ∙ ap (λ b. filter (is_changed before after) (range_with_len 1 n) ++ cond b (line ∷ []) []) (sym is)

pub all_changed : (before after : List Row) → filter (is_changed before after) (range_with_len 1 24) ≡ changed_lines before after
unfolding changed_lines
all_changed before after = refl

-- the lines so far, and one more
pub changed_step : (before after : List Row) (line : ℕ) (here : Bool) (old new : List ℕ) → 1 ≤ line → here ≡ is_changed before after line
    → old ≡ filter (is_changed before after) (range_with_len 1 (line - 1)) → new ≡ old ++ cond here (line ∷ []) [] → new ≡ filter (is_changed before after) (range_with_len 1 (line + 1 - 1))
changed_step before after line here old new low is so_far more =
    let same : line ≡ line + 1 - 1 = omega arith in
    more ∙ ap (λ l. l ++ cond here (line ∷ []) []) so_far ∙ sym (changed_more before after line here low is)
    ∙ ap (λ n. filter (is_changed before after) (range_with_len 1 n)) same
