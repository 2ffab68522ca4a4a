-- What the texts' loops go by.
use Rattle.std.proofs.Common.{◌≡◌, ℕ, zero, suc, ◌+◌, ◌-◌, ◌≤◌, Bool, true, false, List, ◌++◌, length, ap, ap₂, ◌∙◌, arith}
use Rattle.vt_screen.specs.Tabs.{stop_at}
use Rattle.screen_rows.specs.Texts.{text_where}
use Rattle.screen_state.specs.StateText.{stop_text, stops_to}

-- one column more
pub stop_more : (tabs : List Bool) (column : ℕ) (stops : Bool) → 1 ≤ column → stop_at tabs column ≡ stops
    → stops_to tabs (column + 1 - 1) ≡ stops_to tabs (column - 1) ++ text_where stops (stop_text column)
unfolding stops_to
stop_more tabs zero stops low is = absurd (omega arith)
stop_more tabs (suc n) stops low is =
    let here : suc n + 1 - 1 ≡ suc n = omega arith in
    let there : n ≡ suc n - 1 = omega arith in
    ap (stops_to tabs) here
    ∙ ap₂ (λ (k : ℕ) (b : Bool). stops_to tabs k ++ text_where b (stop_text (suc n))) there is

-- a text, or none
pub where_short : (holds : Bool) (text : List ℕ) → length (text_where holds text) ≤ length text
where_short true text = omega arith
where_short false text = omega arith
