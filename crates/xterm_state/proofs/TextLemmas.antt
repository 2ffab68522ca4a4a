-- What the texts' loops go by.
use Rattle.std.proofs.Common.{◌≡◌, ℕ, zero, suc, ◌+◌, ◌-◌, ◌≤◌, Bool, true, false, List, ◌++◌, length, ap, ap₂, ◌∙◌, arith}
use Rattle.std.specs.Prelude.{if◌then◌else◌}
use Rattle.sheet.specs.Cells.{Cell}
use Rattle.xterm_screen.specs.Picture.{Picture, Sound}
use Rattle.xterm_screen.specs.Tabs.{stop_at}
use Rattle.xterm_escaped.specs.EscapedText.{text_where}
use Rattle.xterm_state.specs.StateText.{sheet_rows, stop_text, stops_to}

-- one column more
pub stop_more : (tabs : List Bool) (column : ℕ) (stops : Bool) → 1 ≤ column → stop_at tabs column ≡ stops
    → stops_to tabs (column + 1 - 1) ≡ stops_to tabs (column - 1) ++ text_where stops (stop_text column)
unfolding stops_to
stop_more tabs zero stops low is = absurd (omega arith)
stop_more tabs (suc n) stops low is =
    let here : suc n + 1 - 1 ≡ suc n = omega arith in
    let there : n ≡ suc n - 1 = omega arith in
    ap (stops_to tabs) here
    ∙ ap₂ (λ (k : ℕ) (b : Bool). stops_to tabs k ++ text_where b (stop_text (suc n))) there is

either_long : (b : Bool) (one two : List (List Cell)) (n : ℕ) → length one ≡ n → length two ≡ n → length (if b then one else two) ≡ n
either_long true one two n first second = first
either_long false one two n first second = second

-- either sheet has all lines
pub rows_long : (alternate : Bool) (p : Picture) → Sound p → length (sheet_rows alternate p) ≡ p.lines
rows_long true p sound = either_long p.alternate p.rows p.other p.lines sound.rows sound.other
rows_long false p sound = either_long p.alternate p.other p.rows p.lines sound.other sound.rows
