use Rattle.std.proofs.Common.{◌≡◌, ℕ, ◌<◌, ◌≤◌, None, get_or}
use Rattle.vt_screen.specs.Cells.{row_at}
use Rattle.vt_screen.specs.Slots.{slot_at}
use Rattle.screen_cast.specs.Texts.{IsText}
use Rattle.screen_cast.proofs.texts.forget_others.Given as goal

-- the texts of the lines so far are those of their rows, and the others are as they were
abbrev pub invariant-loop-line : goal.invariant-loop-line
invariant-loop-line l = record {
  done : (k : ℕ) → 1 ≤ k → k < l.line → IsText l.reversed (row_at l.screen.picture.rows k) (get_or l.texts (slot_at l.screen.order k) None);
  still : (k : ℕ) → l.line ≤ k → k ≤ 24 → get_or l.texts (slot_at l.screen.order k) None ≡ get_or l.fn.texts (slot_at l.screen.order k) None;
}
