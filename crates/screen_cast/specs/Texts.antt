-- Private: the runs of rows that were laid out, slot by slot.
use Rattle.std.specs.Prelude.{◌≡◌, ℕ, ◌≤◌, Bool, List, IfSome, None, Option, slice_index_or}
use Rattle.vt_screen.specs.declared.cell.Row.{Row}
use Rattle.vt_screen.specs.Cells.{row_at}
use Rattle.vt_screen.specs.Limits.{line_count}
use Rattle.vt_screen.specs.Slots.{slot_at}
use Rattle.screen_print.specs.Stills.{Still}
use Rattle.screen_rows.specs.KeptRows.{Kept}
use Rattle.screen_cast.specs.Parts.{runs_part}

-- what a terminal showed, and how its rows are kept
pub record KeptStill : Type 0 where
  pub still : Still
  pub kept : Kept

-- what was laid out is the runs of a row
abbrev pub IsText : Bool → Row → Option (List ℕ) → Type 0
IsText reversed row text = IfSome text (λ laid. laid ≡ runs_part reversed row)

-- in the slot of each line it is those of its row
abbrev pub AreTexts : Bool → List ℕ → List Row → List (Option (List ℕ)) → Type 0
AreTexts reversed order rows texts =
    (line : ℕ) → 1 ≤ line → line ≤ line_count
    → IsText reversed (row_at rows line) (slice_index_or texts (slot_at order line) None)
