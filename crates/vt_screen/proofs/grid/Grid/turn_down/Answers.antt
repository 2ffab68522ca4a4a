use Rattle.std.proofs.Common.{ap, ◌∙◌}
use Rattle.vt_screen.specs.Cells.{row_at}
use Rattle.vt_screen.specs.Slots.{rows_of, slot_at}
use Rattle.vt_screen.proofs.Tables.{table_ext}
use Rattle.vt_screen.proofs.Turns.{up_is_down}
use Rattle.vt_screen.proofs.grid.Grid.turn_down.Goals as goal

pub returns-clause-rows : goal.returns-clause-rows
returns-clause-rows c =
    c.turn_up.ensures.rows
    ∙ table_ext 24 _ _ (λ k low high. ap (row_at (rows_of c.args.self.now)) (up_is_down c.args.n c.args.top c.args.bottom c.requires.low c.requires.room c.requires.apart c.requires.high k))

pub returns-clause-order : goal.returns-clause-order
returns-clause-order c =
    c.turn_up.ensures.order
    ∙ table_ext 24 _ _ (λ k low high. ap (slot_at c.args.self.now.order) (up_is_down c.args.n c.args.top c.args.bottom c.requires.low c.requires.room c.requires.apart c.requires.high k))
