use Rattle.xterm_picture.specs.Cursor.{opened}
use Rattle.xterm_picture.proofs.rows.put_opening.Goals as goal

pub returns : goal.returns
unfolding opened
returns g c =
    c.gives_join.ensures.both _ _ _ _ _ c.give-2.ensures
    (c.gives_join.ensures.both _ _ _ _ _ c.put_down.ensures c.give.ensures)
