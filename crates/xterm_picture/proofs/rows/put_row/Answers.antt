use Rattle.xterm_picture.specs.Framed.{row_text}
use Rattle.xterm_picture.proofs.rows.put_row.Goals as goal

pub returns : goal.returns
unfolding row_text
returns g c =
    c.gives_join.ensures.both _ _ _ _ _ c.give.ensures
    (c.gives_join.ensures.both _ _ _ _ _ c.put_inked.ensures c.put_opening.ensures)
