use Rattle.xterm_picture.specs.Cursor.{cursor_text}
use Rattle.xterm_picture.proofs.cursor.put_line.Goals as goal

pub returns : goal.returns
unfolding cursor_text
returns g c =
    c.gives_join.ensures.both _ _ _ _ _ c.give.ensures
    (c.gives_join.ensures.both _ _ _ _ _ c.put_shown.ensures c.put_opening.ensures)
