use Rattle.xterm_picture.specs.Grounds.{grounds_text}
use Rattle.xterm_picture.proofs.grounds.put_grounds.Goals as goal

pub returns : goal.returns
unfolding grounds_text
returns g c =
    c.gives_join.ensures.both _ _ _ _ _ c.give-2.ensures
    (c.gives_join.ensures.both _ _ _ _ _ c.put_lines.ensures c.give.ensures)
