use Rattle.xterm_picture.specs.Strokes.{shape_text}
use Rattle.xterm_picture.proofs.strokes.put_shape.Goals as goal

pub returns : goal.returns
unfolding shape_text
returns g c =
    c.gives_join.ensures.both _ _ _ _ _ c.put_drawn.ensures
    (c.gives_join.ensures.both _ _ _ _ _ c.give-2.ensures
    (c.gives_join.ensures.both _ _ _ _ _ c.put_number.ensures c.give.ensures))
