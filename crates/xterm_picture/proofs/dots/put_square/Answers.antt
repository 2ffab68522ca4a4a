use Rattle.xterm_picture.specs.Strokes.{square_text}
use Rattle.xterm_picture.proofs.dots.put_square.Goals as goal

pub returns : goal.returns
unfolding square_text
returns g c =
    c.gives_join.ensures.both _ _ _ _ _ c.give-2.ensures
    (c.gives_join.ensures.both _ _ _ _ _ c.put_difference-2.ensures
    (c.gives_join.ensures.both _ _ _ _ _ c.put_gap.ensures
    (c.gives_join.ensures.both _ _ _ _ _ c.put_difference.ensures c.give.ensures)))
