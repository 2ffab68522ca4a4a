use Rattle.xterm_picture.specs.Strokes.{line_text}
use Rattle.xterm_picture.proofs.strokes.put_line.Goals as goal

pub returns : goal.returns
unfolding line_text
returns g c =
    c.gives_join.ensures.both _ _ _ _ _ c.give-6.ensures
    (c.gives_join.ensures.both _ _ _ _ _ c.put_number-3.ensures
    (c.gives_join.ensures.both _ _ _ _ _ c.give-5.ensures
    (c.gives_join.ensures.both _ _ _ _ _ c.put_number-2.ensures
    (c.gives_join.ensures.both _ _ _ _ _ c.give-4.ensures
    (c.gives_join.ensures.both _ _ _ _ _ c.give-3.ensures
    (c.gives_join.ensures.both _ _ _ _ _ c.give-2.ensures
    (c.gives_join.ensures.both _ _ _ _ _ c.put_number.ensures c.give.ensures)))))))
