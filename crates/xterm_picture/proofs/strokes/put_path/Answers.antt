use Rattle.xterm_picture.specs.Strokes.{path_text}
use Rattle.xterm_picture.proofs.strokes.put_path.Goals as goal

pub returns : goal.returns
unfolding path_text
returns g c =
    c.gives_join.ensures.both _ _ _ _ _ c.give-3.ensures
    (c.gives_join.ensures.both _ _ _ _ _ c.put_lines.ensures
    (c.gives_join.ensures.both _ _ _ _ _ c.give-2.ensures
    (c.gives_join.ensures.both _ _ _ _ _ c.put_stroke_attributes.ensures c.give.ensures)))
