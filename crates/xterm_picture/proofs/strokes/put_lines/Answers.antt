use Rattle.xterm_picture.specs.Strokes.{lines_text}
use Rattle.xterm_picture.proofs.strokes.put_lines.Goals as goal

pub returns : goal.returns
unfolding lines_text
returns g c =
    c.gives_join.ensures.both _ _ _ _ _ c.put_line_where-2.ensures
    (c.gives_join.ensures.both _ _ _ _ _ c.put_line_where.ensures c.put_outlines_where.ensures)
