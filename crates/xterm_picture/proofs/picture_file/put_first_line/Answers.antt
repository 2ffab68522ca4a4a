use Rattle.xterm_picture.specs.Picture.{first_line}
use Rattle.xterm_picture.proofs.picture_file.put_first_line.Goals as goal

pub returns : goal.returns
unfolding first_line
returns g c =
    c.gives_join.ensures.both _ _ _ _ _ c.put_style.ensures
    (c.gives_join.ensures.both _ _ _ _ _ c.put_print.ensures
    (c.gives_join.ensures.both _ _ _ _ _ c.give.ensures
    (c.gives_join.ensures.both _ _ _ _ _ c.put_moment.ensures c.put_head.ensures)))
