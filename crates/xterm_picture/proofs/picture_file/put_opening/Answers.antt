use Rattle.xterm_picture.specs.Picture.{opening_text}
use Rattle.xterm_picture.proofs.picture_file.put_opening.Goals as goal

pub returns : goal.returns
unfolding opening_text
returns g c =
    c.gives_join.ensures.both _ _ _ _ _ c.give-6.ensures
    (c.gives_join.ensures.both _ _ _ _ _ c.put_number-4.ensures
    (c.gives_join.ensures.both _ _ _ _ _ c.give-5.ensures
    (c.gives_join.ensures.both _ _ _ _ _ c.put_number-3.ensures
    (c.gives_join.ensures.both _ _ _ _ _ c.give-4.ensures
    (c.gives_join.ensures.both _ _ _ _ _ c.put_number-2.ensures
    (c.gives_join.ensures.both _ _ _ _ _ c.give-3.ensures
    (c.gives_join.ensures.both _ _ _ _ _ c.put_number.ensures
    (c.gives_join.ensures.both _ _ _ _ _ c.give-2.ensures
    (c.gives_join.ensures.both _ _ _ _ _ c.put_ink.ensures c.give.ensures)))))))))
