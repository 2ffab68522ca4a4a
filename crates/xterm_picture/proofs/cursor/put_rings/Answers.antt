use Rattle.xterm_picture.specs.Cursor.{rings_text}
use Rattle.xterm_picture.proofs.cursor.put_rings.Goals as goal

pub returns : goal.returns
unfolding rings_text
returns g c =
    c.gives_join.ensures.both _ _ _ _ _ c.give-4.ensures
    (c.gives_join.ensures.both _ _ _ _ _ c.put_inner.ensures
    (c.gives_join.ensures.both _ _ _ _ _ c.put_number-2.ensures
    (c.gives_join.ensures.both _ _ _ _ _ c.give-3.ensures
    (c.gives_join.ensures.both _ _ _ _ _ c.put_outer.ensures
    (c.gives_join.ensures.both _ _ _ _ _ c.put_number.ensures
    (c.gives_join.ensures.both _ _ _ _ _ c.give-2.ensures
    (c.gives_join.ensures.both _ _ _ _ _ c.put_back.ensures c.give.ensures)))))))
