use Rattle.xterm_picture.proofs.attributes.put_named.Goals as goal

pub returns : goal.returns
returns g c =
    c.gives_join.ensures.both _ _ _ _ _ c.give-3.ensures
    (c.gives_join.ensures.both _ _ _ _ _ c.put_further.ensures
    (c.gives_join.ensures.both _ _ _ _ _ c.give-2.ensures c.give.ensures))
