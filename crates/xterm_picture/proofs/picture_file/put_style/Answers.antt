use Rattle.xterm_picture.proofs.picture_file.put_style.Goals as goal

pub returns : goal.returns
returns g c =
    c.gives_join.ensures.both _ _ _ _ _ c.give-2.ensures
    (c.gives_join.ensures.both _ _ _ _ _ c.put_rules.ensures c.give.ensures)
