use Rattle.xterm_picture.proofs.letters.put_next.Goals as goal

pub returns : goal.returns
returns g c =
    c.gives_join.ensures.both _ _ _ _ _ c.put_number.ensures c.give.ensures
