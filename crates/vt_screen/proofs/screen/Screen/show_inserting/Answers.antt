use Rattle.vt_screen.proofs.screen.Screen.show_inserting.Goals as goal

pub returns-clause-told : goal.returns-clause-told
returns-clause-told c before told =
    c.put.ensures.told before (c.make_room.ensures.told before (c.take_wrap.ensures.told before told))
