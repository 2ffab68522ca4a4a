use Rattle.xterm_screen.proofs.screen.Screen.put.Goals as goal

pub returns-clause-told : goal.returns-clause-told
returns-clause-told c = λ before was. c.advance.ensures.told before (c.write.ensures.told before (c.make_room.ensures.told before was))
